-- What is so of a story while it is posted, and its draw.
use Rattle.std.specs.Prelude.{◌≡◌, ℕ, true, List}
use Rattle.std.specs.List.{list_all}
use Rattle.sg_plan.specs.declared.plan.Draw.{Draw}
use Rattle.sg_plan.specs.declared.plan.Draw.TheVariants as drawn
use Rattle.sg_plan.specs.declared.plan.Stage.{Stage}
use Rattle.sg_plan.specs.declared.plan.Stage.TheVariants as stage
use Rattle.sg_streams.specs.CoinSides.{coin_seed}
use Rattle.sg_tables.specs.Tables.{MadeFrom}
use Rattle.sg_post.specs.Fits.{claim_fits, fates_fit}
use Rattle.sg_post.specs.Posting.{IsPosting}
use Rattle.sg_post.specs.declared.posting.Posting.{Posting}
use Rattle.sg_post.specs.declared.story.Story.{Story}

-- the draw at a stage: what stands for it before it is drawn comes in no line
abbrev pub draw_of : Stage → Draw
draw_of stage.Voting = drawn.Full
draw_of stage.Closed = drawn.Full
draw_of (stage.Drawn draw) = draw

-- the seed of the coins, where public bytes are drawn
abbrev pub IsCoinKey : Draw → List ℕ → Type 0
IsCoinKey drawn.Full key = Unit {0}
IsCoinKey (drawn.Public bytes) key = key ≡ coin_seed bytes

-- the story fits, the posting is its own, and the seed is that of the draw
pub record IsReady (tables : MadeFrom) (story : Story) (made : Posting) (draw : Draw) (coins : List ℕ) : Type 0 where
  pub posting : IsPosting tables.plan tables.seed story.fates made
  pub fates : fates_fit tables.plan 0 story.fates ≡ true
  pub claims : list_all (claim_fits tables.plan) story.claims ≡ true
  pub key : IsCoinKey draw coins
