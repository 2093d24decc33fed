-- Which stories tell an unaltered run (this project's rules for the record).
use Rattle.std.specs.Prelude.{◌≡◌, ℕ, ◌==◌, if◌then◌else◌, true, List, [], ◌∷◌, All}
use Rattle.sg_plan.specs.Ballots.{ballot_row}
use Rattle.sg_plan.specs.declared.plan.Fate.{Fate}
use Rattle.sg_plan.specs.declared.plan.Fate.TheVariants as fate
use Rattle.sg_plan.specs.declared.plan.Plan.{Plan}
use Rattle.sg_plan.specs.declared.plan.Stage.{Stage}
use Rattle.sg_plan.specs.declared.plan.Stage.TheVariants as stage
use Rattle.sg_tables.specs.Posts.{right_word}
use Rattle.sg_tables.specs.Tables.{paper_of}
use Rattle.sg_record.specs.Typed.{AreDrawn}
use Rattle.sg_post.specs.Fits.{story_fits}
use Rattle.sg_post.specs.declared.story.Claimed.{Claimed}
use Rattle.sg_post.specs.declared.story.Story.{Story}
use Rattle.sg_post.specs.declared.story.Told.{Told}

-- the fate that is told of a ballot: the first, and that it is unused where there is none
abbrev pub told_fate : List Told → ℕ → Fate
told_fate [] ballot = fate.Unused
told_fate (told ∷ fates) ballot = (if told.ballot == ballot then told.fate else told_fate fates ballot)

-- a paper that was read is that of the ballot
abbrev pub IsTrueFate : Plan → List ℕ → ℕ → Fate → Type 0
IsTrueFate plan seed ballot (fate.Audited paper) = paper ≡ paper_of plan seed ballot
IsTrueFate plan seed ballot other = Unit {0}

-- sides are drawn, and the public bytes are bytes
abbrev pub IsDrawn : Stage → Type 0
IsDrawn (stage.Drawn draw) = AreDrawn draw
IsDrawn other = ⊥

-- the claim has the right answer
abbrev pub IsRightClaim : Plan → List ℕ → List Told → Claimed → Type 0
IsRightClaim plan seed fates claimed = claimed.word ≡ right_word plan seed claimed.race (ballot_row plan claimed.race claimed.ballot) (told_fate fates claimed.ballot) claimed.code

-- the story fits its plan, sides are drawn, and papers that were read and answers to claims are right
pub record IsUnaltered (plan : Plan) (seed : List ℕ) (story : Story) : Type 0 where
  pub fits : story_fits plan story ≡ true
  pub drawn : IsDrawn story.stage
  pub papers : All (λ (told : Told). IsTrueFate plan seed told.ballot told.fate) story.fates
  pub words : All (IsRightClaim plan seed story.fates) story.claims
