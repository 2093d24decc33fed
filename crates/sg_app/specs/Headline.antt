-- The headline: what `audit` answers of the bytes that it reads, and what a yes promises of them.
use Rattle.std.specs.Prelude.{◌≡◌, ℕ, true, List}
use Rattle.sg_outside.specs.Streams.{Seen}
use Rattle.sg_outside.specs.TextLines.{lines_of}
use Rattle.sg_plan.specs.Limits.{plan_keeps}
use Rattle.sg_plan.specs.declared.plan.Plan.{Plan}
use Rattle.sg_keeper.specs.declared.setup.Setup.{Setup}
use Rattle.sg_post.specs.Posted.{posted_text}
use Rattle.sg_post.specs.declared.story.Story.{Story}
use Rattle.sg_histories.specs.Histories.{Entry}
use Rattle.sg_histories.specs.Stories.{story_of}
use Rattle.sg_accepted.specs.Totals.{told_totals}
use Rattle.sg_accepted.specs.Unaltered.{IsUnaltered}
use Rattle.sg_unaltered.specs.UnalteredHistories.{IsUnalteredHistory}
use Rattle.sg_reports.specs.audit.Promise.{IsAnsweredYes, Promise}

-- what the status says of the lines of the bytes that the input had; 0 answers yes, and 1 no
pub record Headline (lines : List (List ℕ)) (status : ℕ) (input input' out out' : Seen) : Type 0 where
  -- `audit` answers yes exactly when the bytes read are a whole record whose openings match their commitments and whose
  -- opened halves agree; then, for every printing and every completion that opens no commitment twice, each R instance has
  -- at least as many rows altered in their unopened halves as any posted total of its race differs from the count of posted
  -- codes;
  pub promise : Promise lines status input input' out out'
  -- every unaltered office run gets yes, with the votes as totals
  pub unaltered : (plan : Plan) (seed : List ℕ) (story : Story) → plan_keeps plan ≡ true → IsUnaltered plan seed story
      → lines ≡ lines_of (posted_text plan seed story) → IsAnsweredYes (told_totals plan seed story.fates) status input input' out out'

-- so do the acts of an office: each unaltered history tells an unaltered run
abbrev pub HistoriesGetYes : List (List ℕ) → ℕ → Seen → Seen → Seen → Seen → Type 0
HistoriesGetYes lines status input input' out out' =
    (setup : Setup) (history : List Entry) → plan_keeps setup.plan ≡ true → IsUnalteredHistory setup history
    → lines ≡ lines_of (posted_text setup.plan setup.seed.0 (story_of setup history))
    → IsAnsweredYes (told_totals setup.plan setup.seed.0 (story_of setup history).fates) status input input' out out'
