-- What the page is told of the bytes of a record.
use Rattle.std.specs.Prelude.{◌≡◌, ℕ, ◌-◌, ◌==◌, true, false, List, [], ◌∷◌, Option, Some, None, cond}
use Rattle.sg_outside.specs.TextLines.{lines_of}
use Rattle.sg_plan.specs.Limits.{fault_of}
use Rattle.sg_plan.specs.declared.plan.Plan.{Plan}
use Rattle.sg_keeper.specs.declared.setup.Setup.{Setup}
use Rattle.sg_check.specs.Bounds.{IsSoundIfYes}
use Rattle.sg_check.specs.Verdict.{IsVerdict, are_whole, breaks}
use Rattle.sg_check.specs.declared.judged.Judged.{Judged}
use Rattle.sg_check.specs.declared.judged.Judged.TheVariants.{Yes, No}
use Rattle.sg_check.specs.declared.judged.Kind.{Kind}
use Rattle.sg_report.specs.Report.{report_of}
use Rattle.sg_post.specs.Posted.{posted_text}
use Rattle.sg_post.specs.declared.story.Story.{Story}
use Rattle.sg_histories.specs.Histories.{Entry}
use Rattle.sg_histories.specs.Stories.{story_of}
use Rattle.sg_accepted.specs.Unaltered.{IsUnaltered}
use Rattle.sg_unaltered.specs.UnalteredHistories.{IsUnalteredHistory}

-- 0 for yes and 1 for no
abbrev pub status_of : Judged → ℕ
status_of (Yes totals) = 0
status_of (No line broken) = 1

-- what is told of the lines of a record: the status and the report are those of the verdict on them, of which there is one
pub record TellsVerdict (lines : List (List ℕ)) (status : ℕ) (report : List ℕ) : Type 0 where
  pub judged : Judged
  pub verdict : IsVerdict lines judged
  pub status_is : status ≡ status_of judged
  pub report_is : report ≡ report_of judged
  -- yes is told exactly when the lines are a whole record whose openings match their commitments and whose opened halves
  -- agree: no line is bad in any kind;
  pub yes : status ≡ 0 → (k : Kind) → breaks k lines ≡ false
  pub whole : status ≡ 0 → are_whole lines ≡ true
  pub exactly : are_whole lines ≡ true → ((k : Kind) → breaks k lines ≡ false) → status ≡ 0
  -- then, for every printing and every completion that opens no commitment twice, each R instance has at least as many rows
  -- altered in their unopened halves as any posted total of its race differs from the count of posted codes
  pub bound : IsSoundIfYes lines judged
  -- every unaltered office run gets yes: yes is told of what is posted of it,
  pub unaltered : (setup : Setup) (history : List Entry) → fault_of setup.plan ≡ None → IsUnalteredHistory setup history → lines ≡ lines_of (posted_text setup.plan setup.seed.0 (story_of setup history)) → status ≡ 0
  -- and of what is posted of any unaltered story, whether or not an office's acts made it
  pub unaltered_story : (plan : Plan) (seed : List ℕ) (story : Story) → fault_of plan ≡ None → IsUnaltered plan seed story → lines ≡ lines_of (posted_text plan seed story) → status ≡ 0

-- the line of this number, from 1
abbrev pub line_at : ℕ → List (List ℕ) → Option (List ℕ)
line_at number [] = None
line_at number (line ∷ lines) = cond (number == 1) (Some line) (line_at (number - 1) lines)
