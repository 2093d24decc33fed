-- That an honest office is cleared: what a court finds in what such an office hands over (this project's rules for a
-- recount).
use Rattle.std.specs.Prelude.{◌≡◌, ℕ, List, [], ◌∷◌, ◌++◌, length, codes, None, Some}
use Rattle.std.specs.Io.KnownBytes.{Appends}
use Rattle.sg_outside.specs.Faults.{Rose}
use Rattle.sg_outside.specs.Streams.{AppendsFront, Seen}
use Rattle.sg_outside.specs.TextLines.{lines_of}
use Rattle.sg_outside.specs.declared.outcome.Outcome.{Outcome}
use Rattle.sg_outside.specs.declared.outcome.Outcome.TheVariants.{Done, ReadFailed, WriteFailed, NoMemory}
use Rattle.sg_plan.specs.Ballots.{candidates_of}
use Rattle.sg_plan.specs.Limits.{fault_of}
use Rattle.sg_plan.specs.declared.plan.Plan.{Plan}
use Rattle.sg_grammar.specs.Due.{each}
use Rattle.sg_post.specs.Marks.{total_of}
use Rattle.sg_post.specs.declared.story.Told.{Told}
use Rattle.sg_keeper.specs.declared.setup.Setup.{Setup}
use Rattle.sg_openings.specs.Openings.{openings_text}
use Rattle.sg_histories.specs.Histories.{Entry}
use Rattle.sg_histories.specs.Stories.{story_of}
use Rattle.sg_clerk.specs.Sheet.{sheet_of}
use Rattle.sg_clerk.specs.Shown.{posted_of}
use Rattle.sg_unaltered.specs.UnalteredHistories.{IsUnalteredHistory}
use Rattle.sg_parts.specs.Given.{printing_line}
use Rattle.sg_recount.specs.declared.findings.Findings.{Findings}
use Rattle.sg_recount.specs.declared.findings.Sum.{Sum}
use Rattle.sg_driver.specs.Says.{ReadFails}
use Rattle.sg_driver.specs.Taken.{TookUnended}
use Rattle.sg_reports.specs.court.Heard.{IsUnsettled}
use Rattle.sg_reports.specs.court.Odds.{OddsDue}
use Rattle.sg_reports.specs.court.Recounts.{RecountDue, findings_text}
use Rattle.sg_reports.specs.court.Says.{OddsSays, RecountSays}
use Rattle.sg_reports.specs.court.Texts.{numbers_line}

-- WHAT IS HANDED OVER

-- what `record` writes of a history, the line `printing`, and what `sheet` and `openings` write: the input of `recount` and
-- of `odds`
abbrev pub handed_of : Setup → List Entry → List ℕ
handed_of setup history = posted_of setup history ++ (printing_line ++ (sheet_of setup history ++ openings_text setup.plan setup.seed.0))

-- WHAT IS FOUND IN IT

-- the total of a candidate by the fates of the ballots, and a count that is the same
abbrev pub even_sum : Plan → List ℕ → List Told → ℕ → ℕ → Sum
even_sum plan seed fates race candidate = record { total = total_of plan seed fates race candidate; count = total_of plan seed fates race candidate }

-- the altered rows of an instance: none
abbrev pub no_rows : List ℕ
no_rows = []

-- no row of any instance is altered, and each total equals its count
abbrev pub clear_findings : Plan → List ℕ → List Told → Findings
clear_findings plan seed fates = record {
  altered = each (λ race. each (λ instance. no_rows ∷ []) 0 plan.instances ∷ []) 0 (length plan.races);
  sums = each (λ race. each (λ candidate. even_sum plan seed fates race candidate ∷ []) 0 (candidates_of plan race) ∷ []) 0 (length plan.races);
}

-- these findings, as `recount` writes them
abbrev pub clear_counts : Setup → List Entry → List ℕ
clear_counts setup history = findings_text (clear_findings setup.plan setup.seed.0 (story_of setup history).fates)

-- the exponent 0 for each race, as `odds` writes it
abbrev pub clear_exponents : Plan → List ℕ
clear_exponents plan = each (λ race. numbers_line (codes "exponent") (race ∷ 0 ∷ [])) 0 (length plan.races)

-- THE LAW

-- of this input this text is due, with the work done, and nothing else: above all no fault
pub record IsDueAlone (Due : List (List ℕ) → Outcome → List ℕ → Type 0) (input clear : List ℕ) : Type 0 where
  pub due : Due (lines_of input) Done clear
  pub only : (outcome : Outcome) (text : List ℕ) → Due (lines_of input) outcome text → (outcome ≡ Done) × (text ≡ clear)

-- the work was done, and this text was written; or a read or a write failed or memory was wanted, and at most a front of it
-- was: there is no other end
abbrev pub Clears : List ℕ → Outcome → Seen → Seen → Seen → Seen → Type 0
Clears clear Done input input' out out' = Appends out.bytes out'.bytes clear
Clears clear ReadFailed input input' out out' = ReadFails (TookUnended IsUnsettled) input input' out out'
Clears clear WriteFailed input input' out out' = Rose out.faults out'.faults × AppendsFront out.bytes out'.bytes clear
Clears clear NoMemory input input' out out' = out' ≡ out
Clears clear _ input input' out out' = ⊥

-- what is due of what an unaltered history hands over: no row is altered, each total equals its count, and each exponent is
-- 0. In both versions, for a full draw and public bytes, whatever was voided, disputed or audited.
pub record IsClear (setup : Setup) (history : List Entry) : Type 0 where
  pub recount : IsDueAlone RecountDue (handed_of setup history) (clear_counts setup history)
  pub odds : IsDueAlone OddsDue (handed_of setup history) (clear_exponents setup.plan)

abbrev pub HonestIsClear : Type 0
HonestIsClear = (setup : Setup) (history : List Entry) → fault_of setup.plan ≡ None → IsUnalteredHistory setup history → IsClear setup history

-- so both commands, where their input is that, say so
pub record IsCleared (setup : Setup) (history : List Entry) (outcome : Outcome) (input input' out out' : Seen) : Type 0 where
  pub recount : RecountSays outcome input input' out out' → Clears (clear_counts setup history) outcome input input' out out'
  pub odds : OddsSays outcome input input' out out' → Clears (clear_exponents setup.plan) outcome input input' out out'

abbrev pub HonestIsCleared : Type 0
HonestIsCleared = (setup : Setup) (history : List Entry) → fault_of setup.plan ≡ None → IsUnalteredHistory setup history
    → (outcome : Outcome) (input input' out out' : Seen) → input.bytes ≡ Some (handed_of setup history) → IsCleared setup history outcome input input' out out'
