-- What is due of the lines of a recount's input (this project's rules for a recount).
use Rattle.std.specs.Prelude.{◌≡◌, ◌≢◌, ℕ, ◌+◌, List, [], ◌∷◌, ◌++◌, codes}
use Rattle.sg_outside.specs.declared.outcome.Outcome.{Outcome}
use Rattle.sg_outside.specs.declared.outcome.Outcome.TheVariants as outcome
use Rattle.sg_parts.specs.Faults.{HasFault}
use Rattle.sg_parts.specs.Given.{AreParts, Given, IsGiven}
use Rattle.sg_parts.specs.declared.parts.RecountFault.{RecountFault}
use Rattle.sg_parts.specs.declared.parts.RecountFault.TheVariants as fault
use Rattle.sg_recount.specs.Findings.{AreFindings, AreSumsBound}
use Rattle.sg_recount.specs.declared.findings.Findings.{Findings}
use Rattle.sg_recount.specs.declared.findings.Sum.{Sum}
use Rattle.sg_report.specs.Report.{no_text}
use Rattle.sg_reports.specs.court.Texts.{altered_text, numbers_line}

-- WHAT IS FOUND

-- `candidate RACE CANDIDATE TOTAL COUNT`, for each candidate of a race, from one on
abbrev pub race_sums_text : ℕ → ℕ → List Sum → List ℕ
race_sums_text race candidate [] = []
race_sums_text race candidate (sum ∷ sums) =
    numbers_line (codes "candidate") (race ∷ candidate ∷ sum.total ∷ sum.count ∷ []) ++ race_sums_text race (candidate + 1) sums

-- for each race, from one on
abbrev pub sums_text : ℕ → List (List Sum) → List ℕ
sums_text race [] = []
sums_text race (sums ∷ lists) = race_sums_text race 0 sums ++ sums_text (race + 1) lists

-- the altered rows, and then the sums
abbrev pub findings_text : Findings → List ℕ
findings_text findings = altered_text 0 findings.altered ++ sums_text 0 findings.sums

-- the lines are a record with a verdict of yes, a printing that stands with it and a completion of its rows; and the text
-- is what a recount finds of them
pub record Finds (lines : List (List ℕ)) (text : List ℕ) : Type 0 where
  pub given : Given
  pub findings : Findings
  pub is_given : IsGiven lines given
  pub parts : AreParts given
  pub are : AreFindings given findings
  pub bound : AreSumsBound given findings
  pub text_is : text ≡ findings_text findings

-- FAULTS

-- the line for a fault
abbrev pub fault_text : RecountFault → List ℕ
fault_text (fault.Record line broken) = no_text line broken
fault_text (fault.Printing line) = numbers_line (codes "refused printing") (line ∷ [])
fault_text (fault.Stand race instance row) = numbers_line (codes "refused stand") (race ∷ instance ∷ row ∷ [])
fault_text (fault.Completion line) = numbers_line (codes "refused completion") (line ∷ [])
fault_text (fault.Opening race instance row) = numbers_line (codes "refused opening") (race ∷ instance ∷ row ∷ [])
fault_text (fault.Posted race instance row) = numbers_line (codes "refused posted") (race ∷ instance ∷ row ∷ [])
fault_text fault.NoMemory = []

-- a fault of the record is its verdict of no, and any other is refused
abbrev pub fault_outcome : RecountFault → Outcome
fault_outcome (fault.Record line broken) = outcome.No
fault_outcome _ = outcome.Refused

-- the lines have a fault, other than want of memory, and the outcome and the text are those for it
pub record IsFaulty (lines : List (List ℕ)) (how : Outcome) (text : List ℕ) : Type 0 where
  pub wrong : RecountFault
  pub has : HasFault lines wrong
  pub known : wrong ≢ fault.NoMemory
  pub outcome_is : how ≡ fault_outcome wrong
  pub text_is : text ≡ fault_text wrong

-- the outcome and the text of a recount: the work is done, and what it finds; or the line for a fault
abbrev pub RecountDue : List (List ℕ) → Outcome → List ℕ → Type 0
RecountDue lines outcome.Done text = Finds lines text
RecountDue lines outcome.No text = IsFaulty lines outcome.No text
RecountDue lines outcome.Refused text = IsFaulty lines outcome.Refused text
RecountDue lines _ text = ⊥
