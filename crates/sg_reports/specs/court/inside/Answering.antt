-- What is answered on the lines of a recount's input.
use Rattle.std.specs.Prelude.{◌≢◌, ℕ, List, ◌∷◌, ◌++◌}
use Rattle.sg_outside.specs.declared.outcome.Outcome.{Outcome}
use Rattle.sg_driver.specs.Judging.{IsNoLine, Judging}
use Rattle.sg_parts.specs.Faults.{HasFault}
use Rattle.sg_parts.specs.declared.parts.RecountFault.{RecountFault}
use Rattle.sg_parts.specs.declared.parts.RecountFault.TheVariants.{NoMemory}
use Rattle.sg_reports.specs.court.Heard.{IsUnsettled}
use Rattle.sg_reports.specs.court.Recounts.{fault_outcome, fault_text}
use Rattle.sg_reports.specs.court.inside.Finding.{FindsAll, found_outcome, found_text}
use Rattle.sg_reports.specs.declared.court.answer.CourtAnswer.{CourtAnswer}
use Rattle.sg_reports.specs.declared.court.answer.CourtAnswer.TheVariants.{Fault, Found}
use Rattle.sg_reports.specs.declared.court.found.Question.{Question}

-- the lines have this fault, other than want of memory
abbrev pub IsFault : List (List ℕ) → RecountFault → Type 0
IsFault lines wrong = (wrong ≢ NoMemory) × HasFault lines wrong

-- it is the fault where the bytes behind the lines are no line, however they go on
abbrev pub EndsAtNoLine : List (List ℕ) → RecountFault → Type 0
EndsAtNoLine lines wrong = (more : List (List ℕ)) (text : List ℕ) → IsNoLine text → IsFault (lines ++ text ∷ more) wrong

-- it is the answer on the lines
abbrev pub IsCourtAnswer : Question → List (List ℕ) → CourtAnswer → Type 0
IsCourtAnswer question lines (Found what) = FindsAll lines question what
IsCourtAnswer question lines (Fault wrong) = IsFault lines wrong

-- some of the lines may settle a fault, whatever follows
abbrev pub IsRefusal : CourtAnswer → Type 0
IsRefusal (Found what) = ⊥
IsRefusal (Fault wrong) = Unit {0}

abbrev pub answer_outcome : CourtAnswer → Outcome
answer_outcome (Found what) = found_outcome what
answer_outcome (Fault wrong) = fault_outcome wrong

abbrev pub answer_text : CourtAnswer → List ℕ
answer_text (Found what) = found_text what
answer_text (Fault wrong) = fault_text wrong

-- what is judged, by what is asked
abbrev pub court : Question → Judging CourtAnswer
court question = record { IsAnswer = IsCourtAnswer question; Refuses = IsRefusal; Unsettled = IsUnsettled; Wants = IsUnsettled; outcome = answer_outcome; report = answer_text }
