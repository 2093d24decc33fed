-- What is due for an answer.
use Rattle.std.proofs.Common.{◌≢◌, ℕ, inl, inr, List, length, refl}
use Rattle.sg_parts.specs.Faults.{HasFault}
use Rattle.sg_parts.specs.declared.parts.RecountFault.{RecountFault}
use Rattle.sg_parts.specs.declared.parts.RecountFault.TheVariants as fault
use Rattle.sg_driver.specs.Judging.{IsOfAnswer}
use Rattle.sg_reports.proofs.Courts.Putting.{exponents_are}
use Rattle.sg_reports.specs.court.Recounts.{IsFaulty, fault_outcome, fault_text}
use Rattle.sg_reports.specs.court.inside.Answering.{IsCourtAnswer, answer_outcome, answer_text}
use Rattle.sg_reports.specs.court.inside.Finding.{FindsAll, IsFound, due_of, found_outcome, found_text}
use Rattle.sg_reports.specs.declared.court.answer.CourtAnswer.{CourtAnswer}
use Rattle.sg_reports.specs.declared.court.answer.CourtAnswer.TheVariants.{Fault, Found}
use Rattle.sg_reports.specs.declared.court.exponents.Exponents.TheVariants as exponents
use Rattle.sg_reports.specs.declared.court.found.Found.{Found as FoundAll}
use Rattle.sg_reports.specs.declared.court.found.Found.TheVariants as found
use Rattle.sg_reports.specs.declared.court.found.Question.{Question}
use Rattle.sg_reports.specs.declared.court.found.Question.TheVariants.{Odds, Recount}

-- OUTCOMES

-- a fault ends the command as an answer does
pub fault_answers : (wrong : RecountFault) → IsOfAnswer (fault_outcome wrong)
fault_answers (fault.Record line broken) = tt
fault_answers _ = tt

-- what is due for it is due
pub fault_due : (question : Question) (lines : List (List ℕ)) (wrong : RecountFault) → HasFault lines wrong → wrong ≢ fault.NoMemory → due_of question lines (fault_outcome wrong) (fault_text wrong)
fault_due question lines wrong has known = by_fault question wrong known (record { wrong = wrong; has = has; known = known; outcome_is = refl; text_is = refl })
  where
    by_fault : (asked : Question) (w : RecountFault) → w ≢ fault.NoMemory → IsFaulty lines (fault_outcome w) (fault_text w) → due_of asked lines (fault_outcome w) (fault_text w)
    by_fault Recount fault.NoMemory other faulty = absurd (other refl)
    by_fault Recount _ other faulty = faulty
    by_fault Odds fault.NoMemory other faulty = absurd (other refl)
    by_fault Odds (fault.Record line broken) other faulty = faulty
    by_fault Odds _ other faulty = inr faulty

-- WHAT IS FOUND IS DUE

pub found_answers : (what : FoundAll) → IsOfAnswer (found_outcome what)
found_answers (found.Findings findings) = tt
found_answers (found.Exponents (exponents.All values)) = tt
found_answers (found.Exponents (exponents.NotFull lacking)) = tt

pub found_due : (question : Question) (lines : List (List ℕ)) (what : FoundAll) → FindsAll lines question what → due_of question lines (found_outcome what) (found_text what)
found_due question lines what finds = by_found question what finds.is_found
  where
    by_found : (asked : Question) (these : FoundAll) → IsFound finds.given asked these → due_of asked lines (found_outcome these) (found_text these)
    by_found Recount (found.Findings findings) has = record {
      given = finds.given;
      findings = findings;
      is_given = finds.is_given;
      parts = has.parts;
      are = has.are;
      bound = has.bound;
      text_is = refl;
    }
    by_found Odds (found.Exponents (exponents.All values)) has = record {
      given = finds.given;
      is_given = finds.is_given;
      parts = has.parts;
      full = has.full;
      bound = λ race less. has.bound race less has.full;
      text_is = exponents_are finds.given (length finds.given.posted.plan.races) values has;
    }
    by_found Odds (found.Exponents (exponents.NotFull lacking)) has = inl (record {
      given = finds.given;
      is_given = finds.is_given;
      parts = has.parts;
      race = lacking.race;
      instance = lacking.instance;
      row = lacking.row;
      within = has.within;
      before = has.before;
      first = has.first;
      text_is = refl;
    })
    by_found _ _ none = absurd none

-- AN ANSWER

pub answer_due : (question : Question) (lines : List (List ℕ)) (answer : CourtAnswer) → IsCourtAnswer question lines answer → due_of question lines (answer_outcome answer) (answer_text answer)
answer_due question lines (Found what) finds = found_due question lines what finds
answer_due question lines (Fault wrong) is = fault_due question lines wrong is.1 is.0
