-- How the commands end.
use Rattle.std.proofs.Common.{◌≡◌, ℕ, List, sym, subst, ap, ◌∙◌, arith}
use Rattle.std.specs.Prelude.{Option}
use Rattle.std.specs.Io.KnownBytes.{IsAtEnd}
use Rattle.sg_outside.specs.Outcomes.{status_of}
use Rattle.sg_outside.specs.Streams.{Seen}
use Rattle.sg_outside.specs.TextLines.{lines_of}
use Rattle.sg_outside.specs.declared.outcome.Outcome.{Outcome}
use Rattle.sg_outside.specs.declared.outcome.Outcome.TheVariants.{Done}
use Rattle.sg_driver.proofs.Cut.{some_then}
use Rattle.sg_driver.proofs.Telling.{ends_due}
use Rattle.sg_driver.specs.Says.{HasRead, IsDue, Says as JudgeSays}
use Rattle.sg_driver.specs.Taken.{TookLines, TookUnended}
use Rattle.sg_parts.specs.declared.parts.RecountFault.{RecountFault}
use Rattle.sg_parts.specs.declared.parts.RecountFault.TheVariants as fault
use Rattle.sg_reports.proofs.Courts.Due.{answer_due}
use Rattle.sg_reports.specs.court.Heard.{IsUnsettled}
use Rattle.sg_reports.specs.court.Recounts.{fault_outcome}
use Rattle.sg_reports.specs.court.Says.{Answers, Says}
use Rattle.sg_reports.specs.court.inside.Answering.{answer_outcome, answer_text, court}
use Rattle.sg_reports.specs.court.inside.Finding.{due_of}
use Rattle.sg_reports.specs.declared.court.answer.CourtAnswer.{CourtAnswer}
use Rattle.sg_reports.specs.declared.court.answer.CourtAnswer.TheVariants.{Fault, Found}
use Rattle.sg_reports.specs.declared.court.found.Question.{Question}

-- no fault ends with the work done
fault_undone : (wrong : RecountFault) → Done ≡ fault_outcome wrong → ⊥
fault_undone (fault.Record line broken) e = omega (arith, ap status_of e)
fault_undone _ e = omega (arith, ap status_of e)

-- where the work is done, the input was read to its end
done_ended : (question : Question) (answer : CourtAnswer) (before now : Option (List ℕ)) → HasRead (court question) answer before now → Done ≡ answer_outcome answer → IsAtEnd now
done_ended question (Found what) before now read e = read.ended (λ none. none)
done_ended question (Fault wrong) before now read e = absurd (fault_undone wrong e)

court_due : (question : Question) (outcome : Outcome) (text : List ℕ) (before now : Option (List ℕ)) → IsDue (court question) outcome text before now → Answers (due_of question) outcome text before now
court_due question outcome text before now due =
    let on : (lines : List (List ℕ)) → due_of question lines (answer_outcome due.answer) (answer_text due.answer) → due_of question lines outcome text =
    λ lines is. subst (λ (o : Outcome). due_of question lines o text) (sym due.outcome_is) (subst (λ (t : List ℕ). due_of question lines (answer_outcome due.answer) t) (sym due.text_is) is) in
    record {
      lines = due.lines;
      due = on due.lines (answer_due question due.lines due.answer due.are);
      told = some_then before due.answers (λ bytes is. on (lines_of bytes) (answer_due question (lines_of bytes) due.answer is));
      took = due.read.took;
      ended = λ done. done_ended question due.answer before now due.read (sym done ∙ due.outcome_is);
    }

pub court_said : (question : Question) (how : Outcome) (input input' out out' : Seen) → JudgeSays (court question) how input input' out out' → Says (due_of question) how input input' out out'
court_said question = ends_due (IsDue (court question)) (Answers (due_of question)) (TookUnended IsUnsettled) (TookLines IsUnsettled) (court_due question)
