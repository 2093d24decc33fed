-- What is so of lines that were taken.
use Rattle.std.proofs.Common.{◌≡◌, ℕ, ◌≤◌, inl, inr, List, [], ◌∷◌, ◌++◌, length, Option, Some, None, refl, sym, subst, ap, ◌∙◌, arith}
use Rattle.std.specs.Prelude.{Result, Ok, Err, IfOk}
use Rattle.std.specs.Result.{OnErr}
use Rattle.sg_grammar.proofs.Counting.{most_lines_stand}
use Rattle.sg_grammar.specs.Walk.{Walked, start, walk}
use Rattle.sg_check.proofs.Judging.{unwalked-least}
use Rattle.sg_check.proofs.OneMore.{fine-all, fine-empty}
use Rattle.sg_check.specs.Verdict.{AreFine}
use Rattle.sg_check.specs.declared.judged.Kind.TheVariants as kind
use Rattle.sg_driver.specs.Standing.{Goes}
use Rattle.sg_driver.specs.declared.judge.Standing.{Standing}
use Rattle.sg_driver.specs.declared.judge.Standing.TheVariants.{Open, Settled}
use Rattle.sg_plan.proofs.PlanLaws.{bounds}
use Rattle.sg_parts.proofs.Accepting.{fine, good_plan}
use Rattle.sg_parts.proofs.Finding.{readings_hold}
use Rattle.sg_parts.proofs.Wholes.{due_few}
use Rattle.sg_parts.specs.Faults.{record_lines}
use Rattle.sg_parts.specs.Reads.{HasRead, lines_left}
use Rattle.sg_parts.specs.declared.reading.PartsReading.{PartsReading}
use Rattle.sg_reports.proofs.Auditing.Judging.{fine_front}
use Rattle.sg_reports.proofs.Courts.Words.{all_before, none_behind}
use Rattle.sg_reports.specs.court.Heard.{IsUnsettled}
use Rattle.sg_reports.specs.court.inside.Answering.{court}
use Rattle.sg_reports.specs.court.inside.Hearing.{HearingGoes, IsSettled, Stands}
use Rattle.sg_reports.specs.declared.court.hearing.Taken.{Taken}
use Rattle.sg_reports.specs.declared.court.hearing.Taken.TheVariants as taken
use Rattle.sg_reports.specs.declared.court.found.Question.{Question}

-- fine lines stand where they may
fine_walks : (lines : List (List ℕ)) → AreFine lines → (w : Walked) × (walk start lines ≡ Some w)
fine_walks lines fine = by_walk (walk start lines) refl
  where
    broken : None ≡ Some kind.Form → ⊥
    broken e = cc

    by_walk : (walked : Option Walked) → walk start lines ≡ walked → (w : Walked) × (walk start lines ≡ Some w)
    by_walk None e = absurd (broken (sym (fine-all lines fine) ∙ unwalked-least lines e))
    by_walk (Some w) e = (w, e)

-- so they are few
pub fine_few : (lines : List (List ℕ)) → AreFine lines → length lines ≤ 1200000
fine_few lines fine = let walks = fine_walks lines fine in most_lines_stand lines walks.0 walks.1

-- no lines settle nothing
pub none_unsettled : IsUnsettled []
none_unsettled = record { good = fine_front [] fine-empty; whole = inl refl; few = omega arith }

-- nor do lines that were taken
pub taken_unsettled : (taken : Taken) (lines : List (List ℕ)) → Stands taken lines → IsUnsettled lines
taken_unsettled (taken.Record record_taken) lines is = record {
  good = fine_front (record_lines lines) (subst AreFine (sym (all_before lines is.wordless)) is.fine);
  whole = inl (none_behind lines is.wordless);
  few = omega (arith, fine_few lines is.fine);
}
taken_unsettled (taken.Parts parts) lines read =
    let holds = readings_hold parts lines read in
    let of = read.of_record in
    record {
      good = fine_front (record_lines lines) (subst AreFine (sym of.text) (fine parts.posted of.accepted).fine);
      whole = inr (parts.posted, record { words = of.accepted.words; formed = of.accepted.formed; text = of.text });
      few = holds.few;
    }
taken_unsettled (taken.Fault wrong) lines none = absurd none

-- of all parts few lines may still come
pub parts_left : (parts : PartsReading) (lines : List (List ℕ)) → HasRead parts lines → lines_left parts ≤ 860002
parts_left parts lines read =
    let plan = parts.posted.plan in
    let good = good_plan parts.posted read.of_record.accepted in
    omega (arith, due_few plan good, (bounds plan good).few_r_rows, ap length read.due_are, read.count)

-- so it is where memory was wanted
pub on_err : {A E : Type 0} (P : Type 0) (result : Result A E) → P → OnErr result P
on_err P (Ok answer) is = tt
on_err P (Err wanted) is = is

-- a judge goes on as the hearing does
pub judge_goes : {E : Type 0} (question : Question) (old new : Taken) (line : List ℕ) (result : Result Standing E)
    → IfOk result (λ standing. (lines : List (List ℕ)) → Stands old lines → HearingGoes standing new (lines ++ line ∷ []))
    → IfOk result (λ standing. (lines : List (List ℕ)) → Stands old lines → Goes (court question) (Stands new) (IsSettled new) standing (lines ++ line ∷ []))
judge_goes question old new line (Ok Open) goes = λ lines stands. let next = goes lines stands in (next, taken_unsettled new (lines ++ line ∷ []) next)
judge_goes question old new line (Ok Settled) goes = goes
judge_goes question old new line (Err wanted) goes = tt
