-- What is judged of lines by their walk is said of records.
use Rattle.std.proofs.Common.{◌≡◌, ℕ, false, List, [], Option, None, Some, refl, sym, ap, ◌∙◌}
use Rattle.std.proofs.lemmas.Option.{none-some}
use Rattle.std.specs.Option.{option_map_or}
use Rattle.std.specs.Prelude.{IfSome}
use Rattle.sg_driver.proofs.Cut.{some_then}
use Rattle.sg_driver.specs.Taken.{TookLines, TookUnended}
use Rattle.sg_grammar.proofs.Walking.{walk-empty}
use Rattle.sg_grammar.specs.Head.{is_behind}
use Rattle.sg_grammar.specs.Walk.{Walked, start, walk}
use Rattle.sg_outside.specs.TextLines.{lines_of}
use Rattle.sg_check.proofs.Judging.{unwalked-least}
use Rattle.sg_check.proofs.OneMore.{fine-all, fine-empty}
use Rattle.sg_check.specs.Verdict.{AreFine, IsVerdict}
use Rattle.sg_check.specs.declared.judged.Judged.{Judged}
use Rattle.sg_check.specs.declared.judged.Kind.TheVariants as kind
use Rattle.sg_fronts.proofs.ByRecords.{least-good, verdicts_say}
use Rattle.sg_fronts.proofs.PlanFronts.{plan_front}
use Rattle.sg_fronts.specs.ByRecords.{IsGoodFront, IsPlanFront}
use Rattle.sg_judge.specs.Pass.{is_behind_plan}
use Rattle.sg_reports.specs.audit.Audit.{Judges}
use Rattle.sg_reports.specs.inside.Judging.{AreOfPlan}

-- the verdict on the lines of told bytes
pub verdict_says : (known : Option (List ℕ)) (found : Judged) → IfSome known (λ bytes. IsVerdict (lines_of bytes) found) → Judges known found
verdict_says known found told = some_then known told (λ bytes is. (verdicts_say (lines_of bytes) found).0 is)

-- a record begins with fine lines
pub fine_front : (lines : List (List ℕ)) → AreFine lines → IsGoodFront lines
fine_front lines fine = least-good lines (fine-all lines fine)

-- and where they are of the plan, they are lines of its plan
pub of_plan_front : (lines : List (List ℕ)) → AreOfPlan lines → IsPlanFront lines
of_plan_front lines of_plan = at_walk (walk start lines) refl
  where
    at_walk : (o : Option Walked) → walk start lines ≡ o → IsPlanFront lines
    at_walk None e = absurd (none-some kind.Form (sym (fine-all lines of_plan.0) ∙ unwalked-least lines e))
    at_walk (Some w) e =
        plan_front lines w e (ap (λ (o : Option Walked). option_map_or (λ (x : Walked). is_behind x.next.head) o false) (sym e) ∙ of_plan.1) of_plan.0

-- no lines are lines of the plan
pub none_of_plan : IsPlanFront []
none_of_plan = of_plan_front [] (fine-empty, ap (λ (o : Option Walked). option_map_or (λ (w : Walked). is_behind w.next.head) o false) (walk-empty start))

-- what was taken, where the lines are also something else
pub took_lines-as : {P Q : List (List ℕ) → Type 0} (before now : Option (List ℕ)) → ((lines : List (List ℕ)) → P lines → Q lines) → TookLines P before now → TookLines Q before now
took_lines-as before now then took = record {
  done = took.done;
  rest = took.rest;
  lines = took.lines;
  are = then took.done took.are;
  short = took.short;
  few = took.few;
  taken = took.taken;
}

pub took_unended-as : {P Q : List (List ℕ) → Type 0} (before now : Option (List ℕ)) → ((lines : List (List ℕ)) → P lines → Q lines) → TookUnended P before now → TookUnended Q before now
unfolding took_lines-as
took_unended-as before now then unended = record { took = took_lines-as before now then unended.took; unended = unended.unended; fewer = unended.fewer }
