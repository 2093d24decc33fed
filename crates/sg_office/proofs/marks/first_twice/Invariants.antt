use Rattle.std.proofs.Common.{◌≡◌, [], not, take, drop}
use Rattle.sg_plan.specs.Limits.{first_bad}
use Rattle.sg_plan.specs.Fates.{has_mark}
use Rattle.sg_office.proofs.marks.first_twice.Given as goal

abbrev pub invariant-loop-at : goal.invariant-loop-at
invariant-loop-at l = first_bad (λ earlier mark. not (has_mark earlier mark.race mark.candidate)) (take l.at l.marks) (drop l.at l.marks) ≡ first_bad (λ earlier mark. not (has_mark earlier mark.race mark.candidate)) [] l.marks
