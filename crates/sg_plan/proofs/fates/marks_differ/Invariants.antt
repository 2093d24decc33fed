use Rattle.std.proofs.Common.{◌≡◌, drop}
use Rattle.sg_plan.specs.Fates.{marks_differ}
use Rattle.sg_plan.proofs.fates.marks_differ.Given as goal

abbrev pub invariant-loop-at : goal.invariant-loop-at
invariant-loop-at l = marks_differ (drop l.at l.marks) ≡ marks_differ l.marks
