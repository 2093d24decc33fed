use Rattle.std.proofs.Common.{◌≡◌, ◌≤◌, [], take, drop, length}
use Rattle.sg_plan.specs.Ballots.{ballot_styles}
use Rattle.sg_plan.specs.Limits.{first_bad, run_keeps}
use Rattle.sg_plan.proofs.limits.first_bad_run.Given as goal

abbrev pub invariant-loop-at : goal.invariant-loop-at
invariant-loop-at l = record {
  ballots : l.ballots ≡ length (ballot_styles (take l.at l.runs));
  most : l.ballots ≤ 20000;
  few : l.at ≤ l.ballots;
  rest : first_bad (run_keeps l.fn.styles) (take l.at l.runs) (drop l.at l.runs) ≡ first_bad (run_keeps l.fn.styles) [] l.runs;
}
