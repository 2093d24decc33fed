use Rattle.std.proofs.Common.{◌≡◌, ◌≤◌, [], take, drop}
use Rattle.sg_plan.specs.Limits.{first_bad, race_fits}
use Rattle.sg_plan.proofs.limits.first_bad_race.Given as goal

abbrev pub invariant-loop-at : goal.invariant-loop-at
invariant-loop-at l = record {
  few : l.at ≤ 32;
  rest : first_bad race_fits (take l.at l.races) (drop l.at l.races) ≡ first_bad race_fits [] l.races;
}
