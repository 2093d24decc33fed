use Rattle.std.proofs.Common.{◌≡◌, ◌++◌, drop}
use Rattle.sg_plan.specs.Runs.{run_numbers}
use Rattle.sg_plan.proofs.index_tables.number_runs.Given as goal

abbrev pub invariant-loop-at : goal.invariant-loop-at
invariant-loop-at l = l.numbers ++ run_numbers l.at (drop l.at l.runs) ≡ run_numbers 0 l.runs
