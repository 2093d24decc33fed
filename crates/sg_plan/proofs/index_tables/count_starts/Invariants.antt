use Rattle.std.proofs.Common.{◌≡◌, ◌+◌, ◌≤◌, ◌++◌, true, drop, length}
use Rattle.sg_plan.specs.Ballots.{ballot_styles}
use Rattle.sg_plan.specs.inside.Index.{counts_before}
use Rattle.sg_plan.proofs.index_tables.count_starts.Given as goal

abbrev pub invariant-loop-at : goal.invariant-loop-at
invariant-loop-at l = record {
  few : l.start + length (ballot_styles (drop l.at l.runs)) ≤ 20000;
  rest : l.starts ++ counts_before (λ style. true) l.start (drop l.at l.runs) ≡ counts_before (λ style. true) 0 l.runs;
}
