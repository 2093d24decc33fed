use Rattle.std.proofs.Common.{◌≡◌, ◌+◌, ◌≤◌, ◌++◌, drop, length}
use Rattle.sg_plan.specs.Ballots.{ballot_styles, style_has}
use Rattle.sg_plan.specs.inside.Index.{counts_before}
use Rattle.sg_plan.proofs.index_tables.push_counts.Given as goal

abbrev pub invariant-loop-at : goal.invariant-loop-at
invariant-loop-at l = record {
  few : l.count + length (ballot_styles (drop l.at l.plan.runs)) ≤ 20000;
  rest : l.counts ++ counts_before (style_has l.plan l.race) l.count (drop l.at l.plan.runs) ≡ l.fn.counts ++ counts_before (style_has l.plan l.race) 0 l.plan.runs;
}
