use Rattle.std.proofs.Common.{◌≡◌, ◌+◌, ◌≤◌, drop, take, count_by}
use Rattle.sg_plan.specs.Ballots.{ballot_styles, style_has}
use Rattle.sg_plan.proofs.ballots.count_rows_before.Given as goal

abbrev pub invariant-loop-at : goal.invariant-loop-at
invariant-loop-at l = record {
  few : l.rows + l.left ≤ l.fn.ballots;
  rest : l.rows + count_by (style_has l.plan l.race) (take l.left (ballot_styles (drop l.at l.plan.runs)))
      ≡ count_by (style_has l.plan l.race) (take l.fn.ballots (ballot_styles l.plan.runs));
}
