use Rattle.std.proofs.Common.{◌≡◌, ◌+◌, ◌≤◌, ◌++◌, drop, length}
use Rattle.sg_plan.specs.Ballots.{ballot_styles, style_has}
use Rattle.sg_plan.specs.inside.Index.{ballots_with}
use Rattle.sg_plan.proofs.index_tables.push_ballots.Given as goal

abbrev pub invariant-loop-at : goal.invariant-loop-at
invariant-loop-at l = record {
  few : l.first + length (ballot_styles (drop l.at l.plan.runs)) ≤ 20001;
  rest : l.ballots ++ ballots_with (style_has l.plan l.race) l.first (ballot_styles (drop l.at l.plan.runs)) ≡ l.fn.ballots ++ ballots_with (style_has l.plan l.race) 1 (ballot_styles l.plan.runs);
}
