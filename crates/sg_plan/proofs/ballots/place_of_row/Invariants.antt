use Rattle.sg_plan.proofs.BallotLists.{Passed}
use Rattle.sg_plan.specs.Ballots.{style_has}
use Rattle.sg_plan.proofs.ballots.place_of_row.Given as goal

abbrev pub invariant-loop-at : goal.invariant-loop-at
invariant-loop-at l = Passed (style_has l.plan l.race) l.plan.runs l.at l.passed l.left l.fn.row
