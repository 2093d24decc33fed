use Rattle.std.proofs.Common.{◌≡◌, drop, slice_get}
use Rattle.sg_plan.specs.Ballots.{ballot_styles}
use Rattle.sg_plan.proofs.ballots.style_at.Given as goal

abbrev pub invariant-loop-at : goal.invariant-loop-at
invariant-loop-at l = slice_get (ballot_styles (drop l.at l.runs)) l.left ≡ slice_get (ballot_styles l.runs) l.fn.place
