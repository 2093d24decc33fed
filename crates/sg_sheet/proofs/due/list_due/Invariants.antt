-- The lines so far were put, and those that are left give all.
use Rattle.std.proofs.Common.{◌≡◌, ◌+◌, ◌++◌, drop}
use Rattle.sg_plan.specs.Ballots.{ballot_styles}
use Rattle.sg_sheet.specs.inside.Listed.{due_from, sheet_due}
use Rattle.sg_sheet.proofs.due.list_due.Given as goal

abbrev pub invariant-loop-at : goal.invariant-loop-at
invariant-loop-at l = l.due ++ due_from l.index (l.at + 1) (drop l.at (ballot_styles l.index.runs)) ≡ sheet_due l.index
