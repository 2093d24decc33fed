-- The lines so far were put, and those that are left give all.
use Rattle.std.proofs.Common.{◌≡◌, ◌++◌, drop, map}
use Rattle.sg_sheet.specs.inside.Listed.{codes_due}
use Rattle.sg_sheet.proofs.due.push_races.Given as goal

abbrev pub invariant-loop-at : goal.invariant-loop-at
invariant-loop-at l = l.due ++ map (codes_due l.index l.ballot) (drop l.at l.races) ≡ l.fn.due ++ map (codes_due l.index l.ballot) l.races
