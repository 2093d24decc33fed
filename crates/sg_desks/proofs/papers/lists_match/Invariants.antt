use Rattle.std.proofs.Common.{◌≡◌, take}
use Rattle.sg_desks.specs.inside.Races.{lists_of}
use Rattle.sg_desks.proofs.papers.lists_match.Given as goal

abbrev pub invariant-loop-at : goal.invariant-loop-at
invariant-loop-at l = take l.at l.paper ≡ take l.at (lists_of l.tables.plan l.tables.seed l.fn.ballot l.races)
