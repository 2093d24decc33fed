-- The lists so far are the first ones of the paper.
use Rattle.std.proofs.Common.{◌≡◌, take}
use Rattle.sg_desks.specs.inside.Races.{lists_of}
use Rattle.sg_sample.proofs.papers.paper.Given as goal

abbrev pub invariant-loop-at : goal.invariant-loop-at
invariant-loop-at l = l.paper ≡ take l.at (lists_of l.tables.plan l.tables.seed l.fn.ballot l.races)
