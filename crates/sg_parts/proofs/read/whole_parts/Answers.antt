-- All parts hold.
use Rattle.sg_parts.proofs.Holding.{are_parts}
use Rattle.sg_parts.proofs.read.whole_parts.Goals as goal

pub invariant_of-result : goal.invariant_of-result
invariant_of-result c = (are_parts c.args.posted c.requires.accepted c.args.lists c.args.rows c.requires.printed c.requires.stands c.requires.rows c.requires.openings c.in-Ok.ensures.ok, c.requires.index)
