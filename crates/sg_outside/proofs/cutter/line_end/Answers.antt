-- The place of the first line feed from `start` on says where the line ends.
use Rattle.sg_outside.proofs.CuttingLemmas.{line_first, line_rest}
use Rattle.sg_outside.proofs.cutter.line_end.Goals as goal

pub returns-in-Some-clause-line : goal.returns-in-Some-clause-line
returns-in-Some-clause-line c = line_first c.args.bytes.now c.args.start c.in-Some.count c.in-Some.ensures.1

pub returns-in-None-clause-line : goal.returns-in-None-clause-line
returns-in-None-clause-line c = line_rest c.args.bytes.now c.args.start c.requires c.in-None.ensures
