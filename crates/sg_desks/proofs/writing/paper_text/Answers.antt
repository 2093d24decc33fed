use Rattle.sg_desks.proofs.ActsAscii.{paper_ascii}
use Rattle.sg_desks.proofs.writing.paper_text.Goals as goal

pub returns-clause-ascii : goal.returns-clause-ascii
returns-clause-ascii c = paper_ascii c.args.version c.args.paper.now c.join_lists.result c.requires.codes c.join_lists.ensures
