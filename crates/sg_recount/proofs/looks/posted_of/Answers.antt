-- The lists have what is posted.
use Rattle.std.proofs.Common.{sym, ◌∙◌}
use Rattle.sg_facts.proofs.Facts.{are_listed}
use Rattle.sg_recount.proofs.looks.posted_of.Goals as goal

pub returns : goal.returns
returns c = c.posted_half.ensures ∙ sym ((are_listed c.args.posted.now).half c.args.half.side c.args.half.at.race c.args.half.at.instance c.args.half.at.row)
