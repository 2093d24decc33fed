use Rattle.sg_desks.proofs.ActsAscii.{drawn_ascii}
use Rattle.sg_desks.proofs.writing.draw_text.Goals as goal

pub returns-clause-ascii : goal.returns-clause-ascii
returns-clause-ascii c = drawn_ascii c.args.drawn.now c.drawn_text.result c.know_draw.ensures c.drawn_text.ensures
