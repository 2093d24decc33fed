use Rattle.sg_ledger.proofs.Laws.{tells_after}
use Rattle.sg_grammar.specs.Coordinates.{placed}
use Rattle.sg_ledger.proofs.ledger.Ledger.keep.Goals as goal

pub returns : goal.returns
returns c = λ lines told fine. rw c.write.ensures (tells_after c.args.self.now.book c.args.self.now lines (placed c.args.line.now) c.plan.ensures.good c.requires.placed told fine)
