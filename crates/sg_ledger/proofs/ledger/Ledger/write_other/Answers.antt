use Rattle.sg_ledger.proofs.ledger.Ledger.write_other.Goals as goal

pub returns-in-Paper : goal.returns-in-Paper
returns-in-Paper c = rw c.in-Paper.is c.write_paper.ensures
