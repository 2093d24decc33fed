use Rattle.sg_ledger.proofs.ledger.Ledger.write.Goals as goal

pub returns-in-Code : goal.returns-in-Code
returns-in-Code c = rw c.in-Code.is c.write_code.ensures
