use Rattle.sg_ledger.proofs.ledger.Ledger.judge.Goals as goal

pub returns-in-Code : goal.returns-in-Code
returns-in-Code c = rw c.in-Code.is c.judge_code.ensures

pub returns-in-Total : goal.returns-in-Total
returns-in-Total c = rw c.in-Total.is c.judge_total.ensures

pub returns-in-Row : goal.returns-in-Row
returns-in-Row c = rw c.in-Row.is c.judge_row.ensures
