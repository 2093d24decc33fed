-- What is left to show of `make_setup`.
use Rattle.sg_store.proofs.Makes.{makes_setup}
use Rattle.sg_store.proofs.tables.make_setup.Goals as goal

pub returns : goal.returns
returns g c = makes_setup g.S.Store c.args.conn.now c.execute.new.self c.execute.result (λ has. c.execute.ensures.runs (has.sure.clean c.execute.new.self))
