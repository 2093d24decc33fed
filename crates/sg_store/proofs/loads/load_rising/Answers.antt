-- What is left to show of `load_rising`.
use Rattle.sg_store.proofs.Rising.{loaded_rises}
use Rattle.sg_store.proofs.loads.load_rising.Goals as goal

pub returns-clause-rising : goal.returns-clause-rising
returns-clause-rising g c = loaded_rises g.S.Store c.args.conn.now c.load_rows.result c.load_rows.ensures.found
