-- The answer for the setup's row.
use Rattle.sg_store.proofs.Commits.{setup_changes}
use Rattle.sg_store.proofs.writes.add_setup.Goals as goal

pub returns : goal.returns
returns g c = setup_changes g.S.Store c.args.body.now c.args.conn.now c.execute.new.self c.execute.result (λ has. rw c.params-to_sql.ensures at (c.execute.ensures.runs (has.sure.clean c.execute.new.self)))
