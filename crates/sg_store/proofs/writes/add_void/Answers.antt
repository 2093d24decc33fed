-- The answer for a voided ballot's rows.
use Rattle.std.proofs.Common.{w64, rules}
use Rattle.std.proofs.lemmas.Int.{to_z-of_z}
use Rattle.sg_keeper.specs.declared.rows.ChangeRow.TheVariants.{Void}
use Rattle.sg_store.proofs.Commits.{both_change}
use Rattle.sg_store.proofs.writes.add_void.Goals as goal

pub returns : goal.returns
returns g c =
    both_change g.S.Store (record { row = Void c.args.row.now; done = c.args.done.now }) c.args.conn.now c.run_two.new.conn c.run_two.result
    (rw (c.params-to_sql.ensures, c.params-to_sql-2.ensures, c.params-to_sql-3.ensures, c.params-to_sql-4.ensures, c.in_ok-act.ensures, to_z-of_z w64 c.args.row.now.ballot (search rules), to_z-of_z w64 c.args.done.now.station (search rules), to_z-of_z w64 c.args.done.now.number (search rules)) at c.run_two.ensures.both)
    c.run_two.ensures.same c.run_two.ensures.neither c.run_two.ensures.settled
