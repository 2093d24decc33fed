use Rattle.std.proofs.Common.{w64, subst, sym}
use Rattle.std.proofs.lemmas.Int.{to_z-of_z}
use Rattle.sg_office.specs.inside.Runs.{Inserted, row_of, rows_of_late}
use Rattle.sg_office.proofs.Stations.{inserted_late}
use Rattle.sg_office.proofs.done_list.put_late.Goals as goal

pub returns-clause-ok : goal.returns-clause-ok
returns-clause-ok c =
    subst (λ entries. Inserted (row_of c.args.station (c.args.number, c.args.text)) (rows_of_late c.args.late.now.entries) (rows_of_late entries)) (sym (rw (to_z-of_z w64 c.args.station c.ranges.station, to_z-of_z w64 c.args.number c.ranges.number) at c.in_ok-insert.ensures.entries))
    (inserted_late c.args.station c.args.number c.args.text c.args.late.now.entries c.requires.new)
