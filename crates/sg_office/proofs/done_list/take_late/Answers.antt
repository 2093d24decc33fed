use Rattle.std.proofs.Common.{rules, w64, ap, ◌∙◌}
use Rattle.std.proofs.lemmas.Int.{to_z-of_z}
use Rattle.sg_office.specs.inside.Runs.{rows_of_late}
use Rattle.sg_office.proofs.Stations.{out_of_late}
use Rattle.sg_office.proofs.done_list.take_late.Goals as goal

pub returns : goal.returns
returns c =
    ap rows_of_late (rw (to_z-of_z w64 c.args.done.now.station (search rules), to_z-of_z w64 c.args.done.now.number (search rules)) at c.remove.ensures.entries)
    ∙ out_of_late c.args.done.now c.args.late.now.entries
