-- The office that was opened answered the file, or it was written why there is none.
use Rattle.std.proofs.Common.{inl, inr, refl}
use Rattle.sg_clerk.proofs.Talking.{office_talks}
use Rattle.sg_clerk.specs.scans.DoesScans.{ScanTalk, stores_of}
use Rattle.sg_clerk.proofs.scans.scanning.answer_scans.Goals as goal

pub returns-in-Ok-clause-says : goal.returns-in-Ok-clause-says
returns-in-Ok-clause-says g c =
    let office = c.in-Ok.ensures in
    let does = rw office.quiet at c.do_scans-ending.ensures.does in
    rw c.outcome.ensures
    (inl (office_talks ScanTalk stores_of _ c.do_scans-ending.result c.in-Ok.office _ (g.K.Keeper.tells c.open_office.new.keeper) _ (g.K.Keeper.rows c.open_office.new.keeper) _
    _ (g.K.Keeper.faults c.open_office.new.keeper) _ office.starts office.opens office.told office.same office.later does))

pub returns-in-Err-clause-says : goal.returns-in-Err-clause-says
returns-in-Err-clause-says g c = inr (record { unasked = (refl, refl); same = c.in-Err.ensures.same; says = c.in-Err.ensures.opens })
