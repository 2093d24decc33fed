-- What was written of an office, or where there is none.
use Rattle.sg_outside.specs.Streams.{seen}
use Rattle.sg_clerk.specs.Sheet.{sheet_of}
use Rattle.sg_clerk.proofs.Showing.{closed_shows, office_shows}
use Rattle.sg_clerk.proofs.printing.sheet.Goals as goal

pub returns-in-Ok-clause-says : goal.returns-in-Ok-clause-says
returns-in-Ok-clause-says g c =
    office_shows sheet_of c.write_sheet-shown.result c.in-Ok.office (g.K.Keeper.tells c.args.keeper.now) (g.K.Keeper.rows c.args.keeper.now)
    (g.K.Keeper.faults c.args.keeper.now) (g.K.Keeper.faults c.open_office.new.keeper)
    (seen (g.O.Sink.written c.args.out.now) (g.O.Sink.faults c.args.out.now)) (seen (g.O.Sink.written c.write_sheet-shown.new.out) (g.O.Sink.faults c.write_sheet-shown.new.out))
    c.in-Ok.ensures.opens (rw c.in-Ok.ensures.quiet at c.write_sheet-shown.ensures)

pub returns-in-Err-clause-says : goal.returns-in-Err-clause-says
returns-in-Err-clause-says g c =
    closed_shows sheet_of c.in-Err.how (g.K.Keeper.tells c.args.keeper.now) (g.K.Keeper.rows c.args.keeper.now)
    (g.K.Keeper.faults c.args.keeper.now) (g.K.Keeper.faults c.open_office.new.keeper)
    (seen (g.O.Sink.written c.args.out.now) (g.O.Sink.faults c.args.out.now)) (seen (g.O.Sink.written c.open_office.new.out) (g.O.Sink.faults c.open_office.new.out))
    c.in-Err.ensures.opens
