-- What was written of an office, or where there is none.
use Rattle.sg_outside.specs.Streams.{seen}
use Rattle.sg_handed.proofs.Ends.{none_ends, office_ends}
use Rattle.sg_handed.proofs.handing.answer_openings.Goals as goal

pub returns-in-Ok-clause-says : goal.returns-in-Ok-clause-says
returns-in-Ok-clause-says g c =
    office_ends c.hand_over-handed.result c.in-Ok.office (g.K.Keeper.tells c.args.keeper.now) (g.K.Keeper.rows c.args.keeper.now)
    (g.K.Keeper.faults c.args.keeper.now) (g.K.Keeper.faults c.open_office.new.keeper)
    (seen (g.O.Sink.written c.args.out.now) (g.O.Sink.faults c.args.out.now)) (seen (g.O.Sink.written c.hand_over-handed.new.out) (g.O.Sink.faults c.hand_over-handed.new.out))
    c.in-Ok.ensures.opens (rw c.in-Ok.ensures.quiet at c.hand_over-handed.ensures)

pub returns-in-Err-clause-says : goal.returns-in-Err-clause-says
returns-in-Err-clause-says g c =
    none_ends c.in-Err.how (g.K.Keeper.tells c.args.keeper.now) (g.K.Keeper.rows c.args.keeper.now)
    (g.K.Keeper.faults c.args.keeper.now) (g.K.Keeper.faults c.open_office.new.keeper)
    (seen (g.O.Sink.written c.args.out.now) (g.O.Sink.faults c.args.out.now)) (seen (g.O.Sink.written c.open_office.new.out) (g.O.Sink.faults c.open_office.new.out))
    c.in-Err.ensures.opens
