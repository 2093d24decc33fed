-- Where no office was opened, what was written says why.
use Rattle.sg_outside.specs.Streams.{seen}
use Rattle.sg_clerk.proofs.Opening.{closed_says}
use Rattle.sg_clerk.proofs.office.open_office.Goals as goal

pub returns-in-Err-clause-opens : goal.returns-in-Err-clause-opens
returns-in-Err-clause-opens g c =
    closed_says c.in-Err.why c.show_closed.result (g.K.Keeper.tells c.args.keeper.now) (g.K.Keeper.rows c.args.keeper.now)
    (g.K.Keeper.faults c.args.keeper.now) (g.K.Keeper.faults c.open_kept.new.keeper)
    (seen (g.O.Sink.written c.args.out.now) (g.O.Sink.faults c.args.out.now)) (seen (g.O.Sink.written c.show_closed.new.out) (g.O.Sink.faults c.show_closed.new.out))
    c.in-Err.ensures.opens c.show_closed.ensures
