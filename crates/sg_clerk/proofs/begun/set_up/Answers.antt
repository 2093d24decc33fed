-- What was written of a setup that is kept, and of one that is not.
use Rattle.sg_outside.specs.Streams.{seen}
use Rattle.sg_clerk.proofs.Beginning.{refused_sets, tells_sets}
use Rattle.sg_clerk.proofs.begun.set_up.Goals as goal

pub returns-in-Kept-clause-sets : goal.returns-in-Kept-clause-sets
returns-in-Kept-clause-sets g c =
    tells_sets c.tell_begun.result c.args.setup.now (g.K.Keeper.tells c.args.keeper.now) (g.K.Keeper.rows c.args.keeper.now) (g.K.Keeper.rows c.keep.new.keeper)
    (g.K.Keeper.faults c.args.keeper.now) (g.K.Keeper.faults c.keep.new.keeper)
    (seen (g.O.Sink.written c.args.out.now) (g.O.Sink.faults c.args.out.now)) (seen (g.O.Sink.written c.tell_begun.new.out) (g.O.Sink.faults c.tell_begun.new.out))
    c.in-Kept.ensures.keeps c.tell_begun.ensures

pub returns-in-Begun-clause-sets : goal.returns-in-Begun-clause-sets
returns-in-Begun-clause-sets g c =
    refused_sets c.refuse.result c.args.setup.now (g.K.Keeper.tells c.args.keeper.now) (g.K.Keeper.rows c.args.keeper.now) (g.K.Keeper.rows c.keep.new.keeper)
    (g.K.Keeper.faults c.args.keeper.now) (g.K.Keeper.faults c.keep.new.keeper)
    (seen (g.O.Sink.written c.args.out.now) (g.O.Sink.faults c.args.out.now)) (seen (g.O.Sink.written c.refuse.new.out) (g.O.Sink.faults c.refuse.new.out))
    c.in-Begun.ensures.keeps c.refuse.ensures
