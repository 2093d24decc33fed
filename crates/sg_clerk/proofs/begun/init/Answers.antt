-- A file that was read, and one that is refused.
use Rattle.std.proofs.Common.{refl}
use Rattle.sg_outside.specs.Streams.{seen}
use Rattle.sg_clerk.proofs.Beginning.{bad_ends, good_ends}
use Rattle.sg_clerk.proofs.begun.init.Goals as goal

pub returns-in-Setup-clause-says : goal.returns-in-Setup-clause-says
returns-in-Setup-clause-says g c = record {
  took = c.in-Setup.ensures.bounded;
  says = good_ends c.set_up.result c.in-Setup.setup
      (seen (g.S.Source.left c.args.input.now) (g.S.Source.faults c.args.input.now)) (seen (g.S.Source.left c.read_file.new.input) (g.S.Source.faults c.read_file.new.input))
      (g.K.Keeper.tells c.args.keeper.now) (g.K.Keeper.rows c.args.keeper.now) (g.K.Keeper.rows c.set_up.new.keeper)
      (g.K.Keeper.faults c.args.keeper.now) (g.K.Keeper.faults c.set_up.new.keeper)
      (seen (g.O.Sink.written c.args.out.now) (g.O.Sink.faults c.args.out.now)) (seen (g.O.Sink.written c.set_up.new.out) (g.O.Sink.faults c.set_up.new.out))
      c.in-Setup.ensures.reads c.set_up.ensures.sets;
}

pub returns-in-Bad-clause-says : goal.returns-in-Bad-clause-says
returns-in-Bad-clause-says g c = record {
  took = c.in-Bad.ensures.bounded;
  says = bad_ends c.refuse.result c.in-Bad.why
      (seen (g.S.Source.left c.args.input.now) (g.S.Source.faults c.args.input.now)) (seen (g.S.Source.left c.read_file.new.input) (g.S.Source.faults c.read_file.new.input))
      (g.K.Keeper.tells c.args.keeper.now) (g.K.Keeper.rows c.args.keeper.now) (g.K.Keeper.rows c.args.keeper.now)
      (g.K.Keeper.faults c.args.keeper.now) (g.K.Keeper.faults c.args.keeper.now)
      (seen (g.O.Sink.written c.args.out.now) (g.O.Sink.faults c.args.out.now)) (seen (g.O.Sink.written c.refuse.new.out) (g.O.Sink.faults c.refuse.new.out))
      refl c.in-Bad.ensures.reads c.refuse.ensures;
}
