-- A connection was taken and served, or no more is.
use Rattle.std.proofs.Common.{◌-◌, refl, arith}
use Rattle.sg_clerk.proofs.Connections.Going.{calls-all, calls-fault, calls-next}
use Rattle.sg_clerk.proofs.calls.station.CallAsksAsker.ask.Goals as goal

pub returns-then-self-eq0-clause-asks : goal.returns-then-self-eq0-clause-asks
returns-then-self-eq0-clause-asks g c = λ history start first exchanges stands came.
    record { stands = stands; rows_are = refl; counts = refl; over = calls-all _ c.args.self.now.left _ _ _ _ exchanges (omega (arith, c.if-self-eq0.true)) came }

pub returns-in-Ok-clause-asks : goal.returns-in-Ok-clause-asks
returns-in-Ok-clause-asks g c = λ history start first exchanges stands came.
    let served = c.serve_one.ensures in
    calls-next c.serve_one.result _ _ _ _ _ _ _ history _ c.args.self.now.left (c.args.self.now.left - 1) _ _ (g.L.Links.board c.accept.new.self) _ _ _ (g.L.Links.faults c.accept.new.self) _ exchanges
    (omega (arith, c.if-self-eq0.false)) c.in-Ok.ensures.ok c.in-Ok.ensures.cause.later (served.serves history stands) served.read_failed served.write_failed served.later came

pub returns-in-Err-clause-asks : goal.returns-in-Err-clause-asks
returns-in-Err-clause-asks g c = λ history start first exchanges stands came.
    record {
      stands = stands;
      rows_are = refl;
      counts = refl;
      over = calls-fault _ c.args.self.now.left (c.args.self.now.left - 1) _ _ _ _ _ _ exchanges (omega (arith, c.if-self-eq0.false)) c.in-Err.ensures.err c.in-Err.ensures.cause.failed came;
    }
