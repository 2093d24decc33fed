-- The next ask was replied to, or the talk ends.
use Rattle.std.proofs.Common.{ℕ, inl, inr, refl, subst}
use Rattle.sg_clerk.specs.Ends.{WroteLine}
use Rattle.sg_clerk.proofs.conversing.reply_next.Goals as goal

pub returns-in-Ok-clause-replies : goal.returns-in-Ok-clause-replies
returns-in-Ok-clause-replies g c = λ history start first exchanges stands came.
    inl (record {
      reply = c.in-Ok.reply;
      replies = c.in-Ok.ensures.asks history start first exchanges stands came;
      wrote = subst (λ (v : ℕ). WroteLine c.write_reply.result (g.A.Asker.exchanging.line v c.in-Ok.reply) (g.O.Sink.written c.args.out.now) (g.O.Sink.written c.write_reply.new.out)
          (g.O.Sink.faults c.args.out.now) (g.O.Sink.faults c.write_reply.new.out))
          c.version_of-version.ensures c.write_reply.ensures.wrote;
    })

pub returns-in-Err-clause-replies : goal.returns-in-Err-clause-replies
returns-in-Err-clause-replies g c = λ history start first exchanges stands came.
    inr (record { how = c.end_at.result; result_is = refl; why = c.in-Err.why; asks = c.in-Err.ensures.asks history start first exchanges stands came; stops = c.end_at.ensures.ends })
