-- How it ends, and what that promises.
use Rattle.std.proofs.Common.{refl}
use Rattle.sg_outside.specs.Streams.{seen}
use Rattle.sg_reports.proofs.Auditing.Promises.{promise_of}
use Rattle.sg_reports.proofs.Auditing.Saying.{audit_said}
use Rattle.sg_reports.proofs.audit.answering.answer_audit.Goals as goal

pub returns-clause-says : goal.returns-clause-says
returns-clause-says g c =
    audit_said c.answer_on.result (seen (g.S.Source.left c.args.input.now) (g.S.Source.faults c.args.input.now)) (seen (g.S.Source.left c.answer_on.new.input) (g.S.Source.faults c.answer_on.new.input))
    (seen (g.O.Sink.written c.args.out.now) (g.O.Sink.faults c.args.out.now)) (seen (g.O.Sink.written c.answer_on.new.out) (g.O.Sink.faults c.answer_on.new.out)) c.answer_on.ensures.says

pub returns-clause-promise : goal.returns-clause-promise
returns-clause-promise g c =
    promise_of (g.S.Source.left c.args.input.now) c.answer_on.result (seen (g.S.Source.left c.args.input.now) (g.S.Source.faults c.args.input.now)) (seen (g.S.Source.left c.answer_on.new.input) (g.S.Source.faults c.answer_on.new.input))
    (seen (g.O.Sink.written c.args.out.now) (g.O.Sink.faults c.args.out.now)) (seen (g.O.Sink.written c.answer_on.new.out) (g.O.Sink.faults c.answer_on.new.out)) refl (returns-clause-says g c)
