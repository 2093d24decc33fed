-- How it ends.
use Rattle.sg_outside.specs.Streams.{seen}
use Rattle.sg_reports.proofs.Courts.Saying.{court_said}
use Rattle.sg_reports.specs.declared.court.found.Question.TheVariants.{Recount}
use Rattle.sg_reports.proofs.court.answering.answer_recount.Goals as goal

pub returns-clause-says : goal.returns-clause-says
returns-clause-says g c =
    court_said Recount c.answer_on.result (seen (g.S.Source.left c.args.input.now) (g.S.Source.faults c.args.input.now)) (seen (g.S.Source.left c.answer_on.new.input) (g.S.Source.faults c.answer_on.new.input))
    (seen (g.O.Sink.written c.args.out.now) (g.O.Sink.faults c.args.out.now)) (seen (g.O.Sink.written c.answer_on.new.out) (g.O.Sink.faults c.answer_on.new.out)) c.answer_on.ensures.says
