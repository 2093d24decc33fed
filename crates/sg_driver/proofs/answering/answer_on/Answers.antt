-- How the command ended, by how the input was heard.
use Rattle.std.proofs.Common.{refl}
use Rattle.sg_outside.specs.Streams.{Seen, seen}
use Rattle.sg_driver.proofs.Telling.{says_told, writes_loud}
use Rattle.sg_driver.proofs.answering.answer_on.Goals as goal

pub returns-in-Answer-clause-says : goal.returns-in-Answer-clause-says
returns-in-Answer-clause-says g c =
    let input : Seen = seen (g.S.Source.left c.args.input.now) (g.S.Source.faults c.args.input.now) in
    let input' : Seen = seen (g.S.Source.left c.hear.new.input) (g.S.Source.faults c.hear.new.input) in
    let out : Seen = seen (g.O.Sink.written c.args.out.now) (g.O.Sink.faults c.args.out.now) in
    let out' : Seen = seen (g.O.Sink.written c.tell.new.out) (g.O.Sink.faults c.tell.new.out) in
    says_told g.J.Judge.judging c.in-Answer.answer c.tell.result input input' out out' c.tell.ensures.answers c.in-Answer.ensures c.tell.ensures.writes

pub returns-in-Answer-clause-quiet : goal.returns-in-Answer-clause-quiet
returns-in-Answer-clause-quiet g c = λ quiet.
    let out : Seen = seen (g.O.Sink.written c.args.out.now) (g.O.Sink.faults c.args.out.now) in
    let out' : Seen = seen (g.O.Sink.written c.tell.new.out) (g.O.Sink.faults c.tell.new.out) in
    absurd (writes_loud (g.J.Judge.judging.outcome c.in-Answer.answer) (g.J.Judge.judging.report c.in-Answer.answer) c.tell.result out out' c.tell.ensures.answers c.tell.ensures.writes quiet)

pub returns-in-Fault-clause-says : goal.returns-in-Fault-clause-says
returns-in-Fault-clause-says g c = record { cause = c.in-Fault.ensures.0; taken = c.in-Fault.ensures.1; written = refl }

pub returns-in-NoMemory-clause-says : goal.returns-in-NoMemory-clause-says
returns-in-NoMemory-clause-says g c = record { taken = c.in-NoMemory.ensures; written = refl }
