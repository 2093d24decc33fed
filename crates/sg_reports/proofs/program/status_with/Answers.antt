-- What is said of the outcome is said of its status.
use Rattle.std.proofs.Common.{ℕ, List, sym, subst, ◌∙◌}
use Rattle.std.specs.Prelude.{◌⊎◌, ◌≡◌, IfSome}
use Rattle.sg_outside.specs.Streams.{Seen, seen}
use Rattle.sg_outside.specs.TextLines.{lines_of}
use Rattle.sg_reports.specs.audit.Promise.{Promise}
use Rattle.sg_reports.proofs.Reporting.{is_reported, no_bad_words, quiet_statuses}
use Rattle.sg_reports.proofs.program.status_with.Goals as goal

pub returns-clause-words : goal.returns-clause-words
returns-clause-words g c = λ two. no_bad_words c.write_report.result (sym c.status.ensures ∙ two)

pub returns-clause-promise : goal.returns-clause-promise
returns-clause-promise g c = λ is.
    let input : Seen = seen (g.S.Source.left c.args.input.now) (g.S.Source.faults c.args.input.now) in
    let input' : Seen = seen (g.S.Source.left c.write_report.new.input) (g.S.Source.faults c.write_report.new.input) in
    let out : Seen = seen (g.O.Sink.written c.args.out.now) (g.O.Sink.faults c.args.out.now) in
    let out' : Seen = seen (g.O.Sink.written c.write_report.new.out) (g.O.Sink.faults c.write_report.new.out) in
    subst (λ (status : ℕ). IfSome (g.S.Source.left c.args.input.now) (λ (bytes : List ℕ). Promise (lines_of bytes) status input input' out out')) (sym c.status.ensures) (c.write_report.ensures.promise is)

pub returns-clause-says : goal.returns-clause-says
returns-clause-says g c =
    let input : Seen = seen (g.S.Source.left c.args.input.now) (g.S.Source.faults c.args.input.now) in
    let input' : Seen = seen (g.S.Source.left c.write_report.new.input) (g.S.Source.faults c.write_report.new.input) in
    let out : Seen = seen (g.O.Sink.written c.args.out.now) (g.O.Sink.faults c.args.out.now) in
    let out' : Seen = seen (g.O.Sink.written c.write_report.new.out) (g.O.Sink.faults c.write_report.new.out) in
    record {
      outcome = c.write_report.result;
      status_is = c.status.ensures;
      says = c.write_report.ensures.says;
      complete = is_reported c.args.report c.write_report.result input input' out out' c.write_report.ensures.says;
    }

pub returns-clause-unwritten : goal.returns-clause-unwritten
returns-clause-unwritten g c = λ quiet.
    c.write_report.ensures.unwritten (quiet_statuses c.write_report.result (subst (λ (status : ℕ). (status ≡ 3) ⊎ (status ≡ 9)) c.status.ensures quiet))
