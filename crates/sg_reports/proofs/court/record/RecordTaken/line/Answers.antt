-- One more fine line of the record.
use Rattle.std.proofs.Common.{[], ◌∷◌, ◌++◌, arith, length-append, subst}
use Rattle.sg_driver.specs.declared.judge.Standing.{Standing}
use Rattle.sg_reports.specs.inside.Standing.{PassGoes}
use Rattle.sg_reports.proofs.Courts.Taking.{fine_few}
use Rattle.sg_reports.proofs.Courts.Words.{none_more}
use Rattle.sg_reports.proofs.court.record.RecordTaken.line.Goals as goal

pub overflow_add-self : goal.overflow_add-self
overflow_add-self c = let some = c.requires.some in omega (arith, some.1.count, fine_few some.0 some.1.fine)

pub returns-in_ok-take-in-Open-clause-goes : goal.returns-in_ok-take-in-Open-clause-goes
returns-in_ok-take-in-Open-clause-goes c = λ lines is.
    let more = lines ++ c.args.line.now ∷ [] in
    let goes = subst (λ (s : Standing). PassGoes s c.judge_line.new.pass more) c.in-Open.is (c.in_ok-judge_line.ensures.goes lines is.stands) in
    record {
      stands = goes.0;
      unbroken = goes.1;
      fine = goes.2;
      reads = c.in_ok-take-in-Open.ensures lines is.reads;
      count = omega (arith, is.count, length-append lines (c.args.line.now ∷ []));
      wordless = none_more lines c.args.line.now is.wordless c.requires.other;
    }
