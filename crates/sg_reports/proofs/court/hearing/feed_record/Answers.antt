-- The line is `printing`.
use Rattle.std.proofs.Common.{sym, ◌∙◌}
use Rattle.sg_reports.proofs.Courts.Words.{printing_here}
use Rattle.sg_reports.proofs.court.hearing.feed_record.Goals as goal

pub returns-then-is_printing-clause-goes : goal.returns-then-is_printing-clause-goes
returns-then-is_printing-clause-goes c = λ lines is. record {
  lines = lines;
  is_taken = is;
  printing = λ more. printing_here lines c.args.line.now more is.wordless (sym c.is_printing.ensures ∙ c.if-is_printing.true);
}
