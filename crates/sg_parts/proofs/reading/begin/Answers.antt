-- No line behind `printing` was taken.
use Rattle.std.proofs.Common.{[], ap, ◌∙◌}
use Rattle.sg_plan.specs.Ballots.{r_rows}
use Rattle.sg_sheet.specs.inside.Listed.{sheet_due}
use Rattle.sg_parts.proofs.Accepting.{good_plan}
use Rattle.sg_parts.proofs.Finding.{stands_start}
use Rattle.sg_parts.proofs.reading.begin.Goals as goal

pub make-requires : goal.make-requires
make-requires c = good_plan c.args.posted c.requires

pub returns : goal.returns
returns c = λ lines of before begins. record {
  of_record = of;
  index = c.in_ok-index.ensures;
  before = before;
  due_are = c.in_ok-due.ensures.due ∙ ap sheet_due c.in_ok-index.ensures;
  count = c.count_rows-count.ensures ∙ ap r_rows c.in_ok-index.ensures;
  behind = [];
  begins = begins;
  stands = stands_start c.args.posted.plan c.in_ok-due.due c.in_ok-codes.codes c.new.result c.in_ok-codes.ensures c.new.ensures;
}
