use Rattle.std.proofs.Common.{◌∙◌, arith}
use Rattle.sg_check.specs.Facts.{marks_ballot}
use Rattle.sg_ledger.proofs.ShownJudged.{over_judged}
use Rattle.sg_ledger.specs.inside.Tables.{most_marks}
use Rattle.sg_plan.proofs.PlanLaws.{bounds}
use Rattle.sg_ledger.proofs.ledger.Ledger.judge_over.Goals as goal

pub has_mark-requires : goal.has_mark-requires
has_mark-requires c =
    let plan = c.args.self.now.book in
    let below = c.entry_place-at.ensures.within (omega (arith, c.first_entry-first.ensures.within, (bounds plan c.plan.ensures.good).two_candidates c.args.race c.requires.placed.0)) in
    omega (arith, below, c.requires.sized.marks)

pub returns : goal.returns
returns c = λ lines tells.
    let plan = c.args.self.now.book in
    let marks = tells.codes.marks c.args.race c.args.ballot c.requires.placed.0 c.requires.placed.3 in
    let place = rw c.first_entry-first.ensures.first at c.entry_place-at.ensures.place in
    let many = rw place at c.has_mark.ensures in
    let rule = many ∙ over_judged most_marks _ (marks_ballot c.args.ballot c.args.race) lines (omega arith) marks in
    rw rule at c.kind_of_rule.ensures
