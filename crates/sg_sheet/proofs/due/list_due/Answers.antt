-- One more ballot's lines are put.
use Rattle.std.proofs.Common.{◌<◌, ◌≤◌, map, ap, ◌∙◌, List, arith}
use Rattle.sg_plan.specs.Ballots.{ballots_of}
use Rattle.sg_sheet.specs.inside.Listed.{line_due}
use Rattle.sg_sheet.proofs.Listing.{due_end, due_step, sheet_printed}
use Rattle.sg_sheet.specs.declared.due.Due.{Due}
use Rattle.sg_sheet.proofs.due.list_due.Goals as goal

pub loop-at-preserved : goal.loop-at-preserved
loop-at-preserved c =
    let less : c.loop-at.at < ballots_of c.args.index.now = omega (arith, c.loop-at-test.true, c.ballots-at-end.ensures) in
    due_step c.args.index.now c.loop-at.due c.push_ballot.new.due c.loop-at.at less c.in_ok-push_ballot.ensures c.loop-at.invariant

pub returns-clause-lines : goal.returns-clause-lines
returns-clause-lines c = λ printed.
    let past : ballots_of c.args.index.now ≤ c.loop-at.at = omega (arith, c.loop-at-test.false, c.ballots-at-end.ensures) in
    ap (λ (l : List Due). map (line_due printed) l) (due_end c.args.index.now c.loop-at.due c.loop-at.at past c.loop-at.invariant) ∙ sheet_printed c.args.index.now printed

pub returns-clause-due : goal.returns-clause-due
returns-clause-due c =
    let past : ballots_of c.args.index.now ≤ c.loop-at.at = omega (arith, c.loop-at-test.false, c.ballots-at-end.ensures) in
    due_end c.args.index.now c.loop-at.due c.loop-at.at past c.loop-at.invariant
