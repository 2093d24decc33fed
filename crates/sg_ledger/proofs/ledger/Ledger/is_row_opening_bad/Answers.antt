use Rattle.std.proofs.Common.{◌≡◌, ◌||◌, slice_index_or, None, Option, ap₂, ◌∙◌, arith}
use Rattle.sg_plan.specs.declared.plan.Side.TheVariants as side
use Rattle.sg_check.specs.Facts.{half_commitment}
use Rattle.sg_check.specs.inside.BySide.{bad_pointer_opening}
use Rattle.sg_commit.specs.declared.CommitKind.TheVariants as commit
use Rattle.sg_commit.specs.declared.Digest.{Digest}
use Rattle.sg_commit.specs.declared.Opening.{Opening}
use Rattle.sg_plan.proofs.PlanLaws.{bounds}
use Rattle.sg_ledger.proofs.ledger.Ledger.is_row_opening_bad.Goals as goal

pub is_row_bad-requires-clause-race : goal.is_row_bad-requires-clause-race
is_row_bad-requires-clause-race c = omega (arith, c.requires.placed.0, (bounds c.args.self.now.book c.plan.ensures.good).few_races)

pub is_row_bad-requires-clause-instance : goal.is_row_bad-requires-clause-instance
is_row_bad-requires-clause-instance c = omega (arith, c.requires.placed.1, (bounds c.args.self.now.book c.plan.ensures.good).few_instances)

pub returns : goal.returns
returns c = λ lines tells.
    let race = c.args.race in
    let instance = c.args.instance in
    let number = c.args.row in
    let in_plan = c.requires.placed in
    let kept = c.args.self.now.commitments in
    let left_is : slice_index_or kept.lefts c.args.at None ≡ half_commitment lines side.Left race instance number = rw c.requires.at (tells.commitments.lefts race instance number in_plan.0 in_plan.1 in_plan.2) in
    let right_is : slice_index_or kept.rights c.args.at None ≡ half_commitment lines side.Right race instance number = rw c.requires.at (tells.commitments.rights race instance number in_plan.0 in_plan.1 in_plan.2) in
    c.is_row_bad.ensures
    ∙ (ap₂ (λ (a b : Option Digest). bad_pointer_opening a commit.L race instance number c.left_opening-left.result || bad_pointer_opening b commit.R race instance number c.right_opening-right.result) left_is right_is
    ∙ ap₂ (λ (l r : Option Opening). bad_pointer_opening (half_commitment lines side.Left race instance number) commit.L race instance number l || bad_pointer_opening (half_commitment lines side.Right race instance number) commit.R race instance number r)
    c.left_opening-left.ensures c.right_opening-right.ensures)
