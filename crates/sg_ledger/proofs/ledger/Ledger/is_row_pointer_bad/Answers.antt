use Rattle.std.proofs.Common.{◌≡◌, ◌||◌, Bool, get_or, false, Option, ap, ap₂, ◌∙◌}
use Rattle.std.specs.List.{list_any}
use Rattle.sg_check.specs.Facts.{opened_on, opens_pointer}
use Rattle.sg_check.specs.inside.BySide.{bad_pointer_on}
use Rattle.sg_commit.specs.declared.Opening.{Opening}
use Rattle.sg_ledger.proofs.Judged.{pointer_judged}
use Rattle.sg_plan.specs.declared.plan.Side.TheVariants as side
use Rattle.sg_plan.specs.Ballots.{entries_of, row_place}
use Rattle.sg_ledger.proofs.ledger.Ledger.is_row_pointer_bad.Goals as goal

pub returns : goal.returns
returns c = λ lines tells.
    let plan = c.args.self.now.book in
    let race = c.args.race in
    let instance = c.args.instance in
    let in_plan = c.requires.placed in
    let seen = c.args.self.now.pointers in
    let left : c.is_pointer_bad-left.result ≡ bad_pointer_on side.Left plan lines race instance (opened_on side.Left c.args.opening.now) =
    c.is_pointer_bad-left.ensures
    ∙ (pointer_judged (entries_of plan race) (λ k. get_or seen.lefts (row_place plan race instance k) false) (λ k. list_any (opens_pointer side.Left race instance k) lines) c.left_opening.result
    (λ k below. tells.pointers.lefts race instance k in_plan.0 in_plan.1 below)
    ∙ ap (λ (o : Option Opening). bad_pointer_on side.Left plan lines race instance o) c.left_opening.ensures) in
    let right : c.is_pointer_bad-right.result ≡ bad_pointer_on side.Right plan lines race instance (opened_on side.Right c.args.opening.now) =
    c.is_pointer_bad-right.ensures
    ∙ (pointer_judged (entries_of plan race) (λ k. get_or seen.rights (row_place plan race instance k) false) (λ k. list_any (opens_pointer side.Right race instance k) lines) c.right_opening.result
    (λ k below. tells.pointers.rights race instance k in_plan.0 in_plan.1 below)
    ∙ ap (λ (o : Option Opening). bad_pointer_on side.Right plan lines race instance o) c.right_opening.ensures) in
    c.is_either.ensures ∙ ap₂ (λ (l r : Bool). l || r) left right
