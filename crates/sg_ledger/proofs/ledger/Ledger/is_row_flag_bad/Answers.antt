use Rattle.std.proofs.Common.{◌≡◌, ◌||◌, Bool, get_or, false, Option, sym, ap₂, ◌∙◌}
use Rattle.sg_check.specs.Facts.{is_flagged, is_marked, is_set, opened_on}
use Rattle.sg_check.specs.inside.BySide.{wrong_flag_on}
use Rattle.sg_commit.specs.declared.Opening.{Opening}
use Rattle.sg_ledger.proofs.Judged.{flag_judged}
use Rattle.sg_plan.specs.declared.plan.Side.TheVariants as side
use Rattle.sg_plan.specs.Ballots.{entries_of, entry_place}
use Rattle.sg_ledger.proofs.ledger.Ledger.is_row_flag_bad.Goals as goal

pub returns : goal.returns
returns c = λ lines tells.
    let plan = c.args.self.now.book in
    let race = c.args.race in
    let in_plan = c.requires.placed in
    let told : get_or c.args.self.now.bits.flagged c.args.at false ≡ is_flagged race c.args.instance c.args.row lines =
    rw c.requires.at (tells.bits.flagged race c.args.instance c.args.row in_plan.0 in_plan.1 in_plan.2) in
    let flag_is : c.look-flag.result ≡ is_flagged race c.args.instance c.args.row lines = sym (c.look-flag.ensures false) ∙ told in
    let left : c.is_flag_wrong-left.result ≡ wrong_flag_on side.Left plan lines race (is_flagged race c.args.instance c.args.row lines) (opened_on side.Left c.args.opening.now) =
    c.is_flag_wrong-left.ensures
    ∙ (flag_judged (entries_of plan race) (λ k. get_or c.args.self.now.codes.marked (entry_place plan race k) false) (λ k. is_marked plan race k lines) c.look-flag.result c.left_opening.result
    (λ k below. tells.codes.marked race k in_plan.0 below)
    ∙ ap₂ (λ (f : Bool) (o : Option Opening). wrong_flag_on side.Left plan lines race f o) flag_is c.left_opening.ensures) in
    let right : c.is_flag_wrong-right.result ≡ wrong_flag_on side.Right plan lines race (is_flagged race c.args.instance c.args.row lines) (opened_on side.Right c.args.opening.now) =
    c.is_flag_wrong-right.ensures
    ∙ (flag_judged (entries_of plan race) (λ k. get_or c.args.self.now.bits.places (entry_place plan race k) false) (λ k. is_set race k lines) c.look-flag.result c.right_opening.result
    (λ k below. tells.bits.places race k in_plan.0 below)
    ∙ ap₂ (λ (f : Bool) (o : Option Opening). wrong_flag_on side.Right plan lines race f o) flag_is c.right_opening.ensures) in
    c.is_either.ensures ∙ ap₂ (λ (l r : Bool). l || r) left right
