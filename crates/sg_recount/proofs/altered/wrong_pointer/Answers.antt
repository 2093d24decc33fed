-- The pointer is below n: it is wrong where it is repeated, or where its flag and its count differ.
use Rattle.std.proofs.Common.{Bool, ◌||◌, not, ap, sym, ◌∙◌, arith}
use Rattle.std.proofs.lemmas.Bool.{le-ltb, lt-ltb}
use Rattle.sg_check.specs.Facts.{is_flagged}
use Rattle.sg_check.specs.Kinds.{differ, is_counted}
use Rattle.sg_recount.proofs.Facing.{flag_is, wrong_is}
use Rattle.sg_recount.specs.inside.Basis.{lines_in, plan_in}
use Rattle.sg_recount.proofs.altered.wrong_pointer.Goals as goal

pub returns-then-get-gt1 : goal.returns-then-get-gt1
returns-then-get-gt1 c =
    sym
    (wrong_is c.args.basis.now.posted.now c.args.basis.now.rows.now c.args.counts.now c.args.half.side c.args.half.at.race c.args.half.at.instance c.args.half.at.row c.requires.half c.args.opening.now c.requires.counts c.requires.given
    (omega (arith, c.if-opening-entries.false, c.entries.ensures)) c.get.result.now c.get.ensures.item
    ∙ ap (λ (b : Bool). b || differ (is_flagged c.args.half.at.race c.args.half.at.instance c.args.half.at.row (lines_in c.args.basis.now)) (is_counted (plan_in c.args.basis.now) (lines_in c.args.basis.now) c.args.half.side c.args.half.at.race c.args.opening.now.value))
    (lt-ltb 1 c.get.result.now c.if-get-gt1.true))

pub returns-then-flag_at : goal.returns-then-flag_at
returns-then-flag_at c =
    ap not c.is_counted-counted.ensures
    ∙ sym
    (wrong_is c.args.basis.now.posted.now c.args.basis.now.rows.now c.args.counts.now c.args.half.side c.args.half.at.race c.args.half.at.instance c.args.half.at.row c.requires.half c.args.opening.now c.requires.counts c.requires.given
    (omega (arith, c.if-opening-entries.false, c.entries.ensures)) c.get.result.now c.get.ensures.item
    ∙ (ap (λ (b : Bool). b || differ (is_flagged c.args.half.at.race c.args.half.at.instance c.args.half.at.row (lines_in c.args.basis.now)) (is_counted (plan_in c.args.basis.now) (lines_in c.args.basis.now) c.args.half.side c.args.half.at.race c.args.opening.now.value))
    (le-ltb 1 c.get.result.now c.if-get-gt1.false)
    ∙ ap (λ (b : Bool). differ b (is_counted (plan_in c.args.basis.now) (lines_in c.args.basis.now) c.args.half.side c.args.half.at.race c.args.opening.now.value))
    (flag_is c.args.basis.now.posted.now c.requires.basis.accepted c.args.half.at.race c.args.half.at.instance c.args.half.at.row c.requires.half ∙ (sym c.flag_at.ensures ∙ c.if-flag_at.true))))

pub returns-else-flag_at : goal.returns-else-flag_at
returns-else-flag_at c =
    c.is_counted-counted.ensures
    ∙ sym
    (wrong_is c.args.basis.now.posted.now c.args.basis.now.rows.now c.args.counts.now c.args.half.side c.args.half.at.race c.args.half.at.instance c.args.half.at.row c.requires.half c.args.opening.now c.requires.counts c.requires.given
    (omega (arith, c.if-opening-entries.false, c.entries.ensures)) c.get.result.now c.get.ensures.item
    ∙ (ap (λ (b : Bool). b || differ (is_flagged c.args.half.at.race c.args.half.at.instance c.args.half.at.row (lines_in c.args.basis.now)) (is_counted (plan_in c.args.basis.now) (lines_in c.args.basis.now) c.args.half.side c.args.half.at.race c.args.opening.now.value))
    (le-ltb 1 c.get.result.now c.if-get-gt1.false)
    ∙ ap (λ (b : Bool). differ b (is_counted (plan_in c.args.basis.now) (lines_in c.args.basis.now) c.args.half.side c.args.half.at.race c.args.opening.now.value))
    (flag_is c.args.basis.now.posted.now c.requires.basis.accepted c.args.half.at.race c.args.half.at.instance c.args.half.at.row c.requires.half ∙ (sym c.flag_at.ensures ∙ c.if-flag_at.false))))
