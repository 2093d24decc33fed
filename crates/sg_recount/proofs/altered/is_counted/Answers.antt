-- The entry is marked where its code is kept, and the place is set where its bit is.
use Rattle.std.proofs.Common.{ap, sym, ◌∙◌}
use Rattle.std.specs.Prelude.{is_some}
use Rattle.sg_plan.specs.declared.plan.Side.{Side}
use Rattle.sg_check.specs.Kinds.{is_counted}
use Rattle.sg_recount.proofs.Facing.{mark_is, place_is}
use Rattle.sg_recount.specs.inside.Basis.{lines_in, plan_in}
use Rattle.sg_recount.proofs.altered.is_counted.Goals as goal

pub returns-in-Left : goal.returns-in-Left
returns-in-Left c =
    c.is_some.ensures
    ∙ (ap is_some c.entry_code.ensures
    ∙ (sym (mark_is c.args.basis.now.posted.now c.args.basis.now.marked.now c.requires.basis.table c.args.race c.args.pointer c.requires.race c.requires.pointer)
    ∙ ap (λ (s : Side). is_counted (plan_in c.args.basis.now) (lines_in c.args.basis.now) s c.args.race c.args.pointer) (sym c.in-Left.is)))

pub returns-in-Right : goal.returns-in-Right
returns-in-Right c =
    c.place_at.ensures
    ∙ (sym (place_is c.args.basis.now.posted.now c.requires.basis.accepted c.args.race c.args.pointer c.requires.race c.requires.pointer)
    ∙ ap (λ (s : Side). is_counted (plan_in c.args.basis.now) (lines_in c.args.basis.now) s c.args.race c.args.pointer) (sym c.in-Right.is))
