-- One more row is altered, or isn't.
use Rattle.std.proofs.Common.{sym, ◌∙◌}
use Rattle.sg_check.specs.Completions.{is_altered}
use Rattle.sg_recount.specs.Findings.{altered_row}
use Rattle.sg_recount.proofs.Each.{each_fails_on, each_none, each_passes_on}
use Rattle.sg_recount.specs.inside.Basis.{completion_in, lines_in, plan_in, printing_in}
use Rattle.sg_recount.proofs.altered.altered_in.Goals as goal
use Rattle.sg_recount.proofs.altered.altered_in.Goals.{then-is_altered+in_ok-push, else-is_altered}

pub loop-row-init : goal.loop-row-init
loop-row-init c = c.new-altered.ensures ∙ sym (each_none (altered_row (plan_in c.args.basis.now) (lines_in c.args.basis.now) (completion_in c.args.basis.now) (printing_in c.args.basis.now) c.args.race c.args.instance))

pub loop-row-preserved : goal.loop-row-preserved
loop-row-preserved c = elim c.if-is_altered.branch [
  | then-is_altered+in_ok-push w ↦
      rw w.altered-is
      (each_passes_on (is_altered (plan_in c.args.basis.now) (lines_in c.args.basis.now) (completion_in c.args.basis.now) (printing_in c.args.basis.now) c.args.race c.args.instance) c.loop-row.row c.loop-row.altered w.push.new.self c.loop-row.invariant
      (sym c.is_altered.ensures ∙ w.if-is_altered.true) w.in_ok-push.ensures.ok)
  | else-is_altered w ↦
      rw w.altered-is
      (each_fails_on (is_altered (plan_in c.args.basis.now) (lines_in c.args.basis.now) (completion_in c.args.basis.now) (printing_in c.args.basis.now) c.args.race c.args.instance) c.loop-row.row c.loop-row.altered c.loop-row.invariant
      (sym c.is_altered.ensures ∙ w.if-is_altered.false))
]
