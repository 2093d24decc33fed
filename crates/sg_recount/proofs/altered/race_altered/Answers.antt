-- One more instance is listed.
use Rattle.std.proofs.Common.{[], ◌∷◌, sym, ◌∙◌}
use Rattle.sg_recount.specs.Findings.{altered_in}
use Rattle.sg_recount.proofs.Each.{each_none, each_one}
use Rattle.sg_recount.specs.inside.Basis.{completion_in, lines_in, plan_in, printing_in}
use Rattle.sg_recount.proofs.altered.race_altered.Goals as goal

pub loop-instance-init : goal.loop-instance-init
loop-instance-init c = c.new-altered.ensures ∙ sym (each_none (λ n. altered_in (plan_in c.args.basis.now) (lines_in c.args.basis.now) (completion_in c.args.basis.now) (printing_in c.args.basis.now) c.args.race n ∷ []))

pub loop-instance-preserved : goal.loop-instance-preserved
loop-instance-preserved c = each_one (λ n. altered_in (plan_in c.args.basis.now) (lines_in c.args.basis.now) (completion_in c.args.basis.now) (printing_in c.args.basis.now) c.args.race n) c.loop-instance.instance c.loop-instance.altered c.push.new.self c.in_ok-found.found c.loop-instance.invariant c.in_ok-found.ensures c.in_ok-push.ensures.ok
