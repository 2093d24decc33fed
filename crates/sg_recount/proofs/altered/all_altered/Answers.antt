-- One more race is listed.
use Rattle.std.proofs.Common.{[], ◌∷◌, sym, ◌∙◌}
use Rattle.sg_recount.specs.Findings.{race_altered}
use Rattle.sg_recount.proofs.Each.{each_none, each_one}
use Rattle.sg_recount.specs.inside.Basis.{completion_in, lines_in, plan_in, printing_in}
use Rattle.sg_recount.proofs.altered.all_altered.Goals as goal

pub loop-race-init : goal.loop-race-init
loop-race-init c = c.new-altered.ensures ∙ sym (each_none (λ n. race_altered (plan_in c.args.basis.now) (lines_in c.args.basis.now) (completion_in c.args.basis.now) (printing_in c.args.basis.now) n ∷ []))

pub loop-race-preserved : goal.loop-race-preserved
loop-race-preserved c = each_one (λ n. race_altered (plan_in c.args.basis.now) (lines_in c.args.basis.now) (completion_in c.args.basis.now) (printing_in c.args.basis.now) n) c.loop-race.race c.loop-race.altered c.push.new.self c.in_ok-found.found c.loop-race.invariant c.in_ok-found.ensures c.in_ok-push.ensures.ok
