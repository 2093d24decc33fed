-- Each turn adds the lists of one more race.
use Rattle.std.proofs.Common.{◌+◌, length, arith, ap, ◌∙◌}
use Rattle.std.proofs.lemmas.List.{length_push}
use Rattle.sg_plan.proofs.PlanLaws.{bounds}
use Rattle.sg_tables.proofs.Draws.{keep_races-more}
use Rattle.sg_tables.proofs.drawing.draw_races.Goals as goal

pub overflow_cast-race : goal.overflow_cast-race
overflow_cast-race c = omega (arith, (bounds c.args.plan.now c.requires).few_races)

pub loop-race-preserved : goal.loop-race-preserved
loop-race-preserved c = record {
  many = ap length c.in_ok-push.ensures.ok ∙ length_push _ _ ∙ ap (λ n. n + 1) c.loop-race.invariant.many;
  each = keep_races-more c.args.plan.now c.args.seed.now.0 c.loop-race.race c.loop-race.races c.push.new.self c.in_ok-draw_race.field-0
      c.loop-race.invariant.many c.loop-race.invariant.each c.in_ok-draw_race.ensures c.in_ok-push.ensures.ok;
}
