-- The exponent is the law's, and small. The plan of an accepted record is good.
use Rattle.std.proofs.Common.{◌≡◌, ◌*◌, ap, subst, ◌∙◌, arith}
use Rattle.sg_plan.proofs.PlanLaws.{bounds}
use Rattle.sg_plan.specs.Ballots.{candidates_of}
use Rattle.sg_record.specs.declared.record.Record.{Record}
use Rattle.sg_parts.proofs.Accepting.{good_plan}
use Rattle.sg_odds.proofs.Powers.{exponent_few, exponent_is}
use Rattle.sg_odds.specs.Odds.{greatest_below}
use Rattle.sg_odds.specs.inside.Gaps.{least_in}
use Rattle.sg_odds.proofs.gaps.race_exponent.Goals as goal

pub greatest_gap-requires-clause-instances : goal.greatest_gap-requires-clause-instances
greatest_gap-requires-clause-instances c = omega (arith, (bounds c.args.parts.now.posted.plan (good_plan c.args.parts.now.posted c.posted-posted.ensures.parts.accepted)).one_instance, ap (λ (r : Record). r.plan.instances) c.posted-posted.ensures.posted)

pub greatest_gap-requires-clause-candidates : goal.greatest_gap-requires-clause-candidates
greatest_gap-requires-clause-candidates c =
    omega (arith, (bounds c.args.parts.now.posted.plan (good_plan c.args.parts.now.posted c.posted-posted.ensures.parts.accepted)).few_candidates c.args.race, ap (λ (r : Record). candidates_of r.plan c.args.race) c.posted-posted.ensures.posted)

pub overflow_mul-result : goal.overflow_mul-result
overflow_mul-result c =
    let greatest = subst (λ (r : Record). c.greatest_gap.result ≡ greatest_below (least_in r.totals c.in_ok-led.led c.args.race r.plan.instances) (candidates_of r.plan c.args.race)) c.posted-posted.ensures.posted c.greatest_gap.ensures in
    omega (
      arith,
      exponent_few c.args.parts.now.posted c.posted-posted.ensures.parts.accepted c.args.parts.now.rows c.args.race c.requires.race c.in_ok-led.led c.in_ok-led.ensures c.greatest_gap.result greatest,
      ap (λ (r : Record). r.plan.instances * c.greatest_gap.result) c.posted-posted.ensures.posted,
    )

pub returns : goal.returns
returns c =
    let greatest = subst (λ (r : Record). c.greatest_gap.result ≡ greatest_below (least_in r.totals c.in_ok-led.led c.args.race r.plan.instances) (candidates_of r.plan c.args.race)) c.posted-posted.ensures.posted c.greatest_gap.ensures in
    ap (λ (r : Record). r.plan.instances * c.greatest_gap.result) c.posted-posted.ensures.posted
    ∙ exponent_is c.args.parts.now.posted c.posted-posted.ensures.parts.accepted c.args.parts.now.rows c.args.race c.requires.race c.in_ok-led.led c.in_ok-led.ensures c.greatest_gap.result greatest
