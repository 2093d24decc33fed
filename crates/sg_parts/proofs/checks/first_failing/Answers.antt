-- The rows of one more race pass, or one of them fails.
use Rattle.std.proofs.Common.{length, refl, ap, arith}
use Rattle.sg_plan.specs.Ballots.{entries_of}
use Rattle.sg_plan.specs.declared.plan.Plan.{Plan}
use Rattle.sg_parts.specs.inside.Checks.{passes}
use Rattle.sg_parts.proofs.FirstRows.{race_found, race_more}
use Rattle.sg_parts.proofs.checks.first_failing.Goals as goal

pub returns-in-Some : goal.returns-in-Some
returns-in-Some c =
    race_found c.args.index.now (passes c.args.index.now c.args.posted.now c.args.test.now) c.loop-race.race (entries_of c.args.index.now c.loop-race.race) c.in-Some.instance c.in-Some.row (omega (arith, c.loop-race-test.true, c.len-race-end.ensures, ap (λ (p : Plan). length p.races) c.plan.ensures.plan)) refl
    c.loop-race.invariant c.in-Some.ensures

pub loop-race-preserved : goal.loop-race-preserved
loop-race-preserved c = race_more c.args.index.now (passes c.args.index.now c.args.posted.now c.args.test.now) c.loop-race.race (entries_of c.args.index.now c.loop-race.race) refl c.loop-race.invariant c.in_default.ensures
