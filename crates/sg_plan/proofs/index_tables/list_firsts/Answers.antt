use Rattle.std.proofs.Common.{refl, add-one, arith}
use Rattle.std.proofs.lemmas.Nat.{mul-le}
use Rattle.sg_plan.proofs.IndexLists.{few_ballots_to, length-ballots_to}
use Rattle.sg_plan.proofs.PlanLaws.{bounds}
use Rattle.sg_plan.proofs.index_tables.list_firsts.Goals as goal

pub overflow_cast-race : goal.overflow_cast-race
overflow_cast-race c = omega (arith, (bounds c.args.plan.now c.requires).few_races)

pub overflow_add-first : goal.overflow_add-first
overflow_add-first c =
    let plan = c.args.plan.now in
    let few = bounds plan c.requires in
    omega (
      arith,
      c.loop-race.invariant.first_is,
      c.rows-first.ensures,
      few.few_rows c.loop-race.race,
      few.few_ballots,
      few_ballots_to plan c.loop-race.race 20000 few.few_ballots few.few_rows,
      mul-le c.loop-race.race 20000 32 20000 (omega (arith, few.few_races)) (omega arith),
    )

pub loop-race-preserved : goal.loop-race-preserved
loop-race-preserved c =
    let plan = c.args.plan.now in
    let race = c.loop-race.race in
    record {
      firsts_are = rw (add-one, c.in_ok-push.ensures.ok, c.loop-race.invariant.firsts_are, c.loop-race.invariant.first_is) refl;
      first_is = rw add-one (omega (arith, c.loop-race.invariant.first_is, c.rows-first.ensures, length-ballots_to plan race));
    }
