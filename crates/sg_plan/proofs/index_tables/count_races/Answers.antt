use Rattle.std.proofs.Common.{◌≤◌, arith}
use Rattle.std.proofs.lemmas.Nat.{mul-le}
use Rattle.sg_plan.proofs.IndexLists.{few_runs_of}
use Rattle.sg_plan.proofs.PlanLaws.{bounds}
use Rattle.sg_plan.proofs.index_tables.count_races.Goals as goal

pub overflow_mul-len : goal.overflow_mul-len
overflow_mul-len c =
    let races : c.len.result ≤ 32 = omega (arith, c.len.ensures, (bounds c.args.plan.now c.requires).few_races) in
    let runs : c.len-2.result ≤ 20000 = omega (arith, c.len-2.ensures, few_runs_of c.args.plan.now c.requires) in
    omega (arith, mul-le c.len.result c.len-2.result 32 20000 races runs)

pub overflow_cast-race : goal.overflow_cast-race
overflow_cast-race c = omega (arith, (bounds c.args.plan.now c.requires).few_races)

pub push_counts-requires : goal.push_counts-requires
push_counts-requires c = (bounds c.args.plan.now c.requires).few_ballots
