use Rattle.std.proofs.Common.{length, arith}
use Rattle.std.proofs.lemmas.Nat.{mul-le}
use Rattle.sg_plan.proofs.BallotLists.{entries_before-le}
use Rattle.sg_plan.proofs.limits.count_table_rows.Goals as goal
use Rattle.sg_plan.specs.Ballots.{all_entries}

pub overflow_mul-result : goal.overflow_mul-result
overflow_mul-result c =
    let plan = c.args.plan.now in
    let entries = entries_before-le plan (length plan.races) c.requires.few_ballots c.requires.few_candidates in
    let few = c.requires.few_races in
    rw (c.from.ensures, c.count_all_entries.ensures)
    (omega (arith, mul-le plan.instances (all_entries plan) 16 10240000 c.requires.few_instances (omega (arith, entries))))
