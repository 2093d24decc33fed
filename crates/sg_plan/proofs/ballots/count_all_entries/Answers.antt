use Rattle.std.proofs.Common.{arith}
use Rattle.sg_plan.proofs.BallotLists.{entries_before-le, entries_of-le}
use Rattle.sg_plan.proofs.ballots.count_all_entries.Goals as goal

pub overflow_add-entries : goal.overflow_add-entries
overflow_add-entries c =
    let before = entries_before-le c.args.plan.now c.loop-race.race c.requires.few_ballots c.requires.few_candidates in
    let here = entries_of-le c.args.plan.now c.loop-race.race c.requires.few_ballots (c.requires.few_candidates c.loop-race.race) in
    omega (arith, before, here)
