use Rattle.std.proofs.Common.{◌≡◌}
use Rattle.sg_plan.specs.Ballots.{entries_before}
use Rattle.sg_plan.proofs.ballots.count_all_entries.Given as goal

abbrev pub invariant-loop-race : goal.invariant-loop-race
invariant-loop-race l = l.entries ≡ entries_before l.plan l.race
