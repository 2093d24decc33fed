use Rattle.std.proofs.Common.{◌≡◌}
use Rattle.sg_plan.specs.inside.Index.{counts_to}
use Rattle.sg_plan.proofs.index_tables.count_races.Given as goal

abbrev pub invariant-loop-race : goal.invariant-loop-race
invariant-loop-race l = l.counts ≡ counts_to l.plan l.race
