use Rattle.std.proofs.Common.{◌≡◌}
use Rattle.sg_plan.specs.inside.Index.{ballots_to}
use Rattle.sg_plan.proofs.index_tables.list_ballots.Given as goal

abbrev pub invariant-loop-race : goal.invariant-loop-race
invariant-loop-race l = l.ballots ≡ ballots_to l.plan l.race
