use Rattle.std.proofs.Common.{◌≡◌, length}
use Rattle.sg_plan.specs.inside.Index.{ballots_to, firsts_to}
use Rattle.sg_plan.proofs.index_tables.list_firsts.Given as goal

abbrev pub invariant-loop-race : goal.invariant-loop-race
invariant-loop-race l = record {
  firsts_are : l.firsts ≡ firsts_to l.plan l.race;
  first_is : l.first ≡ length (ballots_to l.plan l.race);
}
