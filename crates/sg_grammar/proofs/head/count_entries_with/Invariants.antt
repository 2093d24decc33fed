use Rattle.std.proofs.Common.{◌≡◌}
use Rattle.sg_plan.specs.Ballots.{entries_before}
use Rattle.sg_grammar.specs.Head.{with_run}
use Rattle.sg_grammar.proofs.head.count_entries_with.Given as goal

abbrev pub invariant-loop-race : goal.invariant-loop-race
invariant-loop-race l = l.entries ≡ entries_before (with_run l.plan l.run.style l.run.count) l.race
