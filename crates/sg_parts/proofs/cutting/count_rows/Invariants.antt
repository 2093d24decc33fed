-- The entries of so many races.
use Rattle.std.proofs.Common.{◌≡◌}
use Rattle.sg_plan.specs.Ballots.{entries_before}
use Rattle.sg_parts.proofs.cutting.count_rows.Given as goal

abbrev pub invariant-loop-race : goal.invariant-loop-race
invariant-loop-race l = l.entries ≡ entries_before l.index l.race
