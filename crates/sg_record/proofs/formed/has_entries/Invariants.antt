-- The items walked over pass, and the rest decide.
use Rattle.std.proofs.Common.{◌≡◌, ◌==◌, drop, length}
use Rattle.sg_plan.specs.Ballots.{entries_of}
use Rattle.sg_record.specs.Formed.{each_passes}
use Rattle.sg_record.proofs.formed.has_entries.Given as goal

abbrev pub invariant-loop-race : goal.invariant-loop-race
invariant-loop-race g l = each_passes (λ race items. length items == entries_of l.index race) l.race (drop l.race l.lists) ≡ each_passes (λ race items. length items == entries_of l.index race) 0 l.lists
