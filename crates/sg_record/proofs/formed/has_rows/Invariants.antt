-- The items walked over pass, and the rest decide.
use Rattle.std.proofs.Common.{◌≡◌, ◌==◌, ◌&&◌, drop, length}
use Rattle.std.specs.List.{list_all}
use Rattle.sg_plan.specs.Ballots.{entries_of}
use Rattle.sg_record.specs.Formed.{each_passes}
use Rattle.sg_record.proofs.formed.has_rows.Given as goal

abbrev pub invariant-loop-race : goal.invariant-loop-race
invariant-loop-race g l =
    each_passes (λ race instances. length instances == l.index.instances && list_all (λ items. length items == entries_of l.index race) instances) l.race (drop l.race l.lists)
    ≡ each_passes (λ race instances. length instances == l.index.instances && list_all (λ items. length items == entries_of l.index race) instances) 0 l.lists
