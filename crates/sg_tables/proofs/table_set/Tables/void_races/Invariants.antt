use Rattle.std.proofs.Common.{◌≡◌}
use Rattle.std.specs.List.{filter}
use Rattle.sg_streams.specs.Numbers.{numbers_below}
use Rattle.sg_tables.specs.Posts.{is_void}
use Rattle.sg_tables.proofs.table_set.Tables.void_races.Given as goal

abbrev pub invariant-loop-race : goal.invariant-loop-race
invariant-loop-race l = l.races ≡ filter (is_void l.self.plan l.fate) (numbers_below l.race)
