use Rattle.std.proofs.Common.{◌≡◌, map}
use Rattle.sg_streams.specs.Numbers.{numbers_below}
use Rattle.sg_post.specs.inside.Making.{race_flags_by}
use Rattle.sg_post.proofs.making.flag_races.Given as goal

abbrev pub invariant-loop-race : goal.invariant-loop-race
invariant-loop-race l = l.flags ≡ map (race_flags_by l.tables.plan l.tables.seed l.marks) (numbers_below l.race)
