use Rattle.std.proofs.Common.{◌≡◌, map}
use Rattle.sg_streams.specs.Numbers.{numbers_below}
use Rattle.sg_post.specs.inside.Making.{race_places_by}
use Rattle.sg_post.proofs.making.place_races.Given as goal

abbrev pub invariant-loop-race : goal.invariant-loop-race
invariant-loop-race l = l.places ≡ map (race_places_by l.tables.plan l.tables.seed l.marks) (numbers_below l.race)
