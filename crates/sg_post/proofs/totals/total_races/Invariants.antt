use Rattle.std.proofs.Common.{◌≡◌, map}
use Rattle.sg_streams.specs.Numbers.{numbers_below}
use Rattle.sg_post.specs.inside.Making.{race_totals_by}
use Rattle.sg_post.proofs.totals.total_races.Given as goal

abbrev pub invariant-loop-race : goal.invariant-loop-race
invariant-loop-race l = l.totals ≡ map (race_totals_by l.tables.plan l.places) (numbers_below l.race)
