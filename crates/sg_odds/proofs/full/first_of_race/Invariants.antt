-- The instances so far are full.
use Rattle.sg_parts.specs.Given.{completion_of}
use Rattle.sg_odds.specs.inside.Lacking.{IsFullUpTo}
use Rattle.sg_odds.proofs.full.first_of_race.Given as goal

abbrev pub invariant-loop-instance : goal.invariant-loop-instance
invariant-loop-instance l = IsFullUpTo l.parts.posted.plan (completion_of l.parts.rows) l.race l.instance
