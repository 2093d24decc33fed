-- The instances so far stand in the table.
use Rattle.sg_record.specs.Places.{places_in}
use Rattle.sg_parts.specs.Given.{completion_of}
use Rattle.sg_odds.specs.inside.Gaps.{HasLed}
use Rattle.sg_odds.proofs.led.race_led.Given as goal

abbrev pub invariant-loop-instance : goal.invariant-loop-instance
invariant-loop-instance l = HasLed l.parts.posted.plan (places_in l.parts.posted) (completion_of l.parts.rows) l.race l.instance l.table
