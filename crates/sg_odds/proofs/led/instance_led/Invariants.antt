-- The counts are those of the rows so far.
use Rattle.sg_plan.specs.Ballots.{candidates_of}
use Rattle.sg_record.specs.Places.{places_in}
use Rattle.sg_parts.specs.Given.{completion_of}
use Rattle.sg_odds.specs.inside.Gaps.{led_by}
use Rattle.sg_odds.specs.inside.Values.{HasValues}
use Rattle.sg_odds.proofs.led.instance_led.Given as goal

abbrev pub invariant-loop-row : goal.invariant-loop-row
invariant-loop-row l = HasValues (candidates_of l.parts.posted.plan l.race) (led_by l.parts.posted.plan (places_in l.parts.posted) (completion_of l.parts.rows) l.race l.instance l.row) l.counts
