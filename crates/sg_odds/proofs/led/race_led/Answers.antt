-- An instance more stands in the table.
use Rattle.sg_record.specs.Places.{places_in}
use Rattle.sg_parts.specs.Given.{completion_of}
use Rattle.sg_odds.proofs.Leads.{table_more}
use Rattle.sg_odds.proofs.led.race_led.Goals as goal

pub loop-instance-preserved : goal.loop-instance-preserved
loop-instance-preserved c =
    table_more c.args.parts.now.posted.plan (places_in c.args.parts.now.posted) (completion_of c.args.parts.now.rows) c.args.race c.loop-instance.instance c.loop-instance.table c.push.new.self c.in_ok-counts.counts
    c.loop-instance.invariant c.in_ok-counts.ensures c.in_ok-push.ensures.ok
