-- One more race has its places.
use Rattle.std.proofs.Common.{arith}
use Rattle.sg_facts.proofs.Tabling.{blank_more}
use Rattle.sg_facts.proofs.tables.blank_table.Goals as goal

pub loop-race-preserved : goal.loop-race-preserved
loop-race-preserved c =
    blank_more c.plan-plan.result.now c.loop-race.table c.push.new.self c.loop-race.race c.entries-entries.result c.loop-race.invariant (rw (← c.in_ok-filled.ensures) c.in_ok-push.ensures.ok) c.entries-entries.ensures

pub returns : goal.returns
returns c = rw (← c.plan-plan.ensures.plan) (λ race entry within below. c.loop-race.invariant.none race entry (omega (arith, within, c.loop-race-test.false, c.len-race-end.ensures)) below)
