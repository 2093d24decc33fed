-- One more row is counted.
use Rattle.std.proofs.Common.{arith}
use Rattle.sg_plan.proofs.PlanLaws.{bounds}
use Rattle.sg_recount.proofs.Counting.{counts_few, counts_more}
use Rattle.sg_recount.specs.inside.Basis.{plan_in}
use Rattle.sg_recount.proofs.counted.count_pointers.Goals as goal

pub note_half-requires : goal.note_half-requires
note_half-requires c =
    counts_few c.args.basis.now.rows.now c.args.side c.args.race c.args.instance c.entries-count.result c.loop-row.row c.loop-row.counts c.loop-row.invariant
    (omega (arith, c.loop-row-test.true, c.entries-count.ensures, (bounds (plan_in c.args.basis.now) c.requires.basis.good).few_entries c.args.race c.requires.race))

pub loop-row-preserved : goal.loop-row-preserved
loop-row-preserved c =
    counts_more c.args.basis.now.rows.now c.args.side c.args.race c.args.instance c.entries-count.result c.loop-row.row c.loop-row.counts c.note_half.new.counts c.given_half.result c.loop-row.invariant c.given_half.ensures
    c.note_half.ensures.long c.note_half.ensures.puts
