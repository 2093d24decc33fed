-- The counts are those of the rows so far.
use Rattle.sg_recount.specs.inside.Counted.{HasCounts}
use Rattle.sg_recount.proofs.counted.count_pointers.Given as goal

abbrev pub invariant-loop-row : goal.invariant-loop-row
invariant-loop-row l = HasCounts l.basis.rows.now l.side l.race l.instance l.count l.row l.counts
