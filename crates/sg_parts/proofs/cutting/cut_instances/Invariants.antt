-- So many instances were cut.
use Rattle.sg_parts.proofs.Cuts.{HasInstances}
use Rattle.sg_parts.proofs.cutting.cut_instances.Given as goal

abbrev pub invariant-loop-at : goal.invariant-loop-at
invariant-loop-at l = HasInstances l._at l.count l.done l.rows l.cut
