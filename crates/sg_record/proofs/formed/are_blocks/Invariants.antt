-- The items walked over pass, and the rest decide.
use Rattle.std.proofs.Common.{◌≡◌, drop}
use Rattle.sg_record.specs.Formed.{are_blocks}
use Rattle.sg_record.proofs.formed.are_blocks.Given as goal

abbrev pub invariant-loop-at : goal.invariant-loop-at
invariant-loop-at l = are_blocks l.index l.last (drop l.at l.blocks) ≡ are_blocks l.index 0 l.blocks
