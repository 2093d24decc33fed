-- The blocks so far were put.
use Rattle.std.proofs.Common.{drop}
use Rattle.sg_facts.specs.Listed.{block_mark}
use Rattle.sg_facts.specs.inside.Putting.{IsSized, PutsLeft}
use Rattle.sg_facts.proofs.codes.note_marks.Given as goal

abbrev pub invariant-loop-at : goal.invariant-loop-at
invariant-loop-at l = IsSized l.index l.table × PutsLeft l.index l.fn.table l.table (block_mark l.index) l.blocks (drop l.at l.blocks)
