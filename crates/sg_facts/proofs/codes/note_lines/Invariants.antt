-- The codes of the lines so far were put.
use Rattle.std.proofs.Common.{drop}
use Rattle.sg_facts.specs.Listed.{cast_shown}
use Rattle.sg_facts.specs.inside.Putting.{IsSized, PutsLeft}
use Rattle.sg_facts.proofs.codes.note_lines.Given as goal

abbrev pub invariant-loop-at : goal.invariant-loop-at
invariant-loop-at l = IsSized l.index l.table × PutsLeft l.index l.fn.table l.table (λ race entry. cast_shown l.index race entry l.ballot) l.lines (drop l.at l.lines)
