use Rattle.std.proofs.Common.{◌≡◌, take}
use Rattle.sg_post.specs.inside.RowMarks.{marked_row}
use Rattle.sg_post.proofs.ballot_marks.mark_row.Given as goal

abbrev pub invariant-loop-at : goal.invariant-loop-at
invariant-loop-at l = l.bits ≡ marked_row l.tables.plan l.tables.seed l.race l.row (take l.at l.marks) l.fn.bits
