use Rattle.std.proofs.Common.{◌≡◌, take}
use Rattle.sg_post.specs.inside.RowMarks.{marked_fates}
use Rattle.sg_post.proofs.ballot_marks.mark_fates.Given as goal

abbrev pub invariant-loop-at : goal.invariant-loop-at
invariant-loop-at l = l.bits ≡ marked_fates l.tables.plan l.tables.seed l.race (take l.at l.fates) l.fn.bits
