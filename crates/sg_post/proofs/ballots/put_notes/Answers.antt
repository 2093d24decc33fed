-- The line, or nothing.
use Rattle.std.proofs.Common.{sym, ◌∙◌}
use Rattle.sg_record.proofs.Putting.{puts_none}
use Rattle.sg_post.specs.Posted.{race_notes}
use Rattle.sg_post.proofs.ballots.put_notes.Goals as goal

pub returns-then-not-is_void : goal.returns-then-not-is_void
unfolding race_notes
returns-then-not-is_void g c = rw (sym c.is_void.ensures ∙ c.if-not-is_void.true) (puts_none _ _)

pub returns : goal.returns
unfolding race_notes
returns g c = rw (sym c.is_void.ensures ∙ c.if-not-is_void.false) c.put_line.ensures
