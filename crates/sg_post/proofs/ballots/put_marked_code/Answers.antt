-- The code, or nothing.
use Rattle.std.proofs.Common.{sym, ◌∙◌}
use Rattle.sg_record.proofs.Putting.{puts_none}
use Rattle.sg_post.proofs.ballots.put_marked_code.Goals as goal

pub returns-then-not-column_marked : goal.returns-then-not-column_marked
returns-then-not-column_marked g c = rw (sym c.column_marked.ensures ∙ c.if-not-column_marked.true) (puts_none _ _)

pub returns : goal.returns
returns g c = rw (sym c.column_marked.ensures ∙ c.if-not-column_marked.false) c.put_code.ensures
