-- The lines are an asker, and the run is its talk.
use Rattle.sg_clerk.proofs.TalkEnds.{does-nothing, does-talk}
use Rattle.sg_clerk.specs.Outside.{unlinked}
use Rattle.sg_clerk.proofs.talk.do_lines.Goals as goal

pub returns-in_default-clause-does : goal.returns-in_default-clause-does
returns-in_default-clause-does g c = λ history stands. does-nothing _ _ _ _ (unlinked _ _ _ _ _)

pub returns-clause-does : goal.returns-clause-does
returns-clause-does g c = λ history stands. does-talk c.converse.new.asker.lines c.converse.new.asker.left c.converse.result _ history _ _ _ (unlinked _ _ _ _ _) (unlinked _ _ _ _ _) (c.converse.ensures.talks history stands)
