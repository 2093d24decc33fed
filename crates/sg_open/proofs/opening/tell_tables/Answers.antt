-- No row is bad, as all tables were judged.
use Rattle.sg_open.proofs.opening.tell_tables.Goals as goal

pub returns-clause-good : goal.returns-clause-good
returns-clause-good c = c.in_ok-course.ensures.judged.none
