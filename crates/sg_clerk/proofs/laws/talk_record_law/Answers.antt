-- The law is proved as a lemma.
use Rattle.sg_clerk.proofs.Keeping.{talks_keep_record}
use Rattle.sg_clerk.proofs.laws.talk_record_law.Goals as goal

pub returns : goal.returns
returns c = talks_keep_record
