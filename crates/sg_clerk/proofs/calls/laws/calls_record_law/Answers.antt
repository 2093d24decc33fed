-- The law is proved as a lemma.
use Rattle.sg_clerk.proofs.Connections.Keeping.{calls_keep_record}
use Rattle.sg_clerk.proofs.calls.laws.calls_record_law.Goals as goal

pub returns : goal.returns
returns c = calls_keep_record
