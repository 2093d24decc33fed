-- The law is proved as a lemma.
use Rattle.sg_clerk.proofs.ScanFiles.Keeping.{scans_keep_record}
use Rattle.sg_clerk.proofs.scans.laws.scans_record_law.Goals as goal

pub returns : goal.returns
returns c = scans_keep_record
