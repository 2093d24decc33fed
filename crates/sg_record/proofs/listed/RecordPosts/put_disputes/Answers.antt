-- The disputes of a formed record pass.
use Rattle.sg_record.proofs.FormedLists.{formed_parts}
use Rattle.sg_record.proofs.Marks.{claims_pass}
use Rattle.sg_record.proofs.listed.RecordPosts.put_disputes.Goals as goal

pub put_disputes-requires : goal.put_disputes-requires
put_disputes-requires g c =
    record { codes = rw c.requires.version (claims_pass c.args.self.now.plan c.args.self.now.disputes (formed_parts c.args.self.now c.requires.ready).disputes) }
