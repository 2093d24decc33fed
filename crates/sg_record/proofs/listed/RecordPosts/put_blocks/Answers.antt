-- The blocks of a formed record pass.
use Rattle.sg_record.proofs.FormedLists.{formed_parts}
use Rattle.sg_record.proofs.Marks.{blocks_pass}
use Rattle.sg_record.proofs.listed.RecordPosts.put_blocks.Goals as goal

pub put_blocks-requires-clause-fates : goal.put_blocks-requires-clause-fates
put_blocks-requires-clause-fates g c = rw c.requires.index (blocks_pass c.args.self.now.plan 0 c.args.self.now.ballots (formed_parts c.args.self.now c.requires.ready).blocks)
