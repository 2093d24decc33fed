-- The code is one of the version.
use Rattle.sg_post.proofs.ballots.put_code.Goals as goal

pub put_line-requires : goal.put_line-requires
put_line-requires g c = rw c.requires.version c.code_line.ensures.bound
