-- The lists are made over the index.
use Rattle.sg_post.proofs.posting.Posting.make.Goals as goal

pub make-requires : goal.make-requires
make-requires c = rw c.plan.ensures.plan c.plan.ensures.limits
