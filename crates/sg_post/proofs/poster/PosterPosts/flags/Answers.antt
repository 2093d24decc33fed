use Rattle.sg_post.proofs.poster.PosterPosts.flags.Goals as goal

pub returns : goal.returns
returns c = c.requires.posting.flags
