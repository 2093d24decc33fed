use Rattle.sg_post.proofs.poster.PosterPosts.totals.Goals as goal

pub returns : goal.returns
returns c = c.requires.posting.totals
