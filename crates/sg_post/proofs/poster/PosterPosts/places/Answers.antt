use Rattle.sg_post.proofs.poster.PosterPosts.places.Goals as goal

pub returns : goal.returns
returns c = c.requires.posting.places
