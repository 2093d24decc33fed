use Rattle.sg_record.proofs.Putting.{puts_same}
use Rattle.sg_post.proofs.LineForms.{ballots-are}
use Rattle.sg_post.proofs.poster.PosterPosts.put_blocks.Goals as goal

pub put_ballots-requires-clause-fits : goal.put_ballots-requires-clause-fits
put_ballots-requires-clause-fits g c = c.requires.ready.fates

pub returns : goal.returns
returns g c =
    let tables = c.args.self.now.tables.now in
    puts_same _ _ _ _ _ (ballots-are tables.plan tables.seed c.args.self.now.story.now.fates) c.put_ballots.ensures
