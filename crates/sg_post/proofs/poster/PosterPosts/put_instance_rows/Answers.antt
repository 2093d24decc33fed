-- The rows of the instance are its list.
use Rattle.sg_record.proofs.Putting.{puts_same}
use Rattle.sg_post.proofs.LineForms.{openings-are}
use Rattle.sg_post.proofs.poster.PosterPosts.put_instance_rows.Goals as goal

pub put_instance_rows-requires-clause-posting : goal.put_instance_rows-requires-clause-posting
put_instance_rows-requires-clause-posting g c = c.requires.ready.posting

pub put_instance_rows-requires-clause-key : goal.put_instance_rows-requires-clause-key
put_instance_rows-requires-clause-key g c = c.requires.ready.key

pub returns : goal.returns
returns g c =
    let tables = c.args.self.now.tables.now in
    puts_same _ _ _ _ _ (openings-are tables.plan tables.seed c.args.self.now.story.now.fates c.args.self.now.draw.now c.args.race c.args.instance c.requires.race c.requires.instance) c.put_instance_rows.ensures
