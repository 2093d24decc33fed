-- The rows of the instance are its list.
use Rattle.sg_record.proofs.Putting.{puts_same}
use Rattle.sg_post.proofs.LineForms.{commits-are}
use Rattle.sg_post.proofs.poster.PosterPosts.put_instance_commits.Goals as goal

pub returns : goal.returns
returns g c =
    let tables = c.args.self.now.tables.now in
    puts_same _ _ _ _ _ (commits-are tables.plan tables.seed c.args.race c.args.instance c.requires.race c.requires.instance) c.put_instance_commits.ensures
