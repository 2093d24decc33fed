-- The codes of the race are its list.
use Rattle.sg_record.proofs.Putting.{puts_same}
use Rattle.sg_post.proofs.LineForms.{codes-are}
use Rattle.sg_post.proofs.poster.PosterPosts.put_race_codes.Goals as goal

pub returns : goal.returns
returns g c =
    let tables = c.args.self.now.tables.now in
    puts_same _ _ _ _ _ (codes-are tables.plan tables.seed c.args.race c.requires.race) c.put_race_commits.ensures
