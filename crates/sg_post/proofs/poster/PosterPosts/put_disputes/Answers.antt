use Rattle.sg_record.proofs.Putting.{puts_same}
use Rattle.sg_post.proofs.LineForms.{claims-are}
use Rattle.sg_post.proofs.poster.PosterPosts.put_disputes.Goals as goal

pub put_claims-requires-clause-fits : goal.put_claims-requires-clause-fits
put_claims-requires-clause-fits g c = c.requires.ready.claims

pub returns : goal.returns
returns g c =
    let tables = c.args.self.now.tables.now in
    puts_same _ _ _ _ _ (claims-are tables.plan tables.seed c.args.self.now.story.now.claims) c.put_claims.ensures
