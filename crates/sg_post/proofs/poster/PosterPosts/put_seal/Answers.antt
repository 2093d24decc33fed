-- The running seal is that of the record.
use Rattle.sg_record.proofs.Putting.{puts_same}
use Rattle.sg_record.specs.Lines.{lines_before}
use Rattle.sg_record.specs.Writing.{text_in}
use Rattle.sg_post.proofs.Sealing.{seal-is, seal-kept, seal-some}
use Rattle.sg_post.specs.Posted.{posted_record}
use Rattle.sg_post.proofs.poster.PosterPosts.put_seal.Goals as goal

pub put_seal-requires : goal.put_seal-requires
put_seal-requires g c = seal-some c.args.pen.now.seal _ c.requires.seal

pub returns : goal.returns
returns g c =
    let poster = c.args.self.now in
    let plan = poster.tables.now.plan in
    let seed = poster.tables.now.seed in
    let bytes = text_in plan.version (lines_before c.args.section (posted_record plan seed poster.story.now.fates poster.draw.now poster.story.now.claims)) in
    puts_same _ _ _ _ _ (seal-is plan seed poster.story.now.fates poster.draw.now poster.story.now.claims c.args.section c.requires.first c.requires.last)
    (c.put_seal.ensures bytes (seal-kept c.args.pen.now.seal bytes c.requires.seal))
