-- The story's record is formed, and its lines are those of the stage.
use Rattle.std.proofs.Common.{[]}
use Rattle.sg_record.proofs.Putting.{puts_same}
use Rattle.sg_post.proofs.PostedFormed.{posted-formed}
use Rattle.sg_post.proofs.Sealing.{seal-where}
use Rattle.sg_post.proofs.Stories.{draw-fits, story-draw, story-lines, story-parts}
use Rattle.sg_post.proofs.write.put_story.Goals as goal

pub key_of-key-requires : goal.key_of-key-requires
key_of-key-requires g c = story-draw c.args.tables.now.plan c.args.story.now _ c.requires.fits c.draw_of-draw.ensures

pub put_stage-requires-clause-ready : goal.put_stage-requires-clause-ready
put_stage-requires-clause-ready g c =
    let parts = story-parts c.args.tables.now.plan c.args.story.now c.requires.fits in
    record { posting = c.requires.posting; fates = parts.fates; claims = parts.claims; key = c.key_of-key.ensures }

pub put_stage-requires-clause-formed : goal.put_stage-requires-clause-formed
put_stage-requires-clause-formed g c =
    let plan = c.args.tables.now.plan in
    let story = c.args.story.now in
    let parts = story-parts plan story c.requires.fits in
    posted-formed plan c.args.tables.now.seed story.fates _ story.claims c.plan.ensures.limits parts.fates (draw-fits plan story _ c.requires.fits c.draw_of-draw.ensures) parts.claims

pub put_stage-requires-clause-index : goal.put_stage-requires-clause-index
put_stage-requires-clause-index g c = c.requires.posting.index

pub put_stage-requires-clause-seal : goal.put_stage-requires-clause-seal
put_stage-requires-clause-seal g c = seal-where c.args.pen.now.seal [] c.requires.seal

pub returns : goal.returns
returns g c = puts_same _ _ _ _ _ (story-lines c.args.tables.now.plan c.args.tables.now.seed c.args.story.now _ c.draw_of-draw.ensures) c.put_stage.ensures
