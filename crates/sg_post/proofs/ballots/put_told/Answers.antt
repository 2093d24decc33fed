-- The lines of a ballot, by its fate.
use Rattle.std.proofs.Common.{ap, sym, ◌∙◌}
use Rattle.sg_plan.specs.Ballots.{races_of_ballot}
use Rattle.sg_plan.specs.Fates.{detail_fits}
use Rattle.sg_plan.specs.declared.plan.Fate.{Fate}
use Rattle.sg_record.proofs.Putting.{puts_none}
use Rattle.sg_post.proofs.Claims.{detail-of}
use Rattle.sg_post.proofs.LineForms.{audited-is, cast-is, spoiled-is, unused-is, voided-is}
use Rattle.sg_post.proofs.ballots.put_told.Goals as goal

pub returns-in-Unused : goal.returns-in-Unused
returns-in-Unused g c = rw (unused-is c.args.tables.now.plan c.args.tables.now.seed c.args.told.now c.in-Unused.is) (puts_none _ _)

pub returns-in-Cast : goal.returns-in-Cast
returns-in-Cast g c = rw (cast-is c.args.tables.now.plan c.args.tables.now.seed c.args.told.now _ c.in-Cast.is) c.put_cast.ensures

pub returns-in-Spoiled : goal.returns-in-Spoiled
returns-in-Spoiled g c = rw (spoiled-is c.args.tables.now.plan c.args.tables.now.seed c.args.told.now c.in-Spoiled.is) c.put_line.ensures

pub put_audited-requires-clause-paper : goal.put_audited-requires-clause-paper
put_audited-requires-clause-paper g c =
    let plan = c.args.tables.now.plan in
    let told = c.args.told.now in
    ap (λ (f : Fate). detail_fits plan (races_of_ballot plan told.ballot) f) (sym c.in-Audited.is) ∙ detail-of plan told.ballot told.fate c.requires.fits

pub returns-in-Audited : goal.returns-in-Audited
returns-in-Audited g c = rw (audited-is c.args.tables.now.plan c.args.tables.now.seed c.args.told.now c.in-Audited.paper c.in-Audited.is) c.put_audited.ensures

pub returns-in-Voided : goal.returns-in-Voided
returns-in-Voided g c =
    rw (voided-is c.args.tables.now.plan c.args.tables.now.seed c.args.told.now c.in-Voided.is) (rw c.plan.ensures.plan at c.put_voided.ensures)
