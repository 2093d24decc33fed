-- The ballots follow one another.
use Rattle.std.proofs.Common.{refl, ap, ◌∙◌, arith}
use Rattle.std.specs.List.{flat_map}
use Rattle.sg_lists.proofs.Tests.{All-slice_get}
use Rattle.sg_record.proofs.Putting.{items_end, items_fault, items_next}
use Rattle.sg_post.specs.inside.Lines.{told_lines}
use Rattle.sg_post.proofs.RowMarking.{FitsIn, each-fits}
use Rattle.sg_post.proofs.ballots.put_ballots.Goals as goal

pub returns-in_err-put_told : goal.returns-in_err-put_told
returns-in_err-put_told g c =
    items_fault _ _ _ _ _ (flat_map (told_lines c.args.tables.now.plan c.args.tables.now.seed)) c.args.fates.now c.loop-at.at (told_lines c.args.tables.now.plan c.args.tables.now.seed c.get.result.now) c.loop-at.invariant (ap (flat_map (told_lines c.args.tables.now.plan c.args.tables.now.seed)) c.get.ensures.rest) c.from_residual.ensures.0 c.in_err-put_told.ensures

pub loop-at-preserved : goal.loop-at-preserved
loop-at-preserved g c =
    items_next _ _ _ _ (flat_map (told_lines c.args.tables.now.plan c.args.tables.now.seed)) c.args.fates.now c.loop-at.at (told_lines c.args.tables.now.plan c.args.tables.now.seed c.get.result.now) c.loop-at.invariant (ap (flat_map (told_lines c.args.tables.now.plan c.args.tables.now.seed)) c.get.ensures.rest) c.in_ok-put_told.ensures

pub returns : goal.returns
returns g c = items_end _ _ _ (flat_map (told_lines c.args.tables.now.plan c.args.tables.now.seed)) c.args.fates.now c.loop-at.at refl c.loop-at.invariant (omega arith)

pub put_told-requires-clause-version : goal.put_told-requires-clause-version
put_told-requires-clause-version g c = c.loop-at.invariant.puts.version ∙ c.requires.version

pub put_told-requires-clause-first : goal.put_told-requires-clause-first
put_told-requires-clause-first g c =
    (All-slice_get (FitsIn c.args.tables.now.plan) c.args.fates.now c.loop-at.at c.get.result.now (each-fits c.args.tables.now.plan 0 c.args.fates.now c.requires.fits) c.get.ensures.item).first

pub put_told-requires-clause-last : goal.put_told-requires-clause-last
put_told-requires-clause-last g c =
    (All-slice_get (FitsIn c.args.tables.now.plan) c.args.fates.now c.loop-at.at c.get.result.now (each-fits c.args.tables.now.plan 0 c.args.fates.now c.requires.fits) c.get.ensures.item).last

pub put_told-requires-clause-fits : goal.put_told-requires-clause-fits
put_told-requires-clause-fits g c =
    (All-slice_get (FitsIn c.args.tables.now.plan) c.args.fates.now c.loop-at.at c.get.result.now (each-fits c.args.tables.now.plan 0 c.args.fates.now c.requires.fits) c.get.ensures.item).fate
