-- The claims follow one another.
use Rattle.std.proofs.Common.{refl, ap, ◌∙◌, arith}
use Rattle.std.specs.List.{flat_map}
use Rattle.sg_lists.proofs.Tests.{All-slice_get}
use Rattle.sg_record.proofs.Putting.{items_end, items_fault, items_next}
use Rattle.sg_post.specs.inside.Lines.{claim_lines}
use Rattle.std.proofs.Common.{◌≡◌, true}
use Rattle.sg_post.specs.Fits.{claim_fits}
use Rattle.sg_post.specs.declared.story.Claimed.{Claimed}
use Rattle.sg_post.proofs.Claims.{each-claim}
use Rattle.sg_post.proofs.disputes.put_claims.Goals as goal

pub returns-in_err-put_claim : goal.returns-in_err-put_claim
returns-in_err-put_claim g c =
    items_fault _ _ _ _ _ (flat_map (claim_lines c.args.tables.now.plan c.args.tables.now.seed)) c.args.claims.now c.loop-at.at (claim_lines c.args.tables.now.plan c.args.tables.now.seed c.get.result.now) c.loop-at.invariant (ap (flat_map (claim_lines c.args.tables.now.plan c.args.tables.now.seed)) c.get.ensures.rest) c.from_residual.ensures.0 c.in_err-put_claim.ensures

pub loop-at-preserved : goal.loop-at-preserved
loop-at-preserved g c =
    items_next _ _ _ _ (flat_map (claim_lines c.args.tables.now.plan c.args.tables.now.seed)) c.args.claims.now c.loop-at.at (claim_lines c.args.tables.now.plan c.args.tables.now.seed c.get.result.now) c.loop-at.invariant (ap (flat_map (claim_lines c.args.tables.now.plan c.args.tables.now.seed)) c.get.ensures.rest) c.in_ok-put_claim.ensures

pub returns : goal.returns
returns g c = items_end _ _ _ (flat_map (claim_lines c.args.tables.now.plan c.args.tables.now.seed)) c.args.claims.now c.loop-at.at refl c.loop-at.invariant (omega arith)

pub put_claim-requires-clause-version : goal.put_claim-requires-clause-version
put_claim-requires-clause-version g c = c.loop-at.invariant.puts.version ∙ c.requires.version

pub put_claim-requires-clause-fits : goal.put_claim-requires-clause-fits
put_claim-requires-clause-fits g c =
    All-slice_get (λ (claimed : Claimed). claim_fits c.args.tables.now.plan claimed ≡ true) c.args.claims.now c.loop-at.at c.get.result.now (each-claim c.args.tables.now.plan c.args.claims.now c.requires.fits) c.get.ensures.item
