-- Each turn sets the bit of one more ballot, where it was audited.
use Rattle.std.proofs.Common.{Bool, true, List, cond, length, set, ap, sym, ◌∙◌, ◌+◌, map, replicate, take, false, arith}
use Rattle.sg_lists.proofs.Tests.{All-slice_get}
use Rattle.sg_plan.specs.Ballots.{ballots_of}
use Rattle.sg_streams.specs.Numbers.{numbers_below}
use Rattle.sg_tables.proofs.Lists.{length-map_below}
use Rattle.sg_post.specs.Posting.{is_audited_ballot}
use Rattle.sg_post.specs.declared.story.Told.{Told}
use Rattle.sg_post.proofs.Made.{audited-next, audited-none}
use Rattle.sg_post.proofs.RowMarking.{FitsIn, each-fits}
use Rattle.sg_post.proofs.ballot_marks.audited_ballots.Goals as goal

pub loop-at-init : goal.loop-at-init
loop-at-init c = c.in_ok-bits.ensures ∙ (ap (λ n. replicate (n + 1) false) c.ballots.ensures ∙ audited-none (ballots_of c.args.index.now + 1))

pub set_where-requires : goal.set_where-requires
set_where-requires c =
    let fits = All-slice_get (FitsIn c.args.index.now) c.args.fates.now c.loop-at.at c.get-told.result.now (each-fits c.args.index.now 0 c.args.fates.now c.requires) c.get-told.ensures.item in
    omega (arith, fits.last, ap length c.loop-at.invariant, length-map_below (is_audited_ballot (take c.loop-at.at c.args.fates.now)) (ballots_of c.args.index.now + 1))

pub loop-at-preserved : goal.loop-at-preserved
loop-at-preserved c =
    let told : Told = c.get-told.result.now in
    let fits = All-slice_get (FitsIn c.args.index.now) c.args.fates.now c.loop-at.at told (each-fits c.args.index.now 0 c.args.fates.now c.requires) c.get-told.ensures.item in
    let n = ballots_of c.args.index.now + 1 in
    c.set_where.ensures
    ∙ (ap (λ (l : List Bool). cond c.is_audit.result (set l told.ballot true) l) c.loop-at.invariant
    ∙ (audited-next (take c.loop-at.at c.args.fates.now) told n c.is_audit.result c.is_audit.ensures (omega (arith, fits.last))
    ∙ ap (λ (l : List Told). map (is_audited_ballot l) (numbers_below n)) (sym c.get-told.ensures.front)))
