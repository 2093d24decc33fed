-- Each turn sets the bits of one more ballot.
use Rattle.std.proofs.Common.{Bool, ◌||◌, List, [], ◌∷◌, length, subst, sym, ap, ◌∙◌}
use Rattle.std.proofs.lemmas.Option.{get_or_from_slice_get, slice_get_within}
use Rattle.std.specs.List.{list_any}
use Rattle.std.specs.Prelude.{take}
use Rattle.sg_plan.specs.Ballots.{entries_of}
use Rattle.sg_tables.proofs.Lists.{length-map_below}
use Rattle.sg_post.specs.Marks.{told_marks}
use Rattle.sg_post.specs.inside.Making.{has_bit}
use Rattle.sg_post.specs.inside.RowMarks.{marked_fates}
use Rattle.sg_post.specs.declared.story.Told.{Told}
use Rattle.sg_post.proofs.RowMarking.{FitsIn, each-fits, marked_fates-next, marked_fates-none}
use Rattle.sg_post.proofs.ballot_marks.mark_fates.Goals as goal

pub loop-at-init : goal.loop-at-init
loop-at-init c = marked_fates-none c.args.tables.now.plan c.args.tables.now.seed c.args.race c.args.bits.now c.requires.bits

pub mark_told-requires-clause-bits : goal.mark_told-requires-clause-bits
mark_told-requires-clause-bits c =
    ap length c.loop-at.invariant
    ∙ length-map_below (λ entry. has_bit c.args.bits.now entry || list_any (told_marks c.args.tables.now.plan c.args.tables.now.seed c.args.race entry) (take c.loop-at.at c.args.fates.now)) (entries_of c.args.tables.now.plan c.args.race)

pub mark_told-requires-clause-fits : goal.mark_told-requires-clause-fits
mark_told-requires-clause-fits c =
    let told : Told = c.get.result.now in
    let is = get_or_from_slice_get c.args.fates.now c.loop-at.at told told c.get.ensures.item in
    (subst (FitsIn c.args.tables.now.plan) is (each-fits c.args.tables.now.plan 0 c.args.fates.now c.requires.fits c.loop-at.at told (slice_get_within c.args.fates.now c.loop-at.at told c.get.ensures.item))).fate

pub loop-at-preserved : goal.loop-at-preserved
loop-at-preserved c =
    let plan = c.args.tables.now.plan in
    let seed = c.args.tables.now.seed in
    c.mark_told.ensures
    ∙ (ap (λ (l : List Bool). marked_fates plan seed c.args.race (c.get.result.now ∷ []) l) c.loop-at.invariant
    ∙ (marked_fates-next plan seed c.args.race (take c.loop-at.at c.args.fates.now) c.get.result.now c.args.bits.now
    ∙ ap (λ (l : List Told). marked_fates plan seed c.args.race l c.args.bits.now) (sym c.get.ensures.front)))
