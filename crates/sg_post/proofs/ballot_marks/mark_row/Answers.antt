-- Each turn sets the bit of one more mark, where it is of the race.
use Rattle.std.proofs.Common.{◌≡◌, ◌<◌, ◌==◌, Bool, true, ◌||◌, List, cond, length, set, subst, sym, ap, ◌∙◌}
use Rattle.std.proofs.lemmas.Option.{get_or_from_slice_get, slice_get_within}
use Rattle.sg_plan.specs.Ballots.{candidates_of, entries_of}
use Rattle.sg_plan.specs.declared.plan.Mark.{Mark}
use Rattle.sg_tables.proofs.Lists.{length-map_below}
use Rattle.sg_tables.specs.Tables.{entry_showing}
use Rattle.sg_post.specs.inside.Making.{has_bit}
use Rattle.sg_post.specs.inside.RowMarks.{marked_row, row_marks}
use Rattle.sg_post.proofs.RowMarking.{marked_row-next, marked_row-none}
use Rattle.std.specs.Prelude.{take}
use Rattle.sg_post.proofs.ballot_marks.mark_row.Goals as goal

pub loop-at-init : goal.loop-at-init
loop-at-init c = marked_row-none c.args.tables.now.plan c.args.tables.now.seed c.args.race c.args.row c.args.bits.now c.requires.bits

pub mark_one-requires-clause-bits : goal.mark_one-requires-clause-bits
mark_one-requires-clause-bits c =
    let plan = c.args.tables.now.plan in
    ap length c.loop-at.invariant
    ∙ length-map_below (λ entry. has_bit c.args.bits.now entry || row_marks plan c.args.tables.now.seed c.args.race c.args.row (take c.loop-at.at c.args.marks.now) entry) (entries_of plan c.args.race)

pub mark_one-requires-clause-fits : goal.mark_one-requires-clause-fits
mark_one-requires-clause-fits c =
    let mark : Mark = c.get.result.now in
    let is = get_or_from_slice_get c.args.marks.now c.loop-at.at mark mark c.get.ensures.item in
    subst (λ (m : Mark). m.race ≡ c.args.race → m.candidate < candidates_of c.args.tables.now.plan c.args.race) is (c.requires.fits c.loop-at.at mark (slice_get_within c.args.marks.now c.loop-at.at mark c.get.ensures.item))

pub loop-at-preserved : goal.loop-at-preserved
loop-at-preserved c =
    let plan = c.args.tables.now.plan in
    let seed = c.args.tables.now.seed in
    let mark : Mark = c.get.result.now in
    let marks : List Mark = take c.loop-at.at c.args.marks.now in
    let is = get_or_from_slice_get c.args.marks.now c.loop-at.at mark mark c.get.ensures.item in
    let fits = subst (λ (m : Mark). m.race ≡ c.args.race → m.candidate < candidates_of plan c.args.race) is (c.requires.fits c.loop-at.at mark (slice_get_within c.args.marks.now c.loop-at.at mark c.get.ensures.item)) in
    c.mark_one.ensures
    ∙ (ap (λ (l : List Bool). cond (mark.race == c.args.race) (set l (entry_showing plan seed c.args.race c.args.row mark.candidate) true) l) c.loop-at.invariant
    ∙ (marked_row-next plan seed c.args.race c.args.row marks mark c.args.bits.now c.requires.row fits
    ∙ ap (λ (l : List Mark). marked_row plan seed c.args.race c.args.row l c.args.bits.now) (sym c.get.ensures.front)))
