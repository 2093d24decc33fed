-- The ballot has the race and its marks count there, or no bit changes.
use Rattle.std.proofs.Common.{◌≡◌, sym, ap, ◌∙◌}
use Rattle.sg_plan.specs.Ballots.{is_over, races_of_ballot}
use Rattle.sg_plan.specs.declared.plan.Plan.{Plan}
use Rattle.sg_post.specs.inside.RowMarks.{marked_row}
use Rattle.sg_post.proofs.RowMarking.{cast-lacks, cast-over, cast-row, marks-beside}
use Rattle.sg_post.proofs.ballot_marks.mark_cast.Goals as goal

pub returns-then-not-has_race : goal.returns-then-not-has_race
returns-then-not-has_race c =
    cast-lacks c.args.tables.now.plan c.args.tables.now.seed c.args.race c.args.ballot c.args.marks.now c.args.bits.now c.requires.bits (sym c.has_race.ensures ∙ c.if-not-has_race.true)

pub returns-then-over : goal.returns-then-over
returns-then-over c =
    let plan = c.args.tables.now.plan in
    let over : c.over.result ≡ is_over plan c.args.marks.now c.args.race = c.over.ensures ∙ ap (λ (p : Plan). is_over p c.args.marks.now c.args.race) c.plan.ensures.plan in
    cast-over plan c.args.tables.now.seed c.args.race c.args.ballot c.args.marks.now c.args.bits.now c.requires.bits (sym over ∙ c.if-over.true)

pub row_in-row-requires-clause-has : goal.row_in-row-requires-clause-has
row_in-row-requires-clause-has c = sym c.has_race.ensures ∙ c.if-not-has_race.false

pub mark_row-requires-clause-fits : goal.mark_row-requires-clause-fits
mark_row-requires-clause-fits c = marks-beside c.args.tables.now.plan (races_of_ballot c.args.tables.now.plan c.args.ballot) c.args.race c.args.marks.now c.requires.fits

pub returns : goal.returns
returns c =
    let plan = c.args.tables.now.plan in
    let seed = c.args.tables.now.seed in
    let over : c.over.result ≡ is_over plan c.args.marks.now c.args.race = c.over.ensures ∙ ap (λ (p : Plan). is_over p c.args.marks.now c.args.race) c.plan.ensures.plan in
    c.mark_row.ensures
    ∙ (ap (λ k. marked_row plan seed c.args.race k c.args.marks.now c.args.bits.now) c.row_in-row.ensures.value
    ∙ cast-row plan seed c.args.race c.args.ballot c.args.marks.now c.args.bits.now (sym c.has_race.ensures ∙ c.if-not-has_race.false) (sym over ∙ c.if-over.false))
