-- A ballot posts nothing in a race that it does not have. An audited one posts all codes, and each other one codes and notes.
use Rattle.std.proofs.Common.{sym, ◌∙◌}
use Rattle.sg_plan.specs.Ballots.{ballot_row}
use Rattle.sg_record.proofs.Putting.{puts_none, puts_stop, puts_then}
use Rattle.sg_post.proofs.LineForms.{race-none, row_codes-are}
use Rattle.sg_post.specs.inside.Lines.{marked_row_codes, note_lines}
use Rattle.sg_post.proofs.ballots.put_race.Goals as goal

pub returns-then-not-has_race : goal.returns-then-not-has_race
returns-then-not-has_race g c =
    let told = c.args.told.now in
    rw (race-none c.args.tables.now.plan c.args.tables.now.seed told.ballot c.args.race told.fate c.requires.fits c.requires.race (sym c.has_race.ensures ∙ c.if-not-has_race.true)) (puts_none _ _)

pub row_in-row-requires-clause-has : goal.row_in-row-requires-clause-has
row_in-row-requires-clause-has g c = sym c.has_race.ensures ∙ c.if-not-has_race.false

pub returns-then-is_audit : goal.returns-then-is_audit
returns-then-is_audit g c =
    rw (sym c.is_audit.ensures ∙ c.if-is_audit.true, sym c.has_race.ensures ∙ c.if-not-has_race.false)
    (rw (row_codes-are c.args.tables.now.plan c.args.tables.now.seed c.args.told.now.ballot c.args.race) (rw c.row_in-row.ensures.value at c.put_row_codes.ensures))

pub returns-in_err-put_marked_codes : goal.returns-in_err-put_marked_codes
returns-in_err-put_marked_codes g c =
    let plan = c.args.tables.now.plan in
    let told = c.args.told.now in
    rw (sym c.is_audit.ensures ∙ c.if-is_audit.false)
    (puts_stop _ _ _ _ (marked_row_codes plan c.args.tables.now.seed c.args.race (ballot_row plan c.args.race told.ballot) told.fate) (note_lines plan told.ballot told.fate c.args.race)
    c.from_residual.ensures.0 (rw c.row_in-row.ensures.value at c.in_err-put_marked_codes.ensures))

pub returns : goal.returns
returns g c =
    let plan = c.args.tables.now.plan in
    let told = c.args.told.now in
    rw (sym c.is_audit.ensures ∙ c.if-is_audit.false)
    (puts_then _ _ _ _ _ (marked_row_codes plan c.args.tables.now.seed c.args.race (ballot_row plan c.args.race told.ballot) told.fate) (note_lines plan told.ballot told.fate c.args.race)
    (rw c.row_in-row.ensures.value at c.in_ok-put_marked_codes.ensures) c.put_notes.ensures)
