-- The claim, and then the codes.
use Rattle.std.proofs.Common.{◌∷◌, [], ◌∙◌}
use Rattle.std.proofs.lemmas.Bool.{and_parts, ltb-true}
use Rattle.sg_forms.specs.Said.Said.{Dispute}
use Rattle.sg_plan.specs.Ballots.{ballot_has, ballot_row}
use Rattle.sg_plan.specs.Codes.{codes_of, is_code}
use Rattle.sg_record.proofs.Putting.{puts_stop, puts_then}
use Rattle.sg_post.specs.inside.Lines.{row_codes}
use Rattle.sg_post.proofs.Claims.{has-within}
use Rattle.sg_post.proofs.disputes.put_claim.Goals as goal

pub put_line-requires : goal.put_line-requires
put_line-requires g c =
    let plan = c.args.tables.now.plan in
    let claimed = c.args.claimed.now in
    let tests = and_parts (ballot_has plan claimed.ballot claimed.race) (is_code plan claimed.code) c.requires.fits in
    rw c.requires.version (ltb-true claimed.code (codes_of plan.version) tests.1)

pub row_in-row-requires-clause-race : goal.row_in-row-requires-clause-race
row_in-row-requires-clause-race g c =
    let plan = c.args.tables.now.plan in
    let claimed = c.args.claimed.now in
    let tests = and_parts (ballot_has plan claimed.ballot claimed.race) (is_code plan claimed.code) c.requires.fits in
    has-within plan claimed.ballot claimed.race c.count_races.ensures.limits tests.0

pub row_in-row-requires-clause-has : goal.row_in-row-requires-clause-has
row_in-row-requires-clause-has g c =
    let plan = c.args.tables.now.plan in
    let claimed = c.args.claimed.now in
    (and_parts (ballot_has plan claimed.ballot claimed.race) (is_code plan claimed.code) c.requires.fits).0

pub put_row_codes-requires-clause-version : goal.put_row_codes-requires-clause-version
put_row_codes-requires-clause-version g c = c.in_ok-put_line.ensures.version ∙ c.requires.version

pub put_row_codes-requires-clause-race : goal.put_row_codes-requires-clause-race
put_row_codes-requires-clause-race g c =
    let plan = c.args.tables.now.plan in
    let claimed = c.args.claimed.now in
    let tests = and_parts (ballot_has plan claimed.ballot claimed.race) (is_code plan claimed.code) c.requires.fits in
    has-within plan claimed.ballot claimed.race c.count_races.ensures.limits tests.0

pub returns-in_err-put_line : goal.returns-in_err-put_line
returns-in_err-put_line g c =
    let plan = c.args.tables.now.plan in
    let claimed = c.args.claimed.now in
    puts_stop _ _ _ _ (Dispute claimed.ballot claimed.race claimed.code claimed.word ∷ []) (row_codes plan c.args.tables.now.seed claimed.race (ballot_row plan claimed.race claimed.ballot)) c.from_residual.ensures.0 c.in_err-put_line.ensures

pub returns : goal.returns
returns g c =
    let plan = c.args.tables.now.plan in
    let claimed = c.args.claimed.now in
    puts_then _ _ _ _ _ (Dispute claimed.ballot claimed.race claimed.code claimed.word ∷ []) (row_codes plan c.args.tables.now.seed claimed.race (ballot_row plan claimed.race claimed.ballot)) c.in_ok-put_line.ensures
    (rw c.row_in-row.ensures.value at c.put_row_codes.ensures)
