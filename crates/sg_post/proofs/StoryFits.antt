-- What it says of a ballot that its fate fits the plan.
use Rattle.std.proofs.Common.{◌≡◌, ℕ, nat_le, nat_lt, true, ◌&&◌, ◌∙◌}
use Rattle.std.proofs.lemmas.Bool.{and_from, and_parts}
use Rattle.sg_plan.proofs.FateLists.{has_among}
use Rattle.sg_plan.specs.Ballots.{ballot_has, ballots_of, candidates_of, races_of_ballot}
use Rattle.sg_plan.specs.Fates.{detail_fits, fate_fits, is_in, mark_fits}
use Rattle.sg_plan.specs.declared.plan.Fate.{Fate}
use Rattle.sg_plan.specs.declared.plan.Mark.{Mark}
use Rattle.sg_plan.specs.declared.plan.Plan.{Plan}
use Rattle.sg_grammar.specs.Walk.{is_later}

-- the marks and the paper fit the ballot
abbrev pub fits_ballot : Plan → ℕ → Fate → Type 0
fits_ballot plan ballot what = detail_fits plan (races_of_ballot plan ballot) what ≡ true

-- the ballot is a later one, and its fate fits it
pub fits-later : (plan : Plan) (last ballot : ℕ) (what : Fate) → (nat_lt last ballot && fate_fits plan ballot what) ≡ true → (is_later plan last ballot ≡ true) × fits_ballot plan ballot what
fits-later plan last ballot what fit =
    let parts = and_parts (nat_lt last ballot) (fate_fits plan ballot what) fit in
    let sides = and_parts (nat_le 1 ballot && nat_le ballot (ballots_of plan)) (detail_fits plan (races_of_ballot plan ballot) what) parts.1 in
    (and_from (nat_lt last ballot) (nat_le ballot (ballots_of plan)) parts.0 (and_parts (nat_le 1 ballot) (nat_le ballot (ballots_of plan)) sides.0).1, sides.1)

-- the mark is of a race that the ballot has, and beside one of its candidates
pub mark-fits : (plan : Plan) (ballot : ℕ) (mark : Mark) → mark_fits plan (races_of_ballot plan ballot) mark ≡ true → (ballot_has plan ballot mark.race ≡ true) × (nat_lt mark.candidate (candidates_of plan mark.race) ≡ true)
mark-fits plan ballot mark fit =
    let parts = and_parts (is_in (races_of_ballot plan ballot) mark.race) (nat_lt mark.candidate (candidates_of plan mark.race)) fit in
    (has_among plan ballot mark.race ∙ parts.0, parts.1)
