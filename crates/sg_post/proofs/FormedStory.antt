-- A story that fits its plan has blocks and disputes in the order of the rules.
use Rattle.std.proofs.Common.{◌≡◌, ℕ, ◌<◌, ◌≤◌, ◌==◌, nat_lt, nat_le, Bool, true, false, ◌&&◌, cond, List, [], ◌∷◌, ◌++◌, length, map, None, refl, arith}
use Rattle.std.proofs.lemmas.Bool.{and_from, and_parts, lt-ltb, ltb-true}
use Rattle.std.specs.List.{flat_map, list_all}
use Rattle.sg_plan.specs.Ballots.{ballot_has, ballots_of, races_of_ballot}
use Rattle.sg_plan.specs.Limits.{fault_of}
use Rattle.sg_plan.specs.declared.plan.Fate.{Fate}
use Rattle.sg_plan.specs.declared.plan.Fate.TheVariants as fate
use Rattle.sg_plan.specs.declared.plan.Plan.{Plan}
use Rattle.sg_grammar.specs.Walk.{is_later}
use Rattle.sg_plan.specs.Codes.{is_code}
use Rattle.sg_record.specs.Formed.{are_blocks, is_dispute, is_fate}
use Rattle.sg_record.specs.declared.record.BallotBlock.{BallotBlock}
use Rattle.sg_record.specs.declared.record.BlockFate.{BlockFate}
use Rattle.sg_record.specs.declared.record.BlockFate.TheVariants as blocked
use Rattle.sg_post.specs.Fits.{claim_fits, fates_fit}
use Rattle.sg_post.specs.Posted.{dispute_of, fate_blocks, told_blocks}
use Rattle.sg_post.specs.declared.story.Claimed.{Claimed}
use Rattle.sg_post.specs.declared.story.Told.{Told}
use Rattle.sg_post.proofs.Claims.{has-within}
use Rattle.sg_post.proofs.FormedCodes.{audited-columns, race-columns}
use Rattle.sg_post.proofs.FormedMarks.{cast-are}
use Rattle.sg_plan.specs.Fates.{fate_fits, mark_fits, marks_differ}
use Rattle.sg_post.proofs.StoryFits.{fits-later, fits_ballot}

-- BLOCKS

-- blocks behind a ballot are behind an earlier one
blocks-earlier : (plan : Plan) (last ballot : ℕ) (blocks : List BallotBlock) → last ≤ ballot → are_blocks plan ballot blocks ≡ true → are_blocks plan last blocks ≡ true
blocks-earlier plan last ballot [] low are = refl
blocks-earlier plan last ballot (one ∷ blocks) low are =
    let parts = and_parts (is_later plan ballot one.ballot && is_fate plan one.ballot one.fate) (are_blocks plan one.ballot blocks) are in
    let first = and_parts (is_later plan ballot one.ballot) (is_fate plan one.ballot one.fate) parts.0 in
    let later = and_parts (nat_lt ballot one.ballot) (nat_le one.ballot (ballots_of plan)) first.0 in
    and_from (is_later plan last one.ballot && is_fate plan one.ballot one.fate) (are_blocks plan one.ballot blocks)
    (and_from (is_later plan last one.ballot) (is_fate plan one.ballot one.fate)
    (and_from (nat_lt last one.ballot) (nat_le one.ballot (ballots_of plan)) (lt-ltb last one.ballot (omega (arith, low, ltb-true ballot one.ballot later.0))) later.1) first.1) parts.1

fate-blocks : (plan : Plan) (seed : List ℕ) (last ballot : ℕ) (what : Fate) (rest : List BallotBlock) → fault_of plan ≡ None → is_later plan last ballot ≡ true → fits_ballot plan ballot what
    → are_blocks plan ballot rest ≡ true
    → are_blocks plan last (map (λ (w : BlockFate). let one : BallotBlock = record { ballot = ballot; fate = w } in one) (fate_blocks plan seed ballot what) ++ rest) ≡ true
fate-blocks plan seed last ballot fate.Unused rest fine later fit behind =
    let less : last < ballot = ltb-true last ballot (and_parts (nat_lt last ballot) (nat_le ballot (ballots_of plan)) later).0 in
    blocks-earlier plan last ballot rest (omega (arith, less)) behind
fate-blocks plan seed last ballot (fate.Cast marks) rest fine later fit behind =
    let tests = and_parts (list_all (mark_fits plan (races_of_ballot plan ballot)) marks) (marks_differ marks) fit in
    rw (later, cast-are plan seed marks ballot fine tests.0) behind
fate-blocks plan seed last ballot fate.Spoiled rest fine later fit behind = rw later behind
fate-blocks plan seed last ballot (fate.Audited paper) rest fine later fit behind = rw (later, fit, audited-columns plan seed ballot fine) behind
fate-blocks plan seed last ballot fate.Voided rest fine later fit behind = at_version (plan.version == 2) refl
  where
    at_version : (b : Bool) → (plan.version == 2) ≡ b → ((is_later plan last ballot && is_fate plan ballot (cond b blocked.Voided blocked.Spoiled)) && are_blocks plan ballot rest) ≡ true
    at_version true is = rw (later, is) behind
    at_version false is = rw later behind

pub fates-blocks : (plan : Plan) (seed : List ℕ) (last : ℕ) (fates : List Told) → fault_of plan ≡ None → fates_fit plan last fates ≡ true → are_blocks plan last (flat_map (told_blocks plan seed) fates) ≡ true
fates-blocks plan seed last [] fine fit = refl
fates-blocks plan seed last (told ∷ fates) fine fit =
    let parts = and_parts (nat_lt last told.ballot && fate_fits plan told.ballot told.fate) (fates_fit plan told.ballot fates) fit in
    let first = fits-later plan last told.ballot told.fate parts.0 in
    fate-blocks plan seed last told.ballot told.fate (flat_map (told_blocks plan seed) fates) fine first.0 first.1 (fates-blocks plan seed told.ballot fates fine parts.1)

-- DISPUTES

pub claims-disputes : (plan : Plan) (seed : List ℕ) (claims : List Claimed) → fault_of plan ≡ None → list_all (claim_fits plan) claims ≡ true → list_all (is_dispute plan) (map (dispute_of plan seed) claims) ≡ true
claims-disputes plan seed [] fine fit = refl
claims-disputes plan seed (claimed ∷ claims) fine fit =
    let parts = and_parts (claim_fits plan claimed) (list_all (claim_fits plan) claims) fit in
    let tests = and_parts (ballot_has plan claimed.ballot claimed.race) (is_code plan claimed.code) parts.0 in
    let within : claimed.race < length plan.races = has-within plan claimed.ballot claimed.race fine tests.0 in
    rw (lt-ltb claimed.race (length plan.races) within, tests.0, tests.1, race-columns plan seed claimed.ballot claimed.race fine within) (claims-disputes plan seed claims fine parts.1)
