-- The numbers of the posted record are of their types, so its words are of their kinds.
use Rattle.std.proofs.Common.{◌≡◌, ℕ, ◌%◌, ◌<◌, ◌≤◌, ◌==◌, nat_lt, ◌&&◌, Bool, true, false, cond, List, [], ◌∷◌, All, length, map, Some, None, sym, subst, arith}
use Rattle.std.proofs.lemmas.Bool.{and_parts}
use Rattle.std.proofs.lemmas.List.Elements.{All-append, All-cons, All-nil}
use Rattle.std.proofs.lemmas.List.Sums.{count_by-le-length}
use Rattle.std.specs.List.{flat_map, list_all}
use Rattle.sg_lists.proofs.Each.{EachOf}
use Rattle.sg_plan.proofs.PlanLaws.{bounds}
use Rattle.sg_plan.specs.Ballots.{ballot_has, candidates_of, entries_of, entry_at, races_of_ballot}
use Rattle.sg_plan.specs.Limits.{fault_of}
use Rattle.sg_plan.specs.declared.plan.Draw.{Draw}
use Rattle.sg_plan.specs.declared.plan.Draw.TheVariants as drawn
use Rattle.sg_plan.specs.declared.plan.Fate.{Fate}
use Rattle.sg_plan.specs.declared.plan.Fate.TheVariants as fate
use Rattle.sg_plan.specs.declared.plan.Plan.{Plan}
use Rattle.sg_plan.specs.declared.plan.Side.{Side}
use Rattle.sg_plan.specs.declared.plan.Side.TheVariants as side
use Rattle.sg_plan.specs.declared.plan.Stage.TheVariants as stage
use Rattle.sg_streams.proofs.NumberLists.{length-numbers_below}
use Rattle.sg_streams.specs.CoinSides.{coin_of, coin_seed}
use Rattle.sg_streams.specs.Numbers.{numbers_below}
use Rattle.sg_streams.specs.Streams.{stream_number}
use Rattle.sg_tables.proofs.Lists.{get_or-map_below, length-map_below}
use Rattle.sg_tables.proofs.TableLaws.{opening_laws, pointer_laws}
use Rattle.sg_tables.specs.Tables.{left_of, left_opening_of, q_opening_of, right_opening_of}
use Rattle.sg_forms.specs.Spelling.{AreBytes, IsNumber, IsOpening, IsRow}
use Rattle.sg_record.proofs.RecordWords.{typed_have_words}
use Rattle.sg_record.specs.Laws.{HasWords}
use Rattle.sg_record.specs.Typed.{AreDigests, AreDrawn, BlockHasKeys, DisputeHasKeys, HasCastKey, HasKey, IsDigest, IsTyped}
use Rattle.sg_record.specs.declared.record.BallotBlock.{BallotBlock}
use Rattle.sg_record.specs.declared.record.BlockFate.{BlockFate}
use Rattle.sg_record.specs.declared.record.BlockFate.TheVariants as blocked
use Rattle.sg_record.specs.declared.record.CastLine.{CastLine}
use Rattle.sg_record.specs.declared.record.CastLine.TheVariants as cast
use Rattle.sg_post.specs.Fits.{claim_fits, fates_fit, stage_fits}
use Rattle.sg_post.specs.Marks.{is_entry_audited, is_place_set, total_of}
use Rattle.sg_post.specs.Posted.{both_sides, code_commit_of, code_in_row, dispute_of, fate_blocks, one_side, opened_row, posted_record, row_commit_of, seal_1, seal_2, seal_3, told_blocks}
use Rattle.sg_post.specs.declared.story.Claimed.{Claimed}
use Rattle.sg_post.specs.declared.story.Told.{Told}
use Rattle.sg_post.proofs.Bytes.{digest-bytes, key-bytes}
use Rattle.sg_post.proofs.Notes.{note_race}
use Rattle.sg_post.proofs.OwnCodes.{HoldsOfOwn, audited_codes-of, cast_lines-of, race_codes-of}
use Rattle.sg_post.proofs.PostedFormed.{posted-formed}
use Rattle.sg_plan.specs.Fates.{fate_fits, mark_fits, marks_differ}
use Rattle.sg_post.proofs.StoryFits.{fits-later, fits_ballot}

-- LISTS

made-all : {A : Type 0} (P : A → Type 0) (f : ℕ → A) (count : ℕ) → ((k : ℕ) → k < count → P (f k)) → All P (map f (numbers_below count))
made-all P f count all = λ k d within.
    let less : k < count = subst (λ (n : ℕ). k < n) (length-map_below f count) within in
    subst P (sym (get_or-map_below f count k d less)) (all k less)

each-all : {A : Type 0} (P : A → Type 0) (xs : List A) → EachOf P xs → All P xs
each-all P [] all = All-nil P
each-all P (x ∷ xs) all = All-cons P x xs all.0 (each-all P xs all.1)

-- BLOCKS

own-key : (plan : Plan) (seed : List ℕ) (ballot : ℕ) → HoldsOfOwn HasKey plan seed ballot
unfolding code_in_row q_opening_of
own-key plan seed ballot = λ race column has within below. key-bytes seed (stream_number 5 race 0) (entry_at plan race ballot column)

-- a note has no key
note-key : (race : ℕ) (line : CastLine) → note_race line ≡ Some race → HasCastKey line
note-key race (cast.Code code) of = cc
note-key race line of = tt

fate-keys : (plan : Plan) (seed : List ℕ) (ballot : ℕ) (what : Fate) → fault_of plan ≡ None → fits_ballot plan ballot what
    → All BlockHasKeys (map (λ (w : BlockFate). let one : BallotBlock = record { ballot = ballot; fate = w } in one) (fate_blocks plan seed ballot what))
fate-keys plan seed ballot fate.Unused fine fit = All-nil BlockHasKeys
fate-keys plan seed ballot (fate.Cast marks) fine fit =
    let tests = and_parts (list_all (mark_fits plan (races_of_ballot plan ballot)) marks) (marks_differ marks) fit in
    All-cons BlockHasKeys _ [] (each-all HasCastKey _ (cast_lines-of HasCastKey plan seed marks ballot (own-key plan seed ballot) (λ race line within note. note-key race line note.of) tests.0)) (All-nil BlockHasKeys)
fate-keys plan seed ballot fate.Spoiled fine fit = All-cons BlockHasKeys _ [] tt (All-nil BlockHasKeys)
fate-keys plan seed ballot (fate.Audited paper) fine fit =
    All-cons BlockHasKeys _ [] (each-all HasKey _ (audited_codes-of HasKey plan seed ballot fine (own-key plan seed ballot))) (All-nil BlockHasKeys)
fate-keys plan seed ballot fate.Voided fine fit = at_version (plan.version == 2)
  where
    at_version : (b : Bool) → All BlockHasKeys ((let one : BallotBlock = record { ballot = ballot; fate = cond b blocked.Voided blocked.Spoiled } in one) ∷ [])
    at_version true = All-cons BlockHasKeys _ [] tt (All-nil BlockHasKeys)
    at_version false = All-cons BlockHasKeys _ [] tt (All-nil BlockHasKeys)

fates-keys : (plan : Plan) (seed : List ℕ) (last : ℕ) (fates : List Told) → fault_of plan ≡ None → fates_fit plan last fates ≡ true → All BlockHasKeys (flat_map (told_blocks plan seed) fates)
fates-keys plan seed last [] fine fit = All-nil BlockHasKeys
fates-keys plan seed last (told ∷ fates) fine fit =
    let parts = and_parts (nat_lt last told.ballot && fate_fits plan told.ballot told.fate) (fates_fit plan told.ballot fates) fit in
    let first = fits-later plan last told.ballot told.fate parts.0 in
    All-append BlockHasKeys (told_blocks plan seed told) (flat_map (told_blocks plan seed) fates) (fate-keys plan seed told.ballot told.fate fine first.1) (fates-keys plan seed told.ballot fates fine parts.1)

claims-keys : (plan : Plan) (seed : List ℕ) (claims : List Claimed) → fault_of plan ≡ None → list_all (claim_fits plan) claims ≡ true → All DisputeHasKeys (map (dispute_of plan seed) claims)
claims-keys plan seed [] fine fit = All-nil DisputeHasKeys
claims-keys plan seed (claimed ∷ claims) fine fit =
    let parts = and_parts (claim_fits plan claimed) (list_all (claim_fits plan) claims) fit in
    let tests = and_parts (ballot_has plan claimed.ballot claimed.race) _ parts.0 in
    All-cons DisputeHasKeys (dispute_of plan seed claimed) (map (dispute_of plan seed) claims)
    (each-all HasKey _ (race_codes-of HasKey plan seed claimed.ballot claimed.race fine (own-key plan seed claimed.ballot) tests.0)) (claims-keys plan seed claims fine parts.1)

-- TOTALS

total-few : (plan : Plan) (seed : List ℕ) (fates : List Told) (race candidate : ℕ) → total_of plan seed fates race candidate ≤ entries_of plan race
unfolding total_of
total-few plan seed fates race candidate =
    omega (arith, count_by-le-length (λ place. place % candidates_of plan race == candidate && is_place_set plan seed fates race place) (numbers_below (entries_of plan race)), length-numbers_below (entries_of plan race))

-- ROWS

left-in : (plan : Plan) (seed : List ℕ) (race instance number : ℕ) → fault_of plan ≡ None → race < length plan.races → number < entries_of plan race → IsOpening (left_opening_of plan seed race instance number)
left-in plan seed race instance number fine within below =
    let value = opening_laws.left plan seed race instance number in
    let pointer = (pointer_laws.lefts plan seed race instance).below number below in (
      subst (AreBytes 16) (sym (opening_laws.left_key plan seed race instance number)) (key-bytes seed (stream_number 6 race instance) number),
      omega (arith, value, pointer, (bounds plan fine).few_entries race within),
    )

right-in : (plan : Plan) (seed : List ℕ) (race instance number : ℕ) → fault_of plan ≡ None → race < length plan.races → number < entries_of plan race → IsOpening (right_opening_of plan seed race instance number)
right-in plan seed race instance number fine within below =
    let value = opening_laws.right plan seed race instance number in
    let pointer = (pointer_laws.rights plan seed race instance).below number below in (
      subst (AreBytes 16) (sym (opening_laws.right_key plan seed race instance number)) (key-bytes seed (stream_number 7 race instance) number),
      omega (arith, value, pointer, (bounds plan fine).few_entries race within),
    )

row-in : (plan : Plan) (seed : List ℕ) (fates : List Told) (draw : Draw) (race instance number : ℕ) → fault_of plan ≡ None → race < length plan.races → number < entries_of plan race
    → IsRow (opened_row plan seed fates draw race instance number)
unfolding opened_row
row-in plan seed fates drawn.Full race instance number fine within below = (left-in plan seed race instance number fine within below, right-in plan seed race instance number fine within below)
row-in plan seed fates (drawn.Public bytes) race instance number fine within below = at_test (is_entry_audited plan fates race (left_of plan seed race instance number)) (coin_of (coin_seed bytes) race instance number)
  where
    at_test : (b : Bool) (s : Side) → IsRow (cond b (both_sides plan seed race instance number) (one_side plan seed race instance number s))
    at_test true s = (left-in plan seed race instance number fine within below, right-in plan seed race instance number fine within below)
    at_test false side.Left = left-in plan seed race instance number fine within below
    at_test false side.Right = right-in plan seed race instance number fine within below

-- THE WHOLE

code-digest : (plan : Plan) (seed : List ℕ) (race entry : ℕ) → IsDigest (code_commit_of plan seed race entry)
unfolding code_commit_of
code-digest plan seed race entry = digest-bytes _

row-digests : (plan : Plan) (seed : List ℕ) (race instance row : ℕ) → AreDigests (row_commit_of plan seed race instance row)
unfolding row_commit_of
row-digests plan seed race instance row = (digest-bytes _, digest-bytes _)

seals-typed : (plan : Plan) (seed : List ℕ) (fates : List Told) (draw : Draw) → All IsDigest (seal_1 plan seed ∷ seal_2 plan seed fates ∷ seal_3 plan seed fates draw ∷ [])
unfolding seal_1 seal_2 seal_3
seals-typed plan seed fates draw =
    All-cons IsDigest (seal_1 plan seed) (seal_2 plan seed fates ∷ seal_3 plan seed fates draw ∷ []) (digest-bytes _)
    (All-cons IsDigest (seal_2 plan seed fates) (seal_3 plan seed fates draw ∷ []) (digest-bytes _) (All-cons IsDigest (seal_3 plan seed fates draw) [] (digest-bytes _) (All-nil IsDigest)))

pub posted-typed : (plan : Plan) (seed : List ℕ) (fates : List Told) (draw : Draw) (claims : List Claimed) → fault_of plan ≡ None → fates_fit plan 0 fates ≡ true → AreDrawn draw
    → list_all (claim_fits plan) claims ≡ true → IsTyped (posted_record plan seed fates draw claims)
posted-typed plan seed fates draw claims fine fit are claimed = record {
  code_commits = made-all (All IsDigest) (λ race. map (code_commit_of plan seed race) (numbers_below (entries_of plan race))) (length plan.races)
      (λ race a. made-all IsDigest (code_commit_of plan seed race) (entries_of plan race) (λ entry b. code-digest plan seed race entry));
  row_commits = made-all (All (All AreDigests)) (λ race. map (λ instance. map (row_commit_of plan seed race instance) (numbers_below (entries_of plan race))) (numbers_below plan.instances)) (length plan.races)
      (λ race a. made-all (All AreDigests) (λ instance. map (row_commit_of plan seed race instance) (numbers_below (entries_of plan race))) plan.instances
      (λ instance b. made-all AreDigests (row_commit_of plan seed race instance) (entries_of plan race) (λ row c. row-digests plan seed race instance row)));
  seals = seals-typed plan seed fates draw;
  ballots = fates-keys plan seed 0 fates fine fit;
  totals = made-all (All IsNumber) (λ race. map (total_of plan seed fates race) (numbers_below (candidates_of plan race))) (length plan.races)
      (λ race a. made-all IsNumber (total_of plan seed fates race) (candidates_of plan race) (λ candidate b. omega (arith, total-few plan seed fates race candidate, (bounds plan fine).few_entries race a)));
  draw = are;
  rows = made-all (All (All IsRow)) (λ race. map (λ instance. map (opened_row plan seed fates draw race instance) (numbers_below (entries_of plan race))) (numbers_below plan.instances)) (length plan.races)
      (λ race a. made-all (All IsRow) (λ instance. map (opened_row plan seed fates draw race instance) (numbers_below (entries_of plan race))) plan.instances
      (λ instance b. made-all IsRow (opened_row plan seed fates draw race instance) (entries_of plan race) (λ row c. row-in plan seed fates draw race instance row fine a c)));
  disputes = claims-keys plan seed claims fine claimed;
}

pub posted-words : (plan : Plan) (seed : List ℕ) (fates : List Told) (draw : Draw) (claims : List Claimed) → fault_of plan ≡ None → fates_fit plan 0 fates ≡ true
    → stage_fits (stage.Drawn draw) claims ≡ true → AreDrawn draw → list_all (claim_fits plan) claims ≡ true → HasWords (posted_record plan seed fates draw claims)
posted-words plan seed fates draw claims fine fit fits are claimed =
    typed_have_words (posted_record plan seed fates draw claims) (posted-typed plan seed fates draw claims fine fit are claimed) (posted-formed plan seed fates draw claims fine fit fits claimed)
