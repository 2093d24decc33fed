-- The laws of the tables.
use Rattle.std.proofs.Common.{◌≡◌, ◌≢◌, ℕ, ◌+◌, ◌*◌, ◌/◌, ◌%◌, ◌<◌, inl, inr, List, [], length, map, slice_get, slice_index, Some, None, refl, sym, ap, ◌∙◌, arith}
use Rattle.std.specs.Option.{option_map, option_map_or}
use Rattle.std.proofs.lemmas.Bool.{cases_order}
use Rattle.std.proofs.lemmas.List.{length-map}
use Rattle.std.proofs.lemmas.Option.{slice_get-get_or, slice_get-map}
use Rattle.sg_lists.proofs.Numbers.{factor_above}
use Rattle.sg_plan.specs.Ballots.{ballot_row, candidates_of, entries_of, races_of_style, rows_of, style_of_ballot}
use Rattle.sg_plan.specs.Limits.{fault_of}
use Rattle.sg_plan.specs.declared.plan.Plan.{Plan}
use Rattle.sg_streams.specs.RowCodes.{row_codes}
use Rattle.sg_streams.specs.Streams.{stream_number}
use Rattle.sg_streams.proofs.Drawn.{codes_of-many, row_codes_law}
use Rattle.sg_tables.specs.Laws.{CodeLaws, CodesDiffer, EntryLaws, EntryLeads, OpeningLaws, PaperHas, Permutes, PointerLaws, ShownOnce}
use Rattle.sg_tables.specs.Tables.{code_beside, code_of_entry, codes_of_row, column_showing, entry_showing, left_of, left_opening_of, lefts_of, paper_of, path_of, place_row, place_rows_of, q_opening_of, right_of, right_opening_of, shown_by, shown_in_row}
use Rattle.sg_tables.proofs.Draws.{shown_in_row-one_to_one}
use Rattle.sg_tables.proofs.Inverses.{one_to_one-same}
use Rattle.sg_tables.proofs.Permuting.{permutes}
use Rattle.sg_tables.proofs.Sizes.{sizes}
use Rattle.sg_tables.proofs.Values.{code_beside-below, column_shows, entry_split, left_of-below, lefts_of-one_to_one, length-codes_of_row, number_at, path_of-below, place_row-below, place_rows_of-one_to_one, shown_at, shown_by-below}

-- POINTERS AND PATHS

left_of-one : (plan : Plan) (seed : List ℕ) (race instance row other : ℕ) → row < entries_of plan race → other < entries_of plan race
    → left_of plan seed race instance row ≡ left_of plan seed race instance other → row ≡ other
unfolding left_of
left_of-one plan seed race instance = one_to_one-same (entries_of plan race) (lefts_of plan seed race instance) (lefts_of-one_to_one plan seed race instance)

pub lefts_permute : (plan : Plan) (seed : List ℕ) (race instance : ℕ) → Permutes (entries_of plan race) (left_of plan seed race instance)
lefts_permute plan seed race instance =
    permutes (entries_of plan race) (left_of plan seed race instance) (left_of-below plan seed race instance) (left_of-one plan seed race instance)

place_row-one : (plan : Plan) (seed : List ℕ) (race row other candidate : ℕ) → row < rows_of plan race → other < rows_of plan race
    → place_row plan seed race row candidate ≡ place_row plan seed race other candidate → row ≡ other
unfolding place_row
place_row-one plan seed race row other candidate = one_to_one-same (rows_of plan race) (place_rows_of plan seed race candidate) (place_rows_of-one_to_one plan seed race candidate) row other

-- two entries of a ballot row that show the same candidate are one
pub shown_by-one : (plan : Plan) (seed : List ℕ) (race entry other : ℕ) → entry < entries_of plan race → other < entries_of plan race
    → entry / candidates_of plan race ≡ other / candidates_of plan race → shown_by plan seed race entry ≡ shown_by plan seed race other → entry ≡ other
unfolding shown_by
shown_by-one plan seed race entry other below below' row same =
    let k = candidates_of plan race in
    let some = factor_above (rows_of plan race) k entry below in
    let at = entry_split plan race entry some below in
    let at' = entry_split plan race other some below' in
    let list = shown_in_row plan seed race (entry / k) in
    let shows : slice_index list (entry % k) ≡ slice_index list (other % k) = same ∙ ap (λ r. slice_index (shown_in_row plan seed race r) (other % k)) (sym row) in
    let column = one_to_one-same k list (shown_in_row-one_to_one plan seed race (entry / k)) (entry % k) (other % k) at.column at'.column shows in
    sym at.is ∙ ap (λ r. r * k + entry % k) row ∙ ap (λ c. other / k * k + c) column ∙ at'.is

-- the row and the column of a path
pub path_split : (plan : Plan) (seed : List ℕ) (race entry : ℕ) → entry < entries_of plan race
    → (path_of plan seed race entry / candidates_of plan race ≡ place_row plan seed race (entry / candidates_of plan race) (shown_by plan seed race entry))
    × (path_of plan seed race entry % candidates_of plan race ≡ shown_by plan seed race entry)
unfolding path_of
path_split plan seed race entry below =
    let some = factor_above (rows_of plan race) (candidates_of plan race) entry below in
    let at = entry_split plan race entry some below in
    let candidate = shown_by plan seed race entry in
    let row = place_row plan seed race (entry / candidates_of plan race) candidate in
    let number = number_at plan race row candidate (place_row-below plan seed race (entry / candidates_of plan race) candidate at.row) (shown_by-below plan seed race entry some) in
    (number.row_is, number.column_is)

path_of-one : (plan : Plan) (seed : List ℕ) (race entry other : ℕ) → entry < entries_of plan race → other < entries_of plan race
    → path_of plan seed race entry ≡ path_of plan seed race other → entry ≡ other
path_of-one plan seed race entry other below below' same =
    let k = candidates_of plan race in
    let some = factor_above (rows_of plan race) k entry below in
    let split = path_split plan seed race entry below in
    let split' = path_split plan seed race other below' in
    let candidate : shown_by plan seed race entry ≡ shown_by plan seed race other = sym split.1 ∙ ap (λ p. p % k) same ∙ split'.1 in
    let row : place_row plan seed race (entry / k) (shown_by plan seed race entry) ≡ place_row plan seed race (other / k) (shown_by plan seed race entry) =
    sym split.0 ∙ ap (λ p. p / k) same ∙ split'.0 ∙ ap (place_row plan seed race (other / k)) (sym candidate) in
    let at = entry_split plan race entry some below in
    let at' = entry_split plan race other some below' in
    shown_by-one plan seed race entry other below below' (place_row-one plan seed race (entry / k) (other / k) (shown_by plan seed race entry) at.row at'.row row) candidate

pub paths_permute : (plan : Plan) (seed : List ℕ) (race : ℕ) → Permutes (entries_of plan race) (path_of plan seed race)
paths_permute plan seed race =
    permutes (entries_of plan race) (path_of plan seed race)
    (λ entry below. path_of-below plan seed race entry (factor_above (rows_of plan race) (candidates_of plan race) entry below) below)
    (path_of-one plan seed race)

pub right_of-path : (plan : Plan) (seed : List ℕ) (race instance row : ℕ) → right_of plan seed race instance row ≡ path_of plan seed race (left_of plan seed race instance row)
unfolding right_of
right_of-path plan seed race instance row = refl

pub rights_permute : (plan : Plan) (seed : List ℕ) (race instance : ℕ) → Permutes (entries_of plan race) (right_of plan seed race instance)
unfolding right_of
rights_permute plan seed race instance =
    let left = lefts_permute plan seed race instance in
    let path = paths_permute plan seed race in
    permutes (entries_of plan race) (right_of plan seed race instance)
    (λ row below. path.below (left_of plan seed race instance row) (left.below row below))
    (λ row other below below' same. left.one row other below below' (path.one _ _ (left.below row below) (left.below other below') same))

pub pointer_laws : PointerLaws
pointer_laws = record { lefts = lefts_permute; paths = paths_permute; rights = rights_permute; composed = right_of-path }

-- WHAT ENTRIES SHOW

pub entry_leads : (plan : Plan) (seed : List ℕ) (race entry : ℕ) → entry < entries_of plan race → EntryLeads plan seed race entry
entry_leads plan seed race entry below =
    let some = factor_above (rows_of plan race) (candidates_of plan race) entry below in
    let at = entry_split plan race entry some below in
    let split = path_split plan seed race entry below in
    record {
      shows = shown_by-below plan seed race entry some;
      row = rw split.0 (place_row-below plan seed race (entry / candidates_of plan race) (shown_by plan seed race entry) at.row);
      column = split.1;
    }

pub shown_once : (plan : Plan) (seed : List ℕ) (race row candidate : ℕ) → row < rows_of plan race → candidate < candidates_of plan race → ShownOnce plan seed race row candidate
unfolding entry_showing
shown_once plan seed race row candidate above less =
    let shows = column_shows plan seed race row candidate less in
    let number = number_at plan race row (column_showing plan seed race row candidate) above shows.within in
    let found : shown_by plan seed race (entry_showing plan seed race row candidate) ≡ candidate = shown_at plan seed race row (column_showing plan seed race row candidate) shows.within ∙ shows.is in
    record {
      below = number.below;
      column = shows.within;
      is = refl;
      row_is = number.row_is;
      column_is = number.column_is;
      shows = found;
      alone = λ entry below at same. shown_by-one plan seed race entry (entry_showing plan seed race row candidate) below number.below (at ∙ sym number.row_is) (same ∙ sym found);
    }

entries_apart : (plan : Plan) (seed : List ℕ) (race entry other : ℕ) → entry < entries_of plan race → other < entries_of plan race
    → entry / candidates_of plan race ≡ other / candidates_of plan race → entry ≢ other
    → (shown_by plan seed race entry ≢ shown_by plan seed race other)
    × (path_of plan seed race entry % candidates_of plan race ≢ path_of plan seed race other % candidates_of plan race)
entries_apart plan seed race entry other below below' row differ =
    let apart : shown_by plan seed race entry ≢ shown_by plan seed race other = λ same. differ (shown_by-one plan seed race entry other below below' row same) in
    (apart, λ same. apart (sym (path_split plan seed race entry below).1 ∙ same ∙ (path_split plan seed race other below').1))

pub entry_laws : EntryLaws
entry_laws = record { leads = entry_leads; once = shown_once; apart = entries_apart }

-- CODES

pub code_of_entry-beside : (plan : Plan) (seed : List ℕ) (race entry : ℕ)
    → code_of_entry plan seed race entry ≡ code_beside plan seed race (entry / candidates_of plan race) (shown_by plan seed race entry)
unfolding code_of_entry
code_of_entry-beside plan seed race entry = refl

code_of_entry-shown : (plan : Plan) (seed : List ℕ) (race row candidate : ℕ) → row < rows_of plan race → candidate < candidates_of plan race
    → code_of_entry plan seed race (entry_showing plan seed race row candidate) ≡ code_beside plan seed race row candidate
code_of_entry-shown plan seed race row candidate above less =
    let once = shown_once plan seed race row candidate above less in
    code_of_entry-beside plan seed race (entry_showing plan seed race row candidate)
    ∙ ap (λ r. code_beside plan seed race r (shown_by plan seed race (entry_showing plan seed race row candidate))) once.row_is
    ∙ ap (code_beside plan seed race row) once.shows

pub codes_differ : (plan : Plan) (seed : List ℕ) (race row : ℕ) → fault_of plan ≡ None → race < length plan.races → CodesDiffer plan seed race row
unfolding code_beside codes_of_row
codes_differ plan seed race row good here =
    let small = sizes plan race good here in
    let many = length-codes_of_row plan seed race row small.version small.candidates in
    let enough = codes_of-many plan.version small.version in
    let codes = row_codes plan.version seed (stream_number 1 race row) (candidates_of plan race) in
    let law = (row_codes_law plan.version seed (stream_number 1 race row) (candidates_of plan race) (omega (arith, enough, small.candidates))).0 in
    record {
      many = many;
      listed = λ candidate less. slice_get-get_or codes candidate 0 (omega (arith, many, less));
      below = λ candidate less. code_beside-below plan seed race row candidate small.version small.candidates less;
      one = λ candidate other less less' same. elim (cases_order candidate other) [
        | inl e ↦ e
        | inr (inl before) ↦ absurd (law.different candidate other 0 before (omega (arith, many, less')) same)
        | inr (inr after) ↦ absurd (law.different other candidate 0 after (omega (arith, many, less)) (sym same))
      ];
    }

-- the paper of a ballot of a style
pub paper_of-style : (plan : Plan) (seed : List ℕ) (ballot style : ℕ) → style_of_ballot plan ballot ≡ Some style
    → paper_of plan seed ballot ≡ map (λ race. codes_of_row plan seed race (ballot_row plan race ballot)) (races_of_style plan style)
unfolding paper_of
paper_of-style plan seed ballot style at =
    ap (λ o. map (λ race. codes_of_row plan seed race (ballot_row plan race ballot)) (option_map_or (races_of_style plan) o [])) at

paper_has : (plan : Plan) (seed : List ℕ) (ballot style : ℕ) → style_of_ballot plan ballot ≡ Some style → PaperHas plan seed ballot style
paper_has plan seed ballot style at =
    let f = λ (race : ℕ). codes_of_row plan seed race (ballot_row plan race ballot) in
    let races = races_of_style plan style in
    let paper = paper_of-style plan seed ballot style at in
    record {
      many = ap length paper ∙ length-map races f;
      codes = λ place race found. ap (λ l. slice_get l place) paper ∙ slice_get-map f races place ∙ ap (option_map f) found;
    }

no_paper : (plan : Plan) (seed : List ℕ) (ballot : ℕ) → style_of_ballot plan ballot ≡ None → length (paper_of plan seed ballot) ≡ 0
unfolding paper_of
no_paper plan seed ballot none = rw none refl

pub code_laws : CodeLaws
code_laws = record { beside = code_of_entry-beside; shown = code_of_entry-shown; differ = codes_differ; paper = paper_has; no_paper = no_paper }

-- OPENINGS

pub opening_laws : OpeningLaws
unfolding q_opening_of left_opening_of right_opening_of
opening_laws = record {
  code = λ plan seed race entry. refl;
  code_key = λ plan seed race entry. refl;
  left = λ plan seed race instance row. refl;
  left_key = λ plan seed race instance row. refl;
  right = λ plan seed race instance row. refl;
  right_key = λ plan seed race instance row. refl;
}
