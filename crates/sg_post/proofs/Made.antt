-- What is made from marks is what the definitions say of them.
use Rattle.std.proofs.Common.{◌≡◌, ◌≢◌, inl, inr, get_or, length-set, ℕ, zero, suc, ◌+◌, ◌%◌, ◌<◌, ◌≤◌, ◌==◌, Bool, true, false, ◌&&◌, ◌||◌, cond, List, [], ◌∷◌, ◌++◌, length, map, set, refl, sym, ap, ◌∙◌, arith}
use Rattle.std.specs.Prelude.{count_by, replicate, slice_index_or}
use Rattle.std.specs.List.{list_any, range_with_len}
use Rattle.std.proofs.lemmas.Bool.{cases_eq, eq-eqb, ne_eqb}
use Rattle.std.proofs.lemmas.Bool.Decides.{nat_tests}
use Rattle.std.proofs.lemmas.List.{get_or-replicate, get_or-set_other, get_or-set_same, length-replicate, same_lists}
use Rattle.std.proofs.lemmas.List.Folds.{list_any-append}
use Rattle.std.proofs.lemmas.List.Sums.{count_by-le-length, sum_by-cons}
use Rattle.std.proofs.Math.Bool.{and-false, or-false, and-true}
use Rattle.sg_lists.proofs.Bools.{one_if}
use Rattle.sg_lists.proofs.Counting.{count_by-append}
use Rattle.sg_lists.proofs.Sums.{sum-range}
use Rattle.sg_plan.specs.Ballots.{candidates_of, entries_of}
use Rattle.sg_plan.specs.declared.plan.Plan.{Plan}
use Rattle.sg_streams.proofs.NumberLists.{length-numbers_below, numbers_below-none, numbers_below-push}
use Rattle.sg_streams.specs.Numbers.{numbers_below}
use Rattle.sg_tables.proofs.Lists.{get_or-map_below, length-map_below}
use Rattle.sg_tables.proofs.Values.{left_of-below}
use Rattle.sg_tables.specs.Tables.{left_of, path_of}
use Rattle.sg_post.specs.Marks.{flag_of, is_audit_fate, is_entry_marked, is_place_set, total_of}
use Rattle.sg_post.specs.Posted.{by_candidate, by_entry, by_row}
use Rattle.sg_post.specs.Posting.{is_audited_ballot}
use Rattle.sg_post.specs.inside.Making.{HaveEntries, flags_by, has_bit, is_vote, leads_to, of_race, race_flags_by, race_places_by, race_totals_by, total_by, votes_by}
use Rattle.sg_post.specs.declared.story.Told.{Told}
use Rattle.sg_post.proofs.Kept.{map-same}
use Rattle.sg_post.proofs.Marking.{set-bit}

-- the list of a race
pub race-list : {A : Type 0} (plan : Plan) (value : ℕ → ℕ → A) (race : ℕ) → race < length plan.races
    → slice_index_or (by_entry plan value) race [] ≡ map (value race) (numbers_below (entries_of plan race))
race-list plan value race within = get_or-map_below (λ race. map (value race) (numbers_below (entries_of plan race))) (length plan.races) race [] within

pub have_entries : (plan : Plan) (value : ℕ → ℕ → Bool) → HaveEntries plan (by_entry plan value)
have_entries plan value = record {
  many = length-map_below (λ race. map (value race) (numbers_below (entries_of plan race))) (length plan.races);
  each = λ race within. ap length (race-list plan value race within) ∙ length-map_below (value race) (entries_of plan race);
}

-- a bit of a race
race-bit : (plan : Plan) (value : ℕ → ℕ → Bool) (race at : ℕ) → race < length plan.races → at < entries_of plan race
    → has_bit (of_race (by_entry plan value) race) at ≡ value race at
race-bit plan value race at within below =
    ap (λ (l : List Bool). has_bit l at) (race-list plan value race within) ∙ get_or-map_below (value race) (entries_of plan race) at false below

-- the flags
pub flags-are : (plan : Plan) (seed : List ℕ) (fates : List Told) → map (race_flags_by plan seed (by_entry plan (is_entry_marked plan seed fates))) (numbers_below (length plan.races)) ≡ by_row plan (flag_of plan seed fates)
unfolding flag_of
flags-are plan seed fates =
    let marks : List (List Bool) = by_entry plan (is_entry_marked plan seed fates) in
    map-same (race_flags_by plan seed marks) (λ race. map (λ instance. map (flag_of plan seed fates race instance) (numbers_below (entries_of plan race))) (numbers_below plan.instances)) (length plan.races) []
    (λ race within.
    map-same (flags_by plan seed race (of_race marks race)) (λ instance. map (flag_of plan seed fates race instance) (numbers_below (entries_of plan race))) plan.instances []
    (λ instance less.
    map-same (λ row. has_bit (of_race marks race) (left_of plan seed race instance row)) (flag_of plan seed fates race instance) (entries_of plan race) false
    (λ row below. race-bit plan (is_entry_marked plan seed fates) race (left_of plan seed race instance row) within (left_of-below plan seed race instance row below))))

-- tests that agree on the numbers below a number
any-range : (f g : ℕ → Bool) (at count : ℕ) → ((k : ℕ) → k < at + count → f k ≡ g k) → list_any f (range_with_len at count) ≡ list_any g (range_with_len at count)
any-range f g at zero same = refl
any-range f g at (suc count) same =
    ap (λ (b : Bool). b || list_any f (range_with_len (at + 1) count)) (same at (omega arith))
    ∙ ap (λ (b : Bool). g at || b) (any-range f g (at + 1) count (λ k less. same k (omega (arith, less))))

any-same : (f g : ℕ → Bool) (count : ℕ) → ((k : ℕ) → k < count → f k ≡ g k) → list_any f (numbers_below count) ≡ list_any g (numbers_below count)
unfolding numbers_below
any-same f g count same = any-range f g 0 count (λ k less. same k (omega (arith, less)))

pub count-same : (f g : ℕ → Bool) (count : ℕ) → ((k : ℕ) → k < count → f k ≡ g k) → count_by f (numbers_below count) ≡ count_by g (numbers_below count)
unfolding numbers_below
count-same f g count same = sum-range (λ k. one_if (f k)) (λ k. one_if (g k)) 0 count (λ k after below. ap one_if (same k (omega (arith, below))))

-- the places
pub places-are : (plan : Plan) (seed : List ℕ) (fates : List Told) → map (race_places_by plan seed (by_entry plan (is_entry_marked plan seed fates))) (numbers_below (length plan.races)) ≡ by_entry plan (is_place_set plan seed fates)
unfolding is_place_set
places-are plan seed fates =
    let marks : List (List Bool) = by_entry plan (is_entry_marked plan seed fates) in
    map-same (race_places_by plan seed marks) (λ race. map (is_place_set plan seed fates race) (numbers_below (entries_of plan race))) (length plan.races) []
    (λ race within.
    map-same (λ place. list_any (leads_to plan seed race (of_race marks race) place) (numbers_below (entries_of plan race))) (is_place_set plan seed fates race) (entries_of plan race) false
    (λ place below.
    any-same (leads_to plan seed race (of_race marks race) place) (λ entry. path_of plan seed race entry == place && is_entry_marked plan seed fates race entry) (entries_of plan race)
    (λ entry less. ap (λ (b : Bool). path_of plan seed race entry == place && b) (race-bit plan (is_entry_marked plan seed fates) race entry within less))))

-- the totals
pub totals-are : (plan : Plan) (seed : List ℕ) (fates : List Told) → map (race_totals_by plan (by_entry plan (is_place_set plan seed fates))) (numbers_below (length plan.races)) ≡ by_candidate plan (total_of plan seed fates)
unfolding total_of
totals-are plan seed fates =
    let places : List (List Bool) = by_entry plan (is_place_set plan seed fates) in
    map-same (race_totals_by plan places) (λ race. map (total_of plan seed fates race) (numbers_below (candidates_of plan race))) (length plan.races) []
    (λ race within.
    map-same (total_by (of_race places race) (candidates_of plan race)) (total_of plan seed fates race) (candidates_of plan race) 0
    (λ candidate less.
    ap (λ n. count_by (is_vote (of_race places race) (candidates_of plan race) candidate) (numbers_below n)) ((have_entries plan (is_place_set plan seed fates)).each race within)
    ∙ count-same (is_vote (of_race places race) (candidates_of plan race) candidate) (λ place. place % candidates_of plan race == candidate && is_place_set plan seed fates race place) (entries_of plan race)
    (λ place below. ap (λ (b : Bool). place % candidates_of plan race == candidate && b) (race-bit plan (is_place_set plan seed fates) race place within below))))

-- VOTES, place after place

pub votes-push : (p : ℕ → Bool) (n : ℕ) → count_by p (numbers_below (n + 1)) ≡ count_by p (numbers_below n) + one_if (p n)
votes-push p n =
    let one : count_by p (n ∷ []) ≡ one_if (p n) + 0 = sum_by-cons (λ (k : ℕ). one_if (p k)) n [] in
    ap (count_by p) (numbers_below-push n) ∙ (count_by-append p (numbers_below n) (n ∷ []) ∙ omega (arith, one))

-- no place has no votes
pub votes-none : (places : List Bool) (candidates : ℕ) → replicate candidates 0 ≡ votes_by places candidates 0
votes-none places candidates =
    let none : ℕ → ℕ = λ candidate. count_by (is_vote places candidates candidate) (numbers_below 0) in
    same_lists (replicate candidates 0) (map none (numbers_below candidates)) (length-replicate {A = ℕ} candidates 0 ∙ sym (length-map_below none candidates))
    (λ k d inside.
    let less : k < candidates = omega (arith, inside, length-replicate {A = ℕ} candidates 0) in
    get_or-replicate {A = ℕ} candidates k 0 d less ∙ (sym (ap (count_by (is_vote places candidates k)) numbers_below-none) ∙ sym (get_or-map_below none candidates k d less)))

-- a place that is not set is no vote
pub votes-unset : (places : List Bool) (candidates place : ℕ) → has_bit places place ≡ false → votes_by places candidates place ≡ votes_by places candidates (place + 1)
votes-unset places candidates place unset =
    map-same (λ candidate. count_by (is_vote places candidates candidate) (numbers_below place)) (λ candidate. count_by (is_vote places candidates candidate) (numbers_below (place + 1))) candidates 0
    (λ candidate less.
    let here : one_if (is_vote places candidates candidate place) ≡ 0 = ap (λ (b : Bool). one_if (place % candidates == candidate && b)) unset ∙ ap one_if (and-false (place % candidates == candidate)) in
    omega (arith, votes-push (is_vote places candidates candidate) place, here))

-- an item that is put into a list made number by number
set-item : (f g : ℕ → ℕ) (n at value : ℕ) → at < n → value ≡ g at → ((k : ℕ) → k ≢ at → f k ≡ g k) → set (map f (numbers_below n)) at value ≡ map g (numbers_below n)
set-item f g n at value within own others =
    let list = map f (numbers_below n) in
    let long : length (set list at value) ≡ n = length-set list at value ∙ length-map_below f n in
    same_lists (set list at value) (map g (numbers_below n)) (long ∙ sym (length-map_below g n))
    (λ k d inside.
    let less : k < n = omega (arith, inside, long) in
    elim (cases_eq k at) [
      | inl here ↦
          ap (λ (j : ℕ). get_or (set list at value) j d) here
          ∙ (get_or-set_same list at value d (omega (arith, within, length-map_below f n))
          ∙ (own ∙ (ap g (sym here) ∙ sym (get_or-map_below g n k d less))))
      | inr other ↦ get_or-set_other list at k value d other ∙ (get_or-map_below f n k d less ∙ (others k other ∙ sym (get_or-map_below g n k d less)))
    ])

-- a place that is set is a vote for the candidate of its column
pub votes-set : (places : List Bool) (candidates place : ℕ) → has_bit places place ≡ true → place % candidates < candidates
    → set (votes_by places candidates place) (place % candidates) (get_or (votes_by places candidates place) (place % candidates) 0 + 1) ≡ votes_by places candidates (place + 1)
votes-set places candidates place is within =
    let before : ℕ → ℕ = λ candidate. count_by (is_vote places candidates candidate) (numbers_below place) in
    let after : ℕ → ℕ = λ candidate. count_by (is_vote places candidates candidate) (numbers_below (place + 1)) in
    let at : ℕ = place % candidates in
    let one : one_if (is_vote places candidates at place) ≡ 1 = ap (λ (b : Bool). one_if (at == at && b)) is ∙ ap (λ (b : Bool). one_if (b && true)) (eq-eqb at at refl) in
    ap (λ n. set (map before (numbers_below candidates)) at (n + 1)) (get_or-map_below before candidates at 0 within)
    ∙ set-item before after candidates at (before at + 1) within (omega (arith, votes-push (is_vote places candidates at) place, one))
    (λ k other.
    let none : one_if (is_vote places candidates k place) ≡ 0 = ap (λ (b : Bool). one_if (b && has_bit places place)) (ne_eqb at k (λ same. other (sym same))) in
    omega (arith, votes-push (is_vote places candidates k) place, none))

-- AUDITED BALLOTS

eqb-turned : (a b : ℕ) → (a == b) ≡ (b == a)
eqb-turned a b = grind (arith, nat_tests)

pub audited-next : (fates : List Told) (told : Told) (n : ℕ) (is_wanted : Bool) → is_wanted ≡ is_audit_fate told.fate → told.ballot < n
    → cond is_wanted (set (map (is_audited_ballot fates) (numbers_below n)) told.ballot true) (map (is_audited_ballot fates) (numbers_below n))
    ≡ map (is_audited_ballot (fates ++ told ∷ [])) (numbers_below n)
audited-next fates told n true is below =
    set-bit (is_audited_ballot fates) n told.ballot below
    ∙ map-same (λ k. is_audited_ballot fates k || k == told.ballot) (is_audited_ballot (fates ++ told ∷ [])) n false
    (λ k less.
    ap (λ (b : Bool). is_audited_ballot fates k || b) (eqb-turned k told.ballot ∙ sym (and-true (told.ballot == k)) ∙ ap (λ (b : Bool). told.ballot == k && b) is ∙ sym (or-false (told.ballot == k && is_audit_fate told.fate)))
    ∙ sym (list_any-append (λ (t : Told). t.ballot == k && is_audit_fate t.fate) fates (told ∷ [])))
audited-next fates told n false is below =
    map-same (is_audited_ballot fates) (is_audited_ballot (fates ++ told ∷ [])) n false
    (λ k less.
    sym (list_any-append (λ (t : Told). t.ballot == k && is_audit_fate t.fate) fates (told ∷ [])
    ∙ ap (λ (b : Bool). is_audited_ballot fates k || ((told.ballot == k && b) || false)) (sym is)
    ∙ ap (λ (b : Bool). is_audited_ballot fates k || (b || false)) (and-false (told.ballot == k))
    ∙ or-false (is_audited_ballot fates k)))

pub audited-none : (n : ℕ) → replicate n false ≡ map (is_audited_ballot []) (numbers_below n)
audited-none n =
    same_lists (replicate n false) (map (is_audited_ballot []) (numbers_below n)) (length-replicate n false ∙ sym (length-map_below (is_audited_ballot []) n))
    (λ k d inside. let less : k < n = omega (arith, inside, length-replicate n false) in get_or-replicate n k false d less ∙ sym (get_or-map_below (is_audited_ballot []) n k d less))

-- no candidate has more votes than there were places
pub votes-few : (places : List Bool) (candidates place at : ℕ) → at < candidates → get_or (votes_by places candidates place) at 0 ≤ place
votes-few places candidates place at within =
    let votes : ℕ → ℕ = λ candidate. count_by (is_vote places candidates candidate) (numbers_below place) in
    omega (arith, get_or-map_below votes candidates at 0 within, count_by-le-length (is_vote places candidates at) (numbers_below place), length-numbers_below place)
