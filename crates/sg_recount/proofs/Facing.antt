-- What the lists of an accepted record say, beside its lines.
use Rattle.std.proofs.Common.{◌≡◌, ℕ, zero, suc, ◌+◌, ◌<◌, ◌==◌, nat_lt, Bool, true, false, ◌&&◌, ◌||◌, List, [], ◌∷◌, length, Option, Some, None, refl, sym, subst, ap, ◌∙◌, arith}
use Rattle.std.specs.List.{list_all}
use Rattle.std.specs.Option.{option_and_then, option_map_or}
use Rattle.std.specs.Prelude.{is_some, slice_get}
use Rattle.std.proofs.lemmas.Bool.{and_parts, eq-eqb, eqb-true, lt-leb}
use Rattle.std.proofs.lemmas.Option.{same_Some}
use Rattle.sg_lists.proofs.Lists.{slice_get_there}
use Rattle.sg_lists.proofs.Tests.{list_all-slice_get}
use Rattle.sg_commit.specs.declared.Opening.{Opening}
use Rattle.sg_plan.specs.Ballots.{candidates_of, entries_of}
use Rattle.sg_plan.specs.declared.plan.Plan.{Plan}
use Rattle.sg_plan.specs.declared.plan.Side.{Side}
use Rattle.sg_record.proofs.FormedLists.{formed_parts}
use Rattle.sg_record.specs.Formed.{each_passes, has_candidates, has_entries, has_rows}
use Rattle.sg_record.specs.Places.{places_in}
use Rattle.sg_record.specs.declared.record.Record.{Record}
use Rattle.sg_check.proofs.Bounding.{marked_is}
use Rattle.sg_check.specs.Completions.{IsHalfOf, is_repeated, is_wrong_pointer}
use Rattle.sg_check.specs.Facts.{is_flagged, is_marked, is_set, points_to}
use Rattle.sg_check.specs.Kinds.{differ, is_counted}
use Rattle.sg_check.specs.Printings.{count_below, marked_code}
use Rattle.sg_facts.proofs.Facts.{are_listed}
use Rattle.sg_facts.specs.Items.{item_in, row_in}
use Rattle.sg_facts.specs.Tables.{HasTable}
use Rattle.sg_facts.specs.Totals.{total_of}
use Rattle.sg_parts.specs.Given.{IsAccepted, completion_of}
use Rattle.sg_parts.specs.declared.parts.RowGiven.{RowGiven}
use Rattle.sg_recount.proofs.Repeated.{repeated}
use Rattle.sg_recount.specs.inside.Counted.{HasCounts}

-- ITEMS THAT ARE THERE

each_there : {A : Type 0} (test : ℕ → A → Bool) (from : ℕ) (xs : List A) (i : ℕ) (x : A) → each_passes test from xs ≡ true → slice_get xs i ≡ Some x → test (from + i) x ≡ true
each_there test from [] i x all is = no is
  where
    no : None ≡ Some x → test (from + i) x ≡ true
    no e = cc
each_there test from (y ∷ xs) zero x all is =
    let same : from ≡ from + 0 = omega arith in
    subst (λ n. test n x ≡ true) same (subst (λ z. test from z ≡ true) (same_Some y x is) (and_parts (test from y) (each_passes test (from + 1) xs) all).0)
each_there test from (y ∷ xs) (suc i) x all is =
    let same : (from + 1) + i ≡ from + suc i = omega arith in
    subst (λ n. test n x ≡ true) same (each_there test (from + 1) xs i x (and_parts (test from y) (each_passes test (from + 1) xs) all).1 is)

entry_there : {A : Type 0} (plan : Plan) (lists : List (List A)) (race entry : ℕ) → has_entries plan lists ≡ true → race < length plan.races → entry < entries_of plan race → (x : A) × (item_in lists race entry ≡ Some x)
entry_there plan lists race entry has within less =
    let parts = and_parts (length lists == length plan.races) (each_passes (λ r items. length items == entries_of plan r) 0 lists) has in
    let list = slice_get_there lists race (omega (arith, within, eqb-true (length lists) (length plan.races) parts.0)) in
    let same : 0 + race ≡ race = omega arith in
    let long = eqb-true (length list.0) (entries_of plan (0 + race)) (each_there (λ r items. length items == entries_of plan r) 0 lists race list.0 parts.1 list.1) in
    let item = slice_get_there list.0 entry (omega (arith, less, long, ap (entries_of plan) same)) in
    (item.0, ap (option_and_then (λ items. slice_get items entry)) list.1 ∙ item.1)

candidate_there : {A : Type 0} (plan : Plan) (lists : List (List A)) (race candidate : ℕ) → has_candidates plan lists ≡ true → race < length plan.races → candidate < candidates_of plan race
    → (x : A) × (item_in lists race candidate ≡ Some x)
candidate_there plan lists race candidate has within less =
    let parts = and_parts (length lists == length plan.races) (each_passes (λ r items. length items == candidates_of plan r) 0 lists) has in
    let list = slice_get_there lists race (omega (arith, within, eqb-true (length lists) (length plan.races) parts.0)) in
    let same : 0 + race ≡ race = omega arith in
    let long = eqb-true (length list.0) (candidates_of plan (0 + race)) (each_there (λ r items. length items == candidates_of plan r) 0 lists race list.0 parts.1 list.1) in
    let item = slice_get_there list.0 candidate (omega (arith, less, long, ap (candidates_of plan) same)) in
    (item.0, ap (option_and_then (λ items. slice_get items candidate)) list.1 ∙ item.1)

row_there : {A : Type 0} (plan : Plan) (lists : List (List (List A))) (race instance row : ℕ) → has_rows plan lists ≡ true → IsHalfOf plan race instance row → (x : A) × (row_in lists race instance row ≡ Some x)
row_there {A} plan lists race instance row has within =
    let parts = and_parts (length lists == length plan.races) (each_passes (λ r instances. length instances == plan.instances && list_all (λ items. length items == entries_of plan r) instances) 0 lists) has in
    let list = slice_get_there lists race (omega (arith, within.0, eqb-true (length lists) (length plan.races) parts.0)) in
    let same : 0 + race ≡ race = omega arith in
    let test = each_there (λ r instances. length instances == plan.instances && list_all (λ items. length items == entries_of plan r) instances) 0 lists race list.0 parts.1 list.1 in
    let halves = and_parts (length list.0 == plan.instances) (list_all (λ items. length items == entries_of plan (0 + race)) list.0) test in
    let items = slice_get_there list.0 instance (omega (arith, within.1, eqb-true (length list.0) plan.instances halves.0)) in
    let long = eqb-true (length items.0) (entries_of plan (0 + race)) (list_all-slice_get (λ l. length l == entries_of plan (0 + race)) list.0 instance items.0 halves.1 items.1) in
    let item = slice_get_there items.0 row (omega (arith, within.2, long, ap (entries_of plan) same)) in
    (item.0, ap (option_and_then (λ (instances : List (List A)). item_in instances instance row)) list.1 ∙ (ap (option_and_then (λ (l : List A). slice_get l row)) items.1 ∙ item.1))

module _ (posted : Record) where
  module _ (accepted : IsAccepted posted) where
    pub flag_is : (race instance row : ℕ) → IsHalfOf posted.plan race instance row → is_flagged race instance row (places_in posted) ≡ option_map_or (λ flag. flag) (row_in posted.flags race instance row) false
    flag_is race instance row within =
        let found = row_there posted.plan posted.flags race instance row (formed_parts posted accepted.formed).flags within in
        (are_listed posted).flag race instance row found.0 within.0 found.1 ∙ sym (ap (λ (o : Option Bool). option_map_or (λ flag. flag) o false) found.1)

    pub total_is : (race candidate : ℕ) → race < length posted.plan.races → candidate < candidates_of posted.plan race → total_of (places_in posted) race candidate ≡ option_map_or (λ total. total) (item_in posted.totals race candidate) 0
    total_is race candidate within less =
        let found = candidate_there posted.plan posted.totals race candidate (formed_parts posted accepted.formed).totals within less in
        ap (λ (o : Option ℕ). option_map_or (λ total. total) o 0) ((are_listed posted).total race candidate found.0 within found.1) ∙ sym (ap (λ (o : Option ℕ). option_map_or (λ total. total) o 0) found.1)

    pub place_is : (race place : ℕ) → race < length posted.plan.races → place < entries_of posted.plan race → is_set race place (places_in posted) ≡ option_map_or (λ bit. bit) (item_in posted.places race place) false
    place_is race place within less =
        let found = entry_there posted.plan posted.places race place (formed_parts posted accepted.formed).places within less in
        (are_listed posted).place race place found.0 within found.1 ∙ sym (ap (λ (o : Option Bool). option_map_or (λ bit. bit) o false) found.1)

  pub mark_is : (marked : List (List (Option ℕ))) → HasTable posted.plan marked (λ race entry. marked_code posted.plan race entry (places_in posted)) → (race entry : ℕ) → race < length posted.plan.races → entry < entries_of posted.plan race
      → is_marked posted.plan race entry (places_in posted) ≡ is_some (option_map_or (λ code. code) (item_in marked race entry) None)
  mark_is marked table race entry within less =
      sym (marked_is posted.plan race entry (places_in posted)) ∙ sym (ap (λ (o : Option (Option ℕ)). is_some (option_map_or (λ code. code) o None)) (table race entry within less))

  -- WRONG POINTERS

  module _ (rows : List (List (List RowGiven))) (counts : List ℕ) (on : Side) (race instance row : ℕ) (within : IsHalfOf posted.plan race instance row) (opening : Opening)
      (has : HasCounts rows on race instance (entries_of posted.plan race) (entries_of posted.plan race) counts) (given : completion_of rows on race instance row ≡ Some opening) where
    -- a pointer is repeated where its count is two or more
    repeat_is : opening.value < entries_of posted.plan race → (count : ℕ) → slice_get counts opening.value ≡ Some count → is_repeated posted.plan (completion_of rows) on race instance row opening.value ≡ nat_lt 1 count
    repeat_is below count is =
        repeated (λ x. points_to opening.value (completion_of rows on race instance x)) row (entries_of posted.plan race) within.2 (ap (points_to opening.value) given ∙ eq-eqb opening.value opening.value refl)
        ∙ ap (nat_lt 1) (same_Some (count_below (λ x. points_to opening.value (completion_of rows on race instance x)) (entries_of posted.plan race)) count (sym (has.are opening.value below) ∙ is))

    pub wrong_is : opening.value < entries_of posted.plan race → (count : ℕ) → slice_get counts opening.value ≡ Some count
        → is_wrong_pointer posted.plan (places_in posted) (completion_of rows) on race instance row opening.value
        ≡ (nat_lt 1 count || differ (is_flagged race instance row (places_in posted)) (is_counted posted.plan (places_in posted) on race opening.value))
    wrong_is below count is =
        ap (λ b. b || (is_repeated posted.plan (completion_of rows) on race instance row opening.value || differ (is_flagged race instance row (places_in posted)) (is_counted posted.plan (places_in posted) on race opening.value)))
        (lt-leb (entries_of posted.plan race) opening.value below)
        ∙ ap (λ b. b || differ (is_flagged race instance row (places_in posted)) (is_counted posted.plan (places_in posted) on race opening.value)) (repeat_is below count is)
