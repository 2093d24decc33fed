-- The slots of voided ballots.
use Rattle.std.proofs.Common.{◌≡◌, ℕ, ◌-◌, ◌<◌, ◌≤◌, ◌==◌, ◌^◌, nat_lt, nat_le, Bool, true, false, ◌&&◌, ◌||◌, cond, List, [], ◌∷◌, length, slice_get, Option, Some, None, refl, ap, sym, ◌∙◌, arith}
use Rattle.std.specs.Prelude.{ℤ, pos, negsuc, is_some}
use Rattle.std.specs.List.{list_all, list_any}
use Rattle.std.specs.Option.{option_and_then, option_map_or}
use Rattle.std.specs.Ordering.{int_eq}
use Rattle.std.proofs.lemmas.Bool.{and_parts}
use Rattle.std.proofs.lemmas.Bool.Decides.{nat_tests}
use Rattle.std.proofs.lemmas.Option.{same_Some}
use Rattle.sg_lists.proofs.Bools.{cond_same}
use Rattle.sg_lists.proofs.Integers.{int_eq-pos}
use Rattle.sg_lists.proofs.Lists.{slice_get-set_other}
use Rattle.sg_plan.specs.Limits.{first_bad}
use Rattle.sg_plan.specs.declared.plan.Fate.TheVariants as fate
use Rattle.sg_desks.specs.ActTexts.{act_text}
use Rattle.sg_keeper.specs.Rows.{void_before}
use Rattle.sg_acts.specs.declared.asks.Act.TheVariants as act
use Rattle.sg_keeper.specs.declared.rows.VoidRow.{VoidRow}
use Rattle.sg_histories.specs.ValidRows.{climbs, differ}
use Rattle.sg_histories.specs.declared.kept.Slot.{Slot}
use Rattle.sg_histories.proofs.Back.{all_from, each_from}
use Rattle.sg_open.specs.inside.Finding.{station_at, void_passes, void_place, void_slot, voided_after}
use Rattle.sg_open.specs.inside.Telling.{small_of}
use Rattle.sg_open.proofs.Seats.{get_set_at}

-- the tests of a void's row of this ballot
abbrev pub void_tests : ℕ → (List ℕ → Option ℤ) → List (Option ℤ) → ℕ → Bool
void_tests version stations scanners ballot = (nat_le 1 ballot && nat_le ballot (length scanners)) && differ (option_and_then (λ s. s) (slice_get scanners (ballot - 1))) (stations (act_text version (act.Void ballot)))

-- a row that voids a ballot
pub record VoidsAt (version : ℕ) (stations : List ℕ → Option ℤ) (scanners : List (Option ℤ)) (row : VoidRow) (place : ℕ) : Type 0 where
  pub ballot : ℕ
  pub number : row.ballot ≡ pos ballot
  pub is : ballot - 1 ≡ place
  pub first : 1 ≤ ballot
  pub low : ballot < 2 ^ 32
  pub tests : void_tests version stations scanners ballot ≡ true

pub void_is_at : (version : ℕ) (stations : List ℕ → Option ℤ) (scanners : List (Option ℤ)) (row : VoidRow) (place : ℕ) → void_place version stations scanners row ≡ Some place → VoidsAt version stations scanners row place
void_is_at version stations scanners row place = by_row row.ballot refl
  where
    low_is : (n : ℕ) → nat_lt n (2 ^ 32) ≡ true → n < 2 ^ 32
    low_is n e = grind (arith, nat_tests, e)

    first_is : (n : ℕ) (others : Bool) (rest : Bool) → ((nat_le 1 n && others) && rest) ≡ true → 1 ≤ n
    first_is n others rest e = let k = (and_parts (nat_le 1 n) others (and_parts (nat_le 1 n && others) rest e).0).0 in grind (arith, nat_tests, k)

    by_tests : (n : ℕ) (test : Bool) → row.ballot ≡ pos n → n < 2 ^ 32 → void_tests version stations scanners n ≡ test → cond test (Some (n - 1)) None ≡ Some place → VoidsAt version stations scanners row place
    by_tests n false b l t e = cc
    by_tests n true b l t e = record {
      ballot = n;
      number = b;
      is = same_Some (n - 1) place e;
      first = first_is n (nat_le n (length scanners)) (differ (option_and_then (λ s. s) (slice_get scanners (n - 1))) (stations (act_text version (act.Void n)))) t;
      low = l;
      tests = t;
    }

    by_small : (n : ℕ) (test : Bool) → row.ballot ≡ pos n → nat_lt n (2 ^ 32) ≡ test
        → option_and_then (λ b. cond (void_tests version stations scanners b) (Some (b - 1)) None) (cond test (Some n) None) ≡ Some place → VoidsAt version stations scanners row place
    by_small n false b l e = cc
    by_small n true b l e = by_tests n (void_tests version stations scanners n) b (low_is n l) refl e

    by_row : (number : ℤ) → row.ballot ≡ number → option_and_then (λ b. cond (void_tests version stations scanners b) (Some (b - 1)) None) (small_of number) ≡ Some place → VoidsAt version stations scanners row place
    by_row (pos n) b e = by_small n (nat_lt n (2 ^ 32)) b refl e
    by_row (negsuc n) b e = cc

abbrev pub voided_slot : Slot → Slot
voided_slot slot = record { fate = fate.Voided; station = slot.station }

-- the slot of a ballot, where each row voids a ballot
pub voided_at : (version : ℕ) (stations : List ℕ → Option ℤ) (scanners : List (Option ℤ)) (slots : List Slot) (rows : List VoidRow) (ballot : ℕ) (slot : Slot) → 1 ≤ ballot
    → list_all (λ (row : VoidRow). is_some (void_place version stations scanners row)) rows ≡ true → slice_get slots (ballot - 1) ≡ Some slot
    → slice_get (voided_after version stations scanners slots rows) (ballot - 1) ≡ Some (cond (list_any (λ (kept : VoidRow). int_eq kept.ballot (pos ballot)) rows) (voided_slot slot) slot)
voided_at version stations scanners slots [] ballot slot first all e = e
voided_at version stations scanners slots (row ∷ rows) ballot slot first all e =
    let parts = and_parts (is_some (void_place version stations scanners row)) (list_all (λ (row : VoidRow). is_some (void_place version stations scanners row)) rows) all in
    by_place (void_place version stations scanners row) refl parts.0 (λ s x k. voided_at version stations scanners s rows ballot x first parts.1 k)
  where
    by_same : (place : ℕ) (voids : VoidsAt version stations scanners row place) (same : Bool) → (voids.ballot == ballot) ≡ same
        → ((s : List Slot) (x : Slot) → slice_get s (ballot - 1) ≡ Some x → slice_get (voided_after version stations scanners s rows) (ballot - 1) ≡ Some (cond (list_any (λ (kept : VoidRow). int_eq kept.ballot (pos ballot)) rows) (voided_slot x) x))
        → slice_get (voided_after version stations scanners (void_slot slots (Some place)) rows) (ballot - 1) ≡ Some (cond (same || list_any (λ (kept : VoidRow). int_eq kept.ballot (pos ballot)) rows) (voided_slot slot) slot)
    by_same place voids true s ih =
        let at : place ≡ ballot - 1 = (let k = voids.is in grind (arith, nat_tests, s, k)) in
        let station : station_at slots place ≡ slot.station = ap (λ (o : Option Slot). option_map_or (λ (x : Slot). x.station) o 0) (ap (slice_get slots) at ∙ e) in
        let here : slice_get (void_slot slots (Some place)) (ballot - 1) ≡ Some (voided_slot slot)
        = get_set_at slots place (ballot - 1) (record { fate = fate.Voided; station = station_at slots place }) slot at e ∙ ap (λ (n : ℕ). Some (record { fate = fate.Voided; station = n })) station in
        ih (void_slot slots (Some place)) (voided_slot slot) here
        ∙ ap (λ (x : Slot). Some x) (cond_same (list_any (λ (kept : VoidRow). int_eq kept.ballot (pos ballot)) rows) (voided_slot slot))
    by_same place voids false s ih =
        let apart : place ≡ ballot - 1 → ⊥ = λ k. differ_at voids.ballot s voids.first (voids.is ∙ k) in
        ih (void_slot slots (Some place)) slot
        (slice_get-set_other slots place (ballot - 1) (record { fate = fate.Voided; station = station_at slots place }) (λ same. apart (sym same)) ∙ e)
      where
        differ_at : (n : ℕ) → (n == ballot) ≡ false → 1 ≤ n → n - 1 ≡ ballot - 1 → ⊥
        differ_at n f some k = grind (arith, nat_tests, f, some, k, first)

    by_place : (found : Option ℕ) → void_place version stations scanners row ≡ found → is_some found ≡ true
        → ((s : List Slot) (x : Slot) → slice_get s (ballot - 1) ≡ Some x → slice_get (voided_after version stations scanners s rows) (ballot - 1) ≡ Some (cond (list_any (λ (kept : VoidRow). int_eq kept.ballot (pos ballot)) rows) (voided_slot x) x))
        → slice_get (voided_after version stations scanners (void_slot slots found) rows) (ballot - 1) ≡ Some (cond (int_eq row.ballot (pos ballot) || list_any (λ (kept : VoidRow). int_eq kept.ballot (pos ballot)) rows) (voided_slot slot) slot)
    by_place None f some ih = cc
    by_place (Some place) f some ih =
        let voids = void_is_at version stations scanners row place f in
        let test : int_eq row.ballot (pos ballot) ≡ (voids.ballot == ballot) = ap (λ (z : ℤ). int_eq z (pos ballot)) voids.number ∙ int_eq-pos voids.ballot ballot in
        by_same place voids (voids.ballot == ballot) refl ih
        ∙ ap (λ b. Some (cond (b || list_any (λ (kept : VoidRow). int_eq kept.ballot (pos ballot)) rows) (voided_slot slot) slot)) (sym test)

-- rows that pass each void a ballot
pub all_void : (version : ℕ) (stations : List ℕ → Option ℤ) (scanners : List (Option ℤ)) (rows : List VoidRow) → first_bad (void_passes version stations scanners) [] rows ≡ None
    → list_all (λ (row : VoidRow). is_some (void_place version stations scanners row)) rows ≡ true
all_void version stations scanners rows none =
    all_from (void_passes version stations scanners) (λ (row : VoidRow). is_some (void_place version stations scanners row))
    (λ front (row : VoidRow) k. (and_parts (climbs void_before front row) (is_some (void_place version stations scanners row)) k).1) [] rows
    (each_from (void_passes version stations scanners) rows none)
