-- What the rows of ballots and of voids tell of one ballot.
use Rattle.std.proofs.Common.{◌≡◌, ℕ, ◌-◌, ◌≤◌, ◌==◌, Bool, true, false, cond, List, [], ◌∷◌, slice_get, slice_set, Option, Some, None, refl, ap, sym, ◌∙◌, arith, subst}
use Rattle.std.specs.Prelude.{ℤ, pos}
use Rattle.std.specs.List.{list_any}
use Rattle.std.specs.Ordering.{int_eq}
use Rattle.std.proofs.lemmas.Bool.Decides.{nat_tests}
use Rattle.std.proofs.lemmas.Option.{slice_get_within}
use Rattle.sg_lists.proofs.Bools.{not_or_parts}
use Rattle.sg_lists.proofs.Integers.{int_eq-pos}
use Rattle.sg_lists.proofs.Lists.{slice_get-set_other, slice_get-set_same}
use Rattle.sg_plan.specs.declared.plan.Fate.{Fate}
use Rattle.sg_plan.specs.declared.plan.Fate.TheVariants as fate
use Rattle.sg_plan.specs.declared.plan.Plan.{Plan}
use Rattle.sg_keeper.specs.Rows.{ballot_before, ballot_is, is_new, put}
use Rattle.sg_keeper.specs.declared.rows.BallotRow.{BallotRow}
use Rattle.sg_histories.specs.Answers.{is_ballot}
use Rattle.sg_histories.specs.declared.kept.Slot.{Slot}
use Rattle.sg_open.specs.declared.ballots.BallotTold.{BallotTold}
use Rattle.sg_open.specs.declared.ballots.Found.{Found}
use Rattle.sg_open.specs.inside.Finding.{found_after, found_row, scanner_by, station_word}
use Rattle.sg_open.specs.inside.Telling.{ballot_told}
use Rattle.sg_open.proofs.TellingRows.{told_is}

-- a ballot's fate, and the station of its scan
pub record Seat : Type 0 where
  pub fate : Fate
  pub scanner : Option ℤ

abbrev pub no_seat : Seat
no_seat = record { fate = fate.Unused; scanner = None }

abbrev pub told_seat : (List ℕ → Option ℤ) → BallotTold → Seat
told_seat stations told = record { fate = told.fate; scanner = scanner_by stations told.text told.fate }

abbrev pub one_row : (List ℕ → Option ℤ) → ℕ → Seat → Option BallotTold → Seat
one_row stations ballot seat None = seat
one_row stations ballot seat (Some told) = cond (told.ballot == ballot) (told_seat stations told) seat

-- what is told of one ballot behind these rows
abbrev pub one_after : Plan → (List ℕ → Option ℤ) → ℕ → Seat → List BallotRow → Seat
one_after plan stations ballot seat [] = seat
one_after plan stations ballot seat (row ∷ rows) = one_after plan stations ballot (one_row stations ballot seat (ballot_told plan row)) rows

-- PLACES OF LISTS

pub get_set_at : {A : Type 0} (xs : List A) (i j : ℕ) (x y : A) → i ≡ j → slice_get xs j ≡ Some y → slice_get (slice_set xs i x) j ≡ Some x
get_set_at {A} xs i j x y is e = subst (λ (n : ℕ). slice_get (slice_set xs i x) n ≡ Some x) is (slice_get-set_same xs i x (slice_get_within xs i y (ap (slice_get xs) is ∙ e)))

-- LISTS OF SEATS

abbrev pub seat_slot : Seat → Slot
seat_slot seat = record { fate = seat.fate; station = station_word seat.scanner }

-- what was found has the ballot in this seat
pub record Sits (found : Found) (ballot : ℕ) (seat : Seat) : Type 0 where
  pub slot : slice_get found.slots (ballot - 1) ≡ Some (seat_slot seat)
  pub scanner : slice_get found.scanners (ballot - 1) ≡ Some seat.scanner

first_ballot : (plan : Plan) (ballot : ℕ) → is_ballot plan ballot ≡ true → 1 ≤ ballot
first_ballot plan ballot e = grind (arith, nat_tests, e)

sits_on : (plan : Plan) (stations : List ℕ → Option ℤ) (found : Found) (ballot : ℕ) (seat : Seat) (row : BallotRow) → 1 ≤ ballot → Sits found ballot seat
    → Sits (found_row stations found (ballot_told plan row)) ballot (one_row stations ballot seat (ballot_told plan row))
sits_on plan stations found ballot seat row first sits = by_told (ballot_told plan row) refl
  where
    by_same : (told : BallotTold) (same : Bool) → 1 ≤ told.ballot → (told.ballot == ballot) ≡ same → Sits (found_row stations found (Some told)) ballot (cond same (told_seat stations told) seat)
    by_same told true some e =
        let is : told.ballot - 1 ≡ ballot - 1 = grind (arith, nat_tests, e) in
        record {
          slot = get_set_at found.slots (told.ballot - 1) (ballot - 1) (seat_slot (told_seat stations told)) (seat_slot seat) is sits.slot;
          scanner = get_set_at found.scanners (told.ballot - 1) (ballot - 1) (scanner_by stations told.text told.fate) seat.scanner is sits.scanner;
        }
    by_same told false some e =
        let apart : told.ballot - 1 ≡ ballot - 1 → ⊥ = λ k. (let different : (told.ballot ≡ ballot → ⊥) = differ told.ballot ballot e in different (omega (arith, k, some, first))) in
        record {
          slot = slice_get-set_other found.slots (told.ballot - 1) (ballot - 1) (seat_slot (told_seat stations told)) (λ same. apart (sym same)) ∙ sits.slot;
          scanner = slice_get-set_other found.scanners (told.ballot - 1) (ballot - 1) (scanner_by stations told.text told.fate) (λ same. apart (sym same)) ∙ sits.scanner;
        }
      where
        differ : (a b : ℕ) → (a == b) ≡ false → a ≡ b → ⊥
        differ a b f same = grind (arith, nat_tests, f, same)

    by_told : (told : Option BallotTold) → ballot_told plan row ≡ told → Sits (found_row stations found told) ballot (one_row stations ballot seat told)
    by_told None e = sits
    by_told (Some told) e = by_same told (told.ballot == ballot) (first_ballot plan told.ballot (told_is plan row told e).known) refl

pub sits_after : (plan : Plan) (stations : List ℕ → Option ℤ) (found : Found) (ballot : ℕ) (seat : Seat) (rows : List BallotRow) → 1 ≤ ballot → Sits found ballot seat
    → Sits (found_after plan stations found rows) ballot (one_after plan stations ballot seat rows)
sits_after plan stations found ballot seat [] first sits = sits
sits_after plan stations found ballot seat (row ∷ rows) first sits =
    sits_after plan stations (found_row stations found (ballot_told plan row)) ballot (one_row stations ballot seat (ballot_told plan row)) rows first (sits_on plan stations found ballot seat row first sits)

-- ROWS THAT ARE PUT AMONG OTHERS

-- a row of another ballot tells nothing of this one
pub passed_over : (plan : Plan) (stations : List ℕ → Option ℤ) (ballot : ℕ) (seat : Seat) (row : BallotRow) → int_eq row.ballot (pos ballot) ≡ false → one_row stations ballot seat (ballot_told plan row) ≡ seat
passed_over plan stations ballot seat row other = by_told (ballot_told plan row) refl
  where
    by_told : (told : Option BallotTold) → ballot_told plan row ≡ told → one_row stations ballot seat told ≡ seat
    by_told None e = refl
    by_told (Some told) e =
        let apart : (told.ballot == ballot) ≡ false = sym (int_eq-pos told.ballot ballot) ∙ (ap (λ (z : ℤ). int_eq z (pos ballot)) (sym (told_is plan row told e).number) ∙ other) in
        ap (λ b. cond b (told_seat stations told) seat) apart

-- rows that have none of the ballot
pub one_none : (plan : Plan) (stations : List ℕ → Option ℤ) (ballot : ℕ) (seat : Seat) (row : BallotRow) (rows : List BallotRow) → row.ballot ≡ pos ballot → is_new ballot_is row rows ≡ true
    → one_after plan stations ballot seat rows ≡ seat
one_none plan stations ballot seat row [] is new = refl
one_none plan stations ballot seat row (x ∷ rows) is new =
    let parts = not_or_parts (ballot_is x row) (list_any (λ kept. ballot_is kept row) rows) new in
    let other : int_eq x.ballot (pos ballot) ≡ false = ap (λ (z : ℤ). int_eq x.ballot z) (sym is) ∙ parts.0 in
    ap (λ (s : Seat). one_after plan stations ballot s rows) (passed_over plan stations ballot seat x other) ∙ one_none plan stations ballot seat row rows is parts.1

-- a row of another ballot
pub one_else : (plan : Plan) (stations : List ℕ → Option ℤ) (ballot : ℕ) (seat : Seat) (row : BallotRow) (rows : List BallotRow) → int_eq row.ballot (pos ballot) ≡ false
    → one_after plan stations ballot seat (put ballot_before row rows) ≡ one_after plan stations ballot seat rows
one_else plan stations ballot seat row [] other = passed_over plan stations ballot seat row other
one_else plan stations ballot seat row (x ∷ rows) other = by_order (ballot_before row x) (one_else plan stations ballot (one_row stations ballot seat (ballot_told plan x)) row rows other)
  where
    by_order : (b : Bool) → one_after plan stations ballot (one_row stations ballot seat (ballot_told plan x)) (put ballot_before row rows) ≡ one_after plan stations ballot (one_row stations ballot seat (ballot_told plan x)) rows
        → one_after plan stations ballot seat (cond b (row ∷ x ∷ rows) (x ∷ put ballot_before row rows)) ≡ one_after plan stations ballot seat (x ∷ rows)
    by_order true ih = ap (λ (s : Seat). one_after plan stations ballot s (x ∷ rows)) (passed_over plan stations ballot seat row other)
    by_order false ih = ih

-- the row of the ballot
pub one_here : (plan : Plan) (stations : List ℕ → Option ℤ) (ballot : ℕ) (seat : Seat) (row : BallotRow) (rows : List BallotRow) (told : BallotTold) → row.ballot ≡ pos ballot → is_new ballot_is row rows ≡ true
    → ballot_told plan row ≡ Some told → (told.ballot == ballot) ≡ true
    → one_after plan stations ballot seat (put ballot_before row rows) ≡ told_seat stations told
one_here plan stations ballot seat row rows told is new e same = among rows seat new
  where
    here : (s : Seat) → one_row stations ballot s (ballot_told plan row) ≡ told_seat stations told
    here s = ap (one_row stations ballot s) e ∙ ap (λ b. cond b (told_seat stations told) s) same

    among : (rows : List BallotRow) (seat : Seat) → is_new ballot_is row rows ≡ true → one_after plan stations ballot seat (put ballot_before row rows) ≡ told_seat stations told
    among [] seat new = here seat
    among (x ∷ rows) seat new = by_order (ballot_before row x) (among rows (one_row stations ballot seat (ballot_told plan x)) (not_or_parts (ballot_is x row) (list_any (λ kept. ballot_is kept row) rows) new).1)
      where
        by_order : (b : Bool) → one_after plan stations ballot (one_row stations ballot seat (ballot_told plan x)) (put ballot_before row rows) ≡ told_seat stations told
            → one_after plan stations ballot seat (cond b (row ∷ x ∷ rows) (x ∷ put ballot_before row rows)) ≡ told_seat stations told
        by_order true ih = ap (λ (s : Seat). one_after plan stations ballot s (x ∷ rows)) (here seat) ∙ one_none plan stations ballot (told_seat stations told) row (x ∷ rows) is new
        by_order false ih = ih
