-- A void's row passes its test exactly where it voids a ballot of those that were found.
use Rattle.std.proofs.Common.{◌≡◌, ℕ, ◌-◌, ◌<◌, ◌≤◌, ◌^◌, nat_lt, nat_le, Bool, true, false, ◌&&◌, cond, List, [], length, slice_get, Option, Some, None, refl, ap, sym, ◌∙◌, arith}
use Rattle.std.specs.Prelude.{ℤ, pos, negsuc, is_some}
use Rattle.std.specs.List.{list_all}
use Rattle.std.specs.Option.{option_and_then, option_map_or}
use Rattle.std.specs.Str.{is_utf8}
use Rattle.std.proofs.lemmas.Bool.Decides.{nat_tests}
use Rattle.std.proofs.lemmas.List.{length-replicate}
use Rattle.sg_lists.proofs.Lists.{slice_get-replicate}
use Rattle.sg_lists.proofs.Options.{is_some-cond}
use Rattle.sg_plan.specs.Ballots.{ballots_of}
use Rattle.sg_plan.specs.Limits.{first_bad}
use Rattle.sg_plan.specs.declared.plan.Plan.{Plan}
use Rattle.sg_desks.specs.ActReading.{act_in}
use Rattle.sg_desks.specs.ActTexts.{act_text}
use Rattle.sg_keeper.specs.Rows.{void_before}
use Rattle.sg_acts.specs.declared.asks.Act.TheVariants as act
use Rattle.sg_keeper.specs.declared.rows.BallotRow.{BallotRow}
use Rattle.sg_keeper.specs.declared.rows.DoneRow.{DoneRow}
use Rattle.sg_keeper.specs.declared.rows.VoidRow.{VoidRow}
use Rattle.sg_keeper.specs.declared.rows.Rows.{Rows}
use Rattle.sg_histories.specs.Answers.{is_ballot}
use Rattle.sg_histories.specs.ValidRows.{ballot_keeps, climbs, differ, doer, natural, row_fits, scan_text, station_of, void_keeps, void_text}
use Rattle.sg_histories.proofs.Back.{same_bad}
use Rattle.sg_open.specs.inside.Finding.{found_after, nothing_found, void_passes, void_place}
use Rattle.sg_open.specs.inside.Telling.{small_of}
use Rattle.sg_open.proofs.Seats.{Sits, no_seat, seat_slot, sits_after}
use Rattle.sg_open.proofs.Standing.{scanners_long}
use Rattle.sg_open.proofs.Tables.{Once, all_fit, good_once, no_scan, scanner_is}
use Rattle.sg_open.proofs.TellingRows.{act_utf8}
use Rattle.sg_open.proofs.VoidSlots.{void_tests}

-- what was found tells of each ballot who scanned it
pub record KnowsScanners (plan : Plan) (dones : List DoneRow) (ballots : List BallotRow) (scanners : List (Option ℤ)) : Type 0 where
  pub long : length scanners ≡ ballots_of plan
  pub at : (ballot : ℕ) → is_ballot plan ballot ≡ true → slice_get scanners (ballot - 1) ≡ Some (doer dones (scan_text (pos ballot) ballots))
  pub none : (number : ℤ) → option_map_or (is_ballot plan) (natural number) false ≡ false → scan_text number ballots ≡ None

row_test : (plan : Plan) (stations : List ℕ → Option ℤ) (dones : List DoneRow) (ballots : List BallotRow) (scanners : List (Option ℤ)) (row : VoidRow) → KnowsScanners plan dones ballots scanners
    → ((text : List ℕ) → is_utf8 text ≡ true → stations text ≡ station_of text dones)
    → is_some (void_place plan.version stations scanners row) ≡ differ (doer dones (scan_text row.ballot ballots)) (doer dones (void_text plan.version row))
row_test plan stations dones ballots scanners row knows first = by_number row.ballot refl
  where
    nobody : (number : ℤ) → option_map_or (is_ballot plan) (natural number) false ≡ false → (other : Option ℤ) → false ≡ differ (doer dones (scan_text number ballots)) other
    nobody number none other = ap (λ (t : Option (List ℕ)). differ (doer dones t) other) (sym (knows.none number none))

    no_other : (a : Option ℤ) → differ a None ≡ false
    no_other None = refl
    no_other (Some z) = refl

    by_known : (n : ℕ) (known : Bool) → is_ballot plan n ≡ known → n < 2 ^ 32
        → ((known && differ (option_and_then (λ s. s) (slice_get scanners (n - 1))) (stations (act_text plan.version (act.Void n)))) ≡ differ (doer dones (scan_text (pos n) ballots)) (station_of (act_text plan.version (act.Void n)) dones))
    by_known n false k low = nobody (pos n) k (station_of (act_text plan.version (act.Void n)) dones)
    by_known n true k low =
        ap (λ (o : Option (Option ℤ)). differ (option_and_then (λ s. s) o) (stations (act_text plan.version (act.Void n)))) (knows.at n k)
        ∙ ap (differ (doer dones (scan_text (pos n) ballots))) (first (act_text plan.version (act.Void n)) (act_utf8 plan.version (act.Void n) (record { numbers = low; codes = tt })))

    by_small : (n : ℕ) (small : Bool) → nat_lt n (2 ^ 32) ≡ small
        → is_some (option_and_then (λ b. cond (void_tests plan.version stations scanners b) (Some (b - 1)) None) (cond small (Some n) None))
        ≡ differ (doer dones (scan_text (pos n) ballots)) (doer dones (cond small (Some (act_text plan.version (act.Void n))) None))
    by_small n false s = sym (no_other (doer dones (scan_text (pos n) ballots)))
    by_small n true s =
        let low : n < 2 ^ 32 = grind (arith, nat_tests, s) in
        is_some-cond (void_tests plan.version stations scanners n) (n - 1)
        ∙ (ap (λ (l : ℕ). (nat_le 1 n && nat_le n l) && differ (option_and_then (λ s. s) (slice_get scanners (n - 1))) (stations (act_text plan.version (act.Void n)))) knows.long
        ∙ by_known n (is_ballot plan n) refl low)

    by_number : (number : ℤ) → row.ballot ≡ number
        → is_some (option_and_then (λ b. cond (void_tests plan.version stations scanners b) (Some (b - 1)) None) (small_of number))
        ≡ differ (doer dones (scan_text number ballots)) (doer dones (option_and_then (λ b. cond (nat_lt b (2 ^ 32)) (Some (act_text plan.version (act.Void b))) None) (natural number)))
    by_number (pos n) b = by_small n (nat_lt n (2 ^ 32)) refl
    by_number (negsuc n) b = nobody (negsuc n) refl None

-- what was found of good rows knows who scanned
pub found_scanners : (plan : Plan) (stations : List ℕ → Option ℤ) (dones : List DoneRow) (rows : List BallotRow) → ((text : List ℕ) → is_utf8 text ≡ true → stations text ≡ station_of text dones)
    → first_bad (ballot_keeps plan (act_in plan.version)) [] rows ≡ None → KnowsScanners plan dones rows (found_after plan stations (nothing_found plan) rows).scanners
found_scanners plan stations dones rows first good =
    let all = all_fit plan rows good in
    let once = good_once plan rows good in
    record {
      long = scanners_long plan stations (nothing_found plan) rows ∙ length-replicate (ballots_of plan) None;
      at = λ ballot known. at_ballot all once ballot known (first_ballot ballot known) (last_ballot ballot known);
      none = λ number outside. no_scan plan number rows all outside;
    }
  where
    first_ballot : (ballot : ℕ) → is_ballot plan ballot ≡ true → 1 ≤ ballot
    first_ballot ballot k = grind (arith, nat_tests, k)

    last_ballot : (ballot : ℕ) → is_ballot plan ballot ≡ true → ballot ≤ ballots_of plan
    last_ballot ballot k = grind (arith, nat_tests, k)

    at_ballot : list_all (row_fits plan (act_in plan.version)) rows ≡ true → Once rows → (ballot : ℕ) → is_ballot plan ballot ≡ true → 1 ≤ ballot → ballot ≤ ballots_of plan
        → slice_get (found_after plan stations (nothing_found plan) rows).scanners (ballot - 1) ≡ Some (doer dones (scan_text (pos ballot) rows))
    at_ballot all once ballot known some within =
        let start : Sits (nothing_found plan) ballot no_seat = record {
          slot = slice_get-replicate (ballots_of plan) (ballot - 1) (seat_slot no_seat) (omega (arith, some, within));
          scanner = slice_get-replicate (ballots_of plan) (ballot - 1) None (omega (arith, some, within));
        } in
        (sits_after plan stations (nothing_found plan) ballot no_seat rows some start).scanner ∙ ap (λ o. Some o) (scanner_is plan stations dones ballot rows first all once)

-- the voids of rows are judged as their tests say
pub void_bad : (plan : Plan) (stations : List ℕ → Option ℤ) (rows : Rows) (scanners : List (Option ℤ)) → KnowsScanners plan rows.dones rows.ballots scanners
    → ((text : List ℕ) → is_utf8 text ≡ true → stations text ≡ station_of text rows.dones)
    → first_bad (void_passes plan.version stations scanners) [] rows.voids ≡ first_bad (void_keeps plan.version rows) [] rows.voids
void_bad plan stations rows scanners knows first =
    same_bad (void_passes plan.version stations scanners) (void_keeps plan.version rows) [] rows.voids
    (λ front row. ap (λ b. climbs void_before front row && b) (row_test plan stations rows.dones rows.ballots scanners row knows first))
