-- What is kept of valid rows stands for the history that they are of.
use Rattle.std.proofs.Common.{◌≡◌, ℕ, ◌+◌, ◌-◌, ◌<◌, ◌≤◌, ◌^◌, nat_lt, Bool, true, false, cond, List, [], ◌∷◌, length, slice_get, bytes_eq, Option, Some, None, refl, ap, sym, ◌∙◌, arith, subst}
use Rattle.std.specs.Prelude.{ℤ, pos}
use Rattle.std.specs.List.{filter_map, list_all, list_any}
use Rattle.std.specs.Option.{option_and_then, option_map, option_map_or, unwrap_or}
use Rattle.std.specs.Ordering.{int_eq}
use Rattle.std.specs.Str.{is_utf8}
use Rattle.std.proofs.lemmas.Bool.{and_parts}
use Rattle.std.proofs.lemmas.Bool.Decides.{nat_tests}
use Rattle.std.proofs.lemmas.List.{length-replicate, length-set}
use Rattle.std.proofs.lemmas.Option.{same_Some}
use Rattle.sg_lists.proofs.Lists.{slice_get-replicate}
use Rattle.sg_plan.specs.Ballots.{ballots_of}
use Rattle.sg_plan.specs.declared.plan.Draw.{Draw}
use Rattle.sg_plan.specs.declared.plan.Fate.{Fate}
use Rattle.sg_plan.specs.declared.plan.Fate.TheVariants as fate
use Rattle.sg_plan.specs.declared.plan.Mark.{Mark}
use Rattle.sg_plan.specs.declared.plan.Plan.{Plan}
use Rattle.sg_plan.specs.declared.plan.Stage.{Stage}
use Rattle.sg_plan.specs.declared.plan.Stage.TheVariants as stage
use Rattle.sg_desks.specs.ActReading.{act_in}
use Rattle.sg_desks.specs.ActTexts.{act_text, draw_word}
use Rattle.sg_desks.proofs.ActsFound.{acts_are_spelled}
use Rattle.sg_keeper.specs.Rows.{done_before, put}
use Rattle.sg_keeper.specs.SetupText.{IsSetup}
use Rattle.sg_acts.specs.declared.asks.Act.{Act}
use Rattle.sg_acts.specs.declared.asks.Act.TheVariants as act
use Rattle.sg_keeper.specs.declared.rows.BallotRow.{BallotRow}
use Rattle.sg_keeper.specs.declared.rows.DoneRow.{DoneRow}
use Rattle.sg_keeper.specs.declared.rows.VoidRow.{VoidRow}
use Rattle.sg_keeper.specs.declared.rows.Rows.{Rows}
use Rattle.sg_keeper.specs.declared.setup.Setup.{Setup}
use Rattle.sg_histories.specs.Answers.{is_ballot}
use Rattle.sg_histories.specs.Histories.{Entry, claims_of, fate_of, scanner_of, stage_of}
use Rattle.sg_histories.specs.KeptRows.{done_row, rows_of}
use Rattle.sg_histories.specs.Lawful.{IsAskable, Lawful}
use Rattle.sg_histories.specs.Reading.{ReadsActs}
use Rattle.sg_histories.specs.Standing.{HasRows, IsOffice, StandsFor, TellSlots}
use Rattle.sg_histories.specs.ValidRows.{damage_of, fits, is_stamp, natural, station_of}
use Rattle.sg_histories.specs.declared.kept.Claim.{Claim}
use Rattle.sg_histories.specs.declared.kept.Kept.{Kept}
use Rattle.sg_histories.specs.declared.kept.Slot.{Slot}
use Rattle.sg_histories.specs.inside.RowReading.{HasRaces, SmallBallots}
use Rattle.sg_histories.proofs.BackAll.{rows_stand}
use Rattle.sg_histories.proofs.Out.{drawn_fits}
use Rattle.sg_histories.proofs.OutDones.{claim_row, claim_rows, claims_fit, claims_out, dones_out}
use Rattle.sg_histories.proofs.OutRows.{stage_rows, stages_out}
use Rattle.sg_histories.proofs.OutVoids.{Tell, scan_of, tells_out}
use Rattle.sg_histories.proofs.PlanRaces.{has_races, small_ballots}
use Rattle.sg_histories.proofs.ReadingActs.{act_in_reads_acts}
use Rattle.sg_histories.proofs.RowTexts.{reads_rows}
use Rattle.sg_open.specs.Opened.{StandsForEach}
use Rattle.sg_open.specs.declared.ballots.BallotTold.{BallotTold}
use Rattle.sg_open.specs.declared.ballots.Found.{Found}
use Rattle.sg_open.specs.inside.Finding.{KeepsRows, found_after, found_row, nothing_found, scanner_by, stage_told, station_at, station_word, void_place, void_slot, voided_after}
use Rattle.sg_open.specs.inside.Telling.{act_draw, ballot_told, draw_line, row_claim, text_drawn}
use Rattle.sg_open.proofs.Seats.{Seat, Sits, no_seat, one_after, seat_slot, sits_after}
use Rattle.sg_open.proofs.SeatsOut.{Seats, seats_out}
use Rattle.sg_open.proofs.TellingRows.{act_utf8}
use Rattle.sg_open.proofs.VoidSlots.{all_void, voided_at, voided_slot}

-- LENGTHS

pub found_long : (plan : Plan) (stations : List ℕ → Option ℤ) (found : Found) (rows : List BallotRow) → length (found_after plan stations found rows).slots ≡ length found.slots
found_long plan stations found [] = refl
found_long plan stations found (row ∷ rows) = found_long plan stations (found_row stations found (ballot_told plan row)) rows ∙ by_told (ballot_told plan row)
  where
    by_told : (told : Option BallotTold) → length (found_row stations found told).slots ≡ length found.slots
    by_told None = refl
    by_told (Some told) = length-set found.slots (told.ballot - 1) (record { fate = told.fate; station = station_word (scanner_by stations told.text told.fate) })

pub scanners_long : (plan : Plan) (stations : List ℕ → Option ℤ) (found : Found) (rows : List BallotRow) → length (found_after plan stations found rows).scanners ≡ length found.scanners
scanners_long plan stations found [] = refl
scanners_long plan stations found (row ∷ rows) = scanners_long plan stations (found_row stations found (ballot_told plan row)) rows ∙ by_told (ballot_told plan row)
  where
    by_told : (told : Option BallotTold) → length (found_row stations found told).scanners ≡ length found.scanners
    by_told None = refl
    by_told (Some told) = length-set found.scanners (told.ballot - 1) (scanner_by stations told.text told.fate)

voided_long : (version : ℕ) (stations : List ℕ → Option ℤ) (scanners : List (Option ℤ)) (slots : List Slot) (rows : List VoidRow) → length (voided_after version stations scanners slots rows) ≡ length slots
voided_long version stations scanners slots [] = refl
voided_long version stations scanners slots (row ∷ rows) = voided_long version stations scanners (void_slot slots (void_place version stations scanners row)) rows ∙ by_place (void_place version stations scanners row)
  where
    by_place : (place : Option ℕ) → length (void_slot slots place) ≡ length slots
    by_place None = refl
    by_place (Some place) = length-set slots place (record { fate = fate.Voided; station = station_at slots place })

-- STATIONS

-- a station that did an act is one of the setup's
stamped : (stations : ℕ) (text : List ℕ) (dones : List DoneRow) (station : ℕ) → list_all (is_stamp stations) dones ≡ true → station_of text dones ≡ Some (pos station) → station < stations
stamped stations text [] station all e = cc
stamped stations text (row ∷ dones) station all e =
    let parts = and_parts (is_stamp stations row) (list_all (is_stamp stations) dones) all in
    by_test (bytes_eq row.act text) parts.0 e (stamped stations text dones station parts.1)
  where
    same : (a b : ℤ) → Some a ≡ Some b → a ≡ b
    same a b k = cc

    by_test : (t : Bool) → is_stamp stations row ≡ true → cond t (Some row.station) (station_of text dones) ≡ Some (pos station) → (station_of text dones ≡ Some (pos station) → station < stations) → station < stations
    by_test false stamp k ih = ih k
    by_test true stamp k ih =
        let is : row.station ≡ pos station = same row.station (pos station) k in
        let low : option_map_or (λ n. nat_lt n stations) (natural row.station) false ≡ true = (and_parts (option_map_or (λ n. nat_lt n stations) (natural row.station) false) (option_map_or (λ n. nat_lt n (2 ^ 32)) (natural row.number) false) stamp).0 in
        let lower : nat_lt station stations ≡ true = sym (ap (λ (z : ℤ). option_map_or (λ n. nat_lt n stations) (natural z) false) is) ∙ low in
        grind (arith, nat_tests, lower)

station_is : (station : ℕ) → station < 2 ^ 32 → station_word (Some (pos station)) ≡ station
station_is station low = let t : nat_lt station (2 ^ 32) ≡ true = grind (arith, nat_tests, low) in ap (λ b. unwrap_or (cond b (Some station) None) 0) t

-- SLOTS

-- a slot, where its ballot was voided or not
abbrev pub last_slot : Seat → Bool → Slot
last_slot seat void = cond void (voided_slot (seat_slot seat)) (seat_slot seat)

last_same : (a b : Seat) (v w : Bool) → a ≡ b → v ≡ w → last_slot a v ≡ last_slot b w
last_same a b v w p q = ap (λ (s : Seat). last_slot s v) p ∙ ap (last_slot b) q

-- the scan's station, as the slot has it
scan_station : (setup : Setup) (text : List ℕ) (history : List Entry) (stations : List ℕ → Option ℤ) (ballot scanner : ℕ) (marks : List Mark) → ReadsActs setup (act_in setup.plan.version) → Lawful setup history
    → length setup.secrets ≤ 32
    → ((words : List ℕ) → is_utf8 words ≡ true → stations words ≡ station_of words (rows_of setup text history).dones)
    → IsAskable setup (act.Scan ballot marks) → fits setup.plan (act.Scan ballot marks) ≡ true
    → station_of (scan_of setup ballot marks) (rows_of setup text history).dones ≡ Some (pos scanner)
    → station_word (stations (scan_of setup ballot marks)) ≡ scanner
scan_station setup text history stations ballot scanner marks reads lawful few first askable f doer =
    let utf8 : is_utf8 (scan_of setup ballot marks) ≡ true = act_utf8 setup.plan.version (act.Scan ballot marks) (acts_are_spelled setup.plan.version (scan_of setup ballot marks) (act.Scan ballot marks) (reads.found (act.Scan ballot marks) askable f)).0 in
    let low : scanner < length setup.secrets = stamped (length setup.secrets) (scan_of setup ballot marks) (rows_of setup text history).dones scanner (dones_out setup text history lawful).stamps doer in
    ap station_word (first (scan_of setup ballot marks) utf8 ∙ doer) ∙ station_is scanner (omega (arith, low, few))

slot_last : (setup : Setup) (text : List ℕ) (history : List Entry) (stations : List ℕ → Option ℤ) (ballot scanner : ℕ) (told : Fate) → ReadsActs setup (act_in setup.plan.version) → Lawful setup history
    → length setup.secrets ≤ 32
    → ((words : List ℕ) → is_utf8 words ≡ true → stations words ≡ station_of words (rows_of setup text history).dones)
    → Seats setup stations (rows_of setup text history).ballots (rows_of setup text history).voids ballot scanner told
    → Tell setup (rows_of setup text history).ballots (rows_of setup text history).dones ballot scanner told
    → last_slot (one_after setup.plan stations ballot no_seat (rows_of setup text history).ballots) (list_any (λ (kept : VoidRow). int_eq kept.ballot (pos ballot)) (rows_of setup text history).voids) ≡ record { fate = told; station = scanner }
slot_last setup text history stations ballot scanner fate.Unused reads lawful few first seats tell =
    last_same _ _ _ _ seats.0.seat_is seats.0.void_is ∙ ap (λ (n : ℕ). record { fate = fate.Unused; station = n }) (sym seats.1)
slot_last setup text history stations ballot scanner (fate.Cast marks) reads lawful few first seats tell =
    last_same _ _ _ _ seats.seat_is seats.void_is
    ∙ ap (λ (n : ℕ). record { fate = fate.Cast marks; station = n }) (scan_station setup text history stations ballot scanner marks reads lawful few first tell.1.act_is tell.1.fit tell.1.doer)
slot_last setup text history stations ballot scanner fate.Spoiled reads lawful few first seats tell =
    last_same _ _ _ _ seats.0.seat_is seats.0.void_is ∙ ap (λ (n : ℕ). record { fate = fate.Spoiled; station = n }) (sym seats.1)
slot_last setup text history stations ballot scanner (fate.Audited paper) reads lawful few first seats tell =
    last_same _ _ _ _ seats.0.seat_is seats.0.void_is ∙ ap (λ (n : ℕ). record { fate = fate.Audited paper; station = n }) (sym seats.1)
slot_last setup text history stations ballot scanner fate.Voided reads lawful few first seats tell =
    last_same _ _ _ _ seats.sat.seat_is seats.sat.void_is
    ∙ ap (λ (n : ℕ). record { fate = fate.Voided; station = n }) by_scan
  where
    by_scan : station_word (stations (scan_of setup ballot seats.marks)) ≡ scanner
    by_scan =
        ap (λ (t : List ℕ). station_word (stations t)) (same_Some (scan_of setup ballot seats.marks) (scan_of setup ballot tell.marks) (sym seats.text ∙ tell.scanned.told))
        ∙ scan_station setup text history stations ballot scanner tell.marks reads lawful few first tell.scanned.act_is tell.scanned.fit tell.scanned.doer

-- STAGE AND CLAIMS

draw_said : (version : ℕ) (drawn : Draw) → draw_line (draw_word drawn) ≡ act_text version (act.Draw drawn)
unfolding act_text
draw_said version drawn = refl

stage_stands : (setup : Setup) (now : Stage) → ReadsActs setup (act_in setup.plan.version)
    → ((drawn : Draw) → now ≡ stage.Drawn drawn → IsAskable setup (act.Draw drawn) × (fits setup.plan (act.Draw drawn) ≡ true))
    → stage_told setup.plan.version (stage_rows now) ≡ now
stage_stands setup stage.Voting reads drawn_is = refl
stage_stands setup stage.Closed reads drawn_is = refl
stage_stands setup (stage.Drawn drawn) reads drawn_is =
    let d = drawn_is drawn refl in
    let read : act_in setup.plan.version (draw_line (draw_word drawn)) ≡ Some (act.Draw drawn) = ap (act_in setup.plan.version) (draw_said setup.plan.version drawn) ∙ reads.found (act.Draw drawn) d.0 d.1 in
    let made : act_draw (act.Draw drawn) ≡ Some drawn = ap (λ b. cond b (Some drawn) None) d.1 in
    let told : text_drawn setup.plan.version (draw_line (draw_word drawn)) ≡ Some (record { text = draw_line (draw_word drawn); drawn = drawn })
    = ap (λ (o : Option Act). option_map (λ (x : Draw). record { text = draw_line (draw_word drawn); drawn = x }) (option_and_then act_draw o)) read
    ∙ ap (option_map (λ (x : Draw). record { text = draw_line (draw_word drawn); drawn = x })) made in
    ap (λ o. option_map_or (λ t. stage.Drawn t.drawn) o stage.Closed) told

claims_stand : (plan : Plan) (before : ℕ) (claims : List Claim) → list_all (λ (claim : Claim). fits plan (act.Claim claim.ballot claim.race claim.code)) claims ≡ true
    → filter_map (row_claim plan) (claim_rows before claims) ≡ claims
claims_stand plan before [] all = refl
claims_stand plan before (claim ∷ claims) all =
    let parts = and_parts (fits plan (act.Claim claim.ballot claim.race claim.code)) (list_all (λ (claim : Claim). fits plan (act.Claim claim.ballot claim.race claim.code)) claims) all in
    let here : row_claim plan (claim_row before claim) ≡ Some claim = ap (λ b. cond b (Some claim) None) parts.0 in
    rw here (ap (λ l. claim ∷ l) (claims_stand plan (before + 1) claims parts.1))

dones_same : (setup : Setup) (text other : List ℕ) (history : List Entry) → (rows_of setup text history).dones ≡ (rows_of setup other history).dones
dones_same setup text other [] = refl
dones_same setup text other (entry ∷ history) = ap (put done_before (done_row setup.plan.version entry)) (dones_same setup text other history)

-- THE WHOLE

ballot_is : (plan : Plan) (place : ℕ) → place < ballots_of plan → is_ballot plan (place + 1) ≡ true
ballot_is plan place low = grind (arith, nat_tests, low)

slots_stand : (kept : Kept) (text : List ℕ) (history : List Entry) → ReadsActs kept.setup (act_in kept.setup.plan.version) → HasRaces kept.setup.plan → length kept.setup.secrets ≤ 32 → Lawful kept.setup history
    → KeepsRows kept (rows_of kept.setup text history) → TellSlots kept.setup kept.slots history
slots_stand kept text history reads races few lawful keeps = λ place low.
    let plan : Plan = kept.setup.plan in
    let rows : Rows = rows_of kept.setup text history in
    let ballot : ℕ = place + 1 in
    let known : is_ballot plan ballot ≡ true = ballot_is plan place low in
    let first : 1 ≤ ballot = omega arith in
    let at : ballot - 1 ≡ place = omega arith in
    let start : Sits (nothing_found plan) ballot no_seat = record {
      slot = slice_get-replicate (ballots_of plan) (ballot - 1) (seat_slot no_seat) (omega (arith, at, low));
      scanner = slice_get-replicate (ballots_of plan) (ballot - 1) None (omega (arith, at, low));
    } in
    let sits = sits_after plan keeps.stations (nothing_found plan) ballot no_seat rows.ballots first start in
    let last = voided_at plan.version keeps.stations (found_after plan keeps.stations (nothing_found plan) rows.ballots).scanners (found_after plan keeps.stations (nothing_found plan) rows.ballots).slots rows.voids ballot
    (seat_slot (one_after plan keeps.stations ballot no_seat rows.ballots)) first
    (all_void plan.version keeps.stations (found_after plan keeps.stations (nothing_found plan) rows.ballots).scanners rows.voids keeps.voids) sits.slot in
    let is = slot_last kept.setup text history keeps.stations ballot (scanner_of history ballot) (fate_of history ballot) reads lawful few keeps.first
    (seats_out kept.setup keeps.stations text history reads races lawful ballot known) (tells_out kept.setup (act_in plan.version) text history reads lawful ballot known) in
    ap (λ (s : List Slot). slice_get s place) keeps.slots ∙ (ap (slice_get (voided_after plan.version keeps.stations (found_after plan keeps.stations (nothing_found plan) rows.ballots).scanners (found_after plan keeps.stations (nothing_found plan) rows.ballots).slots rows.voids)) (sym at)
    ∙ (last ∙ ap (λ (s : Slot). Some s) is))

history_stands : (kept : Kept) (text : List ℕ) (history : List Entry) → ReadsActs kept.setup (act_in kept.setup.plan.version) → HasRaces kept.setup.plan → length kept.setup.secrets ≤ 32 → Lawful kept.setup history
    → KeepsRows kept (rows_of kept.setup text history) → StandsFor kept history
history_stands kept text history reads races few lawful keeps = record {
  lawful = lawful;
  slots = slots_stand kept text history reads races few lawful keeps;
  stage = keeps.stage ∙ (ap (stage_told kept.setup.plan.version) (stages_out kept.setup text history lawful) ∙ stage_stands kept.setup (stage_of history) reads (λ d e. drawn_fits kept.setup history d lawful e));
  claims = keeps.claims ∙ (ap (filter_map (row_claim kept.setup.plan)) (claims_out kept.setup text history) ∙ claims_stand kept.setup.plan 0 (claims_of history) (claims_fit kept.setup history lawful).fit);
  dones = λ other. keeps.dones ∙ dones_same kept.setup text other history;
}

slots_long : (kept : Kept) (rows : Rows) → KeepsRows kept rows → length kept.slots ≡ ballots_of kept.setup.plan
slots_long kept rows keeps =
    ap length keeps.slots
    ∙ (voided_long kept.setup.plan.version keeps.stations _ _ rows.voids
    ∙ (found_long kept.setup.plan keeps.stations (nothing_found kept.setup.plan) rows.ballots
    ∙ length-replicate (ballots_of kept.setup.plan) (record { fate = fate.Unused; station = 0 })))

pub rows_open : (kept : Kept) (rows : Rows) (text : List ℕ) → IsSetup kept.setup → rows.setup ≡ Some text → damage_of kept.setup (act_in kept.setup.plan.version) rows ≡ None → KeepsRows kept rows
    → HasRows kept rows × IsOffice kept
rows_open kept rows text setup_is given none keeps =
    let reads = act_in_reads_acts kept.setup setup_is.plan in
    let small : SmallBallots kept.setup.plan = small_ballots kept.setup.plan setup_is.plan in
    let found = rows_stand kept.setup (act_in kept.setup.plan.version) reads (reads_rows kept.setup (act_in kept.setup.plan.version) reads small) text rows given none in
    let stands : StandsFor kept found.0 = history_stands kept text found.0 reads (has_races kept.setup.plan setup_is.plan) setup_is.few found.1
    (subst (λ (r : Rows). KeepsRows kept r) found.2 keeps) in (
      record { text = text; history = found.0; stands = stands; rows_are = found.2 },
      record { limits = setup_is.plan; slots = slots_long kept rows keeps; few_stations = setup_is.few; history = found.0; stands = stands },
    )

-- and so for each history that the rows are of
pub each_stands : (kept : Kept) (rows : Rows) → IsSetup kept.setup → KeepsRows kept rows → StandsForEach kept rows
each_stands kept rows setup_is keeps = λ text history lawful are.
    history_stands kept text history (act_in_reads_acts kept.setup setup_is.plan) (has_races kept.setup.plan setup_is.plan) setup_is.few lawful
    (subst (λ (r : Rows). KeepsRows kept r) are keeps)
