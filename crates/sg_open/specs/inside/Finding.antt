-- What is found row by row.
use Rattle.std.specs.Prelude.{◌≡◌, ℕ, ◌-◌, nat_le, ℤ, if◌then◌else◌, Bool, true, ◌&&◌, List, [], ◌∷◌, ◌++◌, length, map, replicate, slice_get, slice_set, Option, Some, None, is_some}
use Rattle.std.specs.List.{filter_map, list_all}
use Rattle.std.specs.Str.{is_utf8}
use Rattle.sg_plan.specs.Ballots.{ballots_of}
use Rattle.sg_plan.specs.Limits.{first_bad}
use Rattle.sg_plan.specs.declared.plan.Stage.{Stage}
use Rattle.sg_plan.specs.declared.plan.Stage.TheVariants as stage
use Rattle.sg_keeper.specs.Rows.{void_before}
use Rattle.sg_keeper.specs.declared.rows.Rows.{Rows}
use Rattle.sg_keeper.specs.declared.setup.Setup.{Setup}
use Rattle.sg_keeper.specs.declared.rows.StageRow.{StageRow}
use Rattle.sg_histories.specs.declared.kept.Kept.{Kept}
use Rattle.std.specs.Option.{option_and_then, option_map_or, unwrap_or}
use Rattle.sg_plan.specs.declared.plan.Fate.{Fate}
use Rattle.sg_plan.specs.declared.plan.Fate.TheVariants as fate
use Rattle.sg_plan.specs.declared.plan.Plan.{Plan}
use Rattle.sg_desks.specs.ActReading.{act_in}
use Rattle.sg_desks.specs.ActTexts.{act_text}
use Rattle.sg_acts.specs.declared.asks.Act.TheVariants as act
use Rattle.sg_keeper.specs.declared.rows.BallotRow.{BallotRow}
use Rattle.sg_keeper.specs.declared.rows.VoidRow.{VoidRow}
use Rattle.sg_histories.specs.ValidRows.{ballot_keeps, claim_keeps, claim_text, climbs, damage_of, differ, is_drawn_in, stage_keeps, stage_text, station_of, void_text}
use Rattle.sg_histories.specs.declared.kept.Slot.{Slot}
use Rattle.sg_open.specs.declared.ballots.BallotTold.{BallotTold}
use Rattle.sg_open.specs.declared.ballots.Found.{Found}
use Rattle.sg_open.specs.declared.fault.OpenFault.{OpenFault}
use Rattle.sg_open.specs.declared.fault.OpenFault.TheVariants as fault
use Rattle.sg_open.specs.declared.opening.Told.{Told}
use Rattle.sg_open.specs.inside.Telling.{ballot_told, draw_told, row_claim, small_of}

-- FAULTS

-- the refusal names this bad table and row; want of memory says nothing of them
abbrev pub IsDamage : OpenFault → Option (ℕ × ℕ) → Type 0
IsDamage fault.Empty damage = ⊥
IsDamage (fault.Damaged table row) damage = damage ≡ Some (table, row)
IsDamage fault.NoMemory damage = Unit {0}

-- BALLOTS. `stations` tells which station did a text.

-- the station that did the scan, where the ballot was scanned
abbrev pub scanner_by : (List ℕ → Option ℤ) → List ℕ → Fate → Option ℤ
scanner_by stations text fate.Unused = None
scanner_by stations text (fate.Cast marks) = stations text
scanner_by stations text fate.Spoiled = None
scanner_by stations text (fate.Audited paper) = None
scanner_by stations text fate.Voided = None

-- the station as a slot has it
abbrev pub station_word : Option ℤ → ℕ
station_word station = unwrap_or (option_and_then small_of station) 0

-- what is found, with what one more row tells
abbrev pub found_with : Found → BallotTold → Option ℤ → Found
found_with found told scanner = record {
  told = found.told ++ told.text ∷ [];
  slots = slice_set found.slots (told.ballot - 1) (record { fate = told.fate; station = station_word scanner });
  scanners = slice_set found.scanners (told.ballot - 1) scanner;
}

abbrev pub found_row : (List ℕ → Option ℤ) → Found → Option BallotTold → Found
found_row stations found None = found
found_row stations found (Some told) = found_with found told (scanner_by stations told.text told.fate)

-- what is found behind these rows
abbrev pub found_after : Plan → (List ℕ → Option ℤ) → Found → List BallotRow → Found
found_after plan stations found [] = found
found_after plan stations found (row ∷ rows) = found_after plan stations (found_row stations found (ballot_told plan row)) rows

-- VOIDS

-- the place of the ballot that a row voids: where another station did the void than the scan
abbrev pub void_place : ℕ → (List ℕ → Option ℤ) → List (Option ℤ) → VoidRow → Option ℕ
void_place version stations scanners row =
    option_and_then (λ ballot. if (nat_le 1 ballot && nat_le ballot (length scanners)) && differ (option_and_then (λ s. s) (slice_get scanners (ballot - 1))) (stations (act_text version (act.Void ballot))) then Some (ballot - 1) else None)
    (small_of row.ballot)

-- the row is behind the earlier ones, and voids a ballot
abbrev pub void_passes : ℕ → (List ℕ → Option ℤ) → List (Option ℤ) → List VoidRow → VoidRow → Bool
void_passes version stations scanners earlier row = climbs void_before earlier row && is_some (void_place version stations scanners row)

-- the station in the slot
abbrev pub station_at : List Slot → ℕ → ℕ
station_at slots place = option_map_or (λ slot. slot.station) (slice_get slots place) 0

abbrev pub void_slot : List Slot → Option ℕ → List Slot
void_slot slots None = slots
void_slot slots (Some place) = slice_set slots place (record { fate = fate.Voided; station = station_at slots place })

-- the slots behind these rows
abbrev pub voided_after : ℕ → (List ℕ → Option ℤ) → List (Option ℤ) → List Slot → List VoidRow → List Slot
voided_after version stations scanners slots [] = slots
voided_after version stations scanners slots (row ∷ rows) = voided_after version stations scanners (void_slot slots (void_place version stations scanners row)) rows

-- STAGES

-- how far the election of these rows is
abbrev pub stage_told : ℕ → List StageRow → Stage
stage_told version [] = stage.Voting
stage_told version (row ∷ []) = stage.Closed
stage_told version (row ∷ second ∷ rows) = option_map_or (λ told. stage.Drawn told.drawn) (draw_told version second) stage.Closed

-- THE WHOLE

-- nothing of so many ballots
abbrev pub nothing_of : ℕ → Found
nothing_of ballots = record { told = []; slots = replicate ballots (record { fate = fate.Unused; station = 0 }); scanners = replicate ballots None }

-- nothing of the ballots of a plan
abbrev pub nothing_found : Plan → Found
nothing_found plan = nothing_of (ballots_of plan)

-- the rows of ballots, stages and claims are good, and this is what they and the voids tell
pub record IsRead (setup : Setup) (rows : Rows) (stations : List ℕ → Option ℤ) (found : Found) : Type 0 where
  pub ballots : first_bad (ballot_keeps setup.plan (act_in setup.plan.version)) [] rows.ballots ≡ None
  pub stages : first_bad (stage_keeps setup.plan (act_in setup.plan.version)) [] rows.stages ≡ None
  pub claims : first_bad (claim_keeps setup.plan (is_drawn_in rows)) [] rows.claims ≡ None
  pub slots : found.slots ≡ (found_after setup.plan stations (nothing_found setup.plan) rows.ballots).slots
  pub scanners : found.scanners ≡ (found_after setup.plan stations (nothing_found setup.plan) rows.ballots).scanners
  pub told : found.told ≡ (((found_after setup.plan stations (nothing_found setup.plan) rows.ballots).told ++ map stage_text rows.stages) ++ filter_map (claim_text setup.plan.version) rows.claims) ++ filter_map (void_text setup.plan.version) rows.voids
  pub utf8 : list_all is_utf8 found.told ≡ true

-- no row is bad, and these are the slots behind the voids
pub record IsJudged (setup : Setup) (rows : Rows) (stations : List ℕ → Option ℤ) (kept : List Slot) : Type 0 where
  pub none : damage_of setup (act_in setup.plan.version) rows ≡ None
  pub voids : first_bad (void_passes setup.plan.version stations (found_after setup.plan stations (nothing_found setup.plan) rows.ballots).scanners) [] rows.voids ≡ None
  pub slots : kept ≡ voided_after setup.plan.version stations (found_after setup.plan stations (nothing_found setup.plan) rows.ballots).scanners (found_after setup.plan stations (nothing_found setup.plan) rows.ballots).slots rows.voids

-- what is kept with this setup, of what the rows tell
abbrev pub kept_of : Setup → Told → Kept
kept_of setup told = record { setup = setup; slots = told.slots; stage = told.course.stage; claims = told.course.claims; dones = told.dones }

-- what is kept is what these rows tell
pub record KeepsRows (kept : Kept) (rows : Rows) : Type 0 where
  pub stations : List ℕ → Option ℤ
  pub first : (text : List ℕ) → is_utf8 text ≡ true → stations text ≡ station_of text rows.dones
  pub slots : kept.slots ≡ voided_after kept.setup.plan.version stations (found_after kept.setup.plan stations (nothing_found kept.setup.plan) rows.ballots).scanners (found_after kept.setup.plan stations (nothing_found kept.setup.plan) rows.ballots).slots rows.voids
  pub voids : first_bad (void_passes kept.setup.plan.version stations (found_after kept.setup.plan stations (nothing_found kept.setup.plan) rows.ballots).scanners) [] rows.voids ≡ None
  pub stage : kept.stage ≡ stage_told kept.setup.plan.version rows.stages
  pub claims : kept.claims ≡ filter_map (row_claim kept.setup.plan) rows.claims
  pub dones : kept.dones ≡ rows.dones
