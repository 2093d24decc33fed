-- Which kept rows are valid, and which table and row of others is named (this project's rules for the office).
-- Tables are numbered 1 setup, 2 ballots, 3 stages, 4 claims, 5 done, 6 voids. Each test of a row takes the rows
-- of its table before it. `read` reads the text of an act.
use Rattle.std.specs.List.{filter_map, join_with_byte, list_all}
use Rattle.std.specs.Option.{option_and_then, option_map, option_map_or}
use Rattle.std.specs.Ordering.{int_eq}
use Rattle.std.specs.Prelude.{ℕ, ◌+◌, ◌==◌, ◌^◌, nat_lt, nat_le, ℤ, pos, negsuc, if◌then◌else◌, Bool, true, false, ◌&&◌, not, List, [], ◌∷◌, ◌++◌, length, map, count_by, bytes_eq, codes, Option, Some, None, is_none}
use Rattle.sg_plan.specs.Ballots.{ballot_has}
use Rattle.sg_plan.specs.Codes.{codes_of}
use Rattle.sg_plan.specs.Limits.{first_bad, first_of, most_claims}
use Rattle.sg_plan.specs.declared.plan.Plan.{Plan}
use Rattle.sg_lines.specs.Words.{decimal}
use Rattle.sg_keeper.specs.Rows.{ballot_before, done_before, void_before}
use Rattle.sg_acts.specs.declared.asks.Act.{Act}
use Rattle.sg_acts.specs.declared.asks.Act.TheVariants as act
use Rattle.sg_acts.specs.declared.replies.FateWord.TheVariants as word
use Rattle.sg_acts.specs.declared.replies.Phase.TheVariants as phase
use Rattle.sg_keeper.specs.declared.rows.BallotRow.{BallotRow}
use Rattle.sg_keeper.specs.declared.rows.ClaimRow.{ClaimRow}
use Rattle.sg_keeper.specs.declared.rows.DoneRow.{DoneRow}
use Rattle.sg_keeper.specs.declared.rows.Rows.{Rows}
use Rattle.sg_keeper.specs.declared.rows.StageRow.{StageRow}
use Rattle.sg_keeper.specs.declared.rows.VoidRow.{VoidRow}
use Rattle.sg_keeper.specs.declared.setup.Setup.{Setup}
use Rattle.sg_desks.specs.ActTexts.{act_text}
use Rattle.sg_histories.specs.Answers.{audit_refusal, early_refusal, is_ballot, scan_refusal}
use Rattle.sg_record.specs.Formed.{is_draw}

-- a number from 0 on
abbrev pub natural : ℤ → Option ℕ
natural (pos n) = Some n
natural (negsuc n) = None

-- the row's key is greater than that of the last of these
abbrev pub climbs : {A : Type 0} → (A → A → Bool) → List A → A → Bool
climbs before [] row = true
climbs before (x ∷ []) row = before x row
climbs before (x ∷ y ∷ earlier) row = climbs before (y ∷ earlier) row

-- WHAT ROWS TELL

-- the text of the act that a ballot's row tells
abbrev pub ballot_words : ℤ → ℕ → List ℕ → Option (List (List ℕ))
ballot_words fate ballot detail =
    (if int_eq fate (pos 1) then Some (codes "scan" ∷ decimal ballot ∷ (if length detail == 0 then [] else detail ∷ []))
    else (if int_eq fate (pos 2) then (if length detail == 0 then Some (codes "spoil" ∷ decimal ballot ∷ []) else None)
    else (if int_eq fate (pos 3) then Some (codes "audit" ∷ decimal ballot ∷ detail ∷ [])
    else None)))

abbrev pub ballot_text : BallotRow → Option (List ℕ)
ballot_text row = option_and_then (λ ballot. option_map (join_with_byte 32) (ballot_words row.fate ballot row.detail)) (natural row.ballot)

-- of a stage's row
abbrev pub stage_text : StageRow → List ℕ
stage_text row = (if int_eq row.step (pos 1) then codes "close" else join_with_byte 32 (codes "draw" ∷ row.detail ∷ []))

-- the act that a claim's row tells
abbrev pub claim_act : ClaimRow → Option Act
claim_act row = option_and_then (λ ballot. option_and_then (λ race. option_map (act.Claim ballot race) (natural row.code)) (natural row.race)) (natural row.ballot)

abbrev pub claim_text : ℕ → ClaimRow → Option (List ℕ)
claim_text version row = option_map (act_text version) (claim_act row)

-- of a void's row: a number that no ballot can have tells nothing
abbrev pub void_text : ℕ → VoidRow → Option (List ℕ)
void_text version row = option_and_then (λ ballot. if nat_lt ballot (2 ^ 32) then Some (act_text version (act.Void ballot)) else None) (natural row.ballot)

-- the texts of all acts that the tables tell
unfoldable pub told_by : ℕ → Rows → List (List ℕ)
told_by version rows =
    filter_map (claim_text version) rows.claims
    ++ (map stage_text rows.stages ++ (filter_map (void_text version) rows.voids ++ filter_map ballot_text rows.ballots))

-- BALLOTS, STAGES AND CLAIMS

-- the act would be accepted in its phase, of a ballot without a fate
abbrev pub fits : Plan → Act → Bool
fits plan (act.Scan ballot marks) = is_none (scan_refusal plan phase.Voting word.Unused ballot marks)
fits plan (act.Spoil ballot) = is_none (early_refusal plan phase.Voting word.Unused ballot)
fits plan (act.Audit ballot paper) = is_none (audit_refusal plan phase.Voting word.Unused ballot paper)
fits plan act.Close = true
fits plan (act.Draw drawn) = is_draw drawn
fits plan (act.Claim ballot race code) = is_ballot plan ballot && (ballot_has plan ballot race && nat_lt code (codes_of plan.version))
fits plan (act.Void ballot) = is_ballot plan ballot

-- the text is that of an act that fits the plan
abbrev pub tells_fit : Plan → (List ℕ → Option Act) → Option (List ℕ) → Bool
tells_fit plan read text = option_map_or (fits plan) (option_and_then read text) false

-- the row is of a ballot of the plan, and tells an act that fits
abbrev pub row_fits : Plan → (List ℕ → Option Act) → BallotRow → Bool
row_fits plan read row = option_map_or (is_ballot plan) (natural row.ballot) false && tells_fit plan read (ballot_text row)

-- and it is behind the earlier ones
abbrev pub ballot_keeps : Plan → (List ℕ → Option Act) → List BallotRow → BallotRow → Bool
ballot_keeps plan read earlier row = climbs ballot_before earlier row && row_fits plan read row

-- the first row is the close, the second one the draw, and there is no third
abbrev pub stage_keeps : Plan → (List ℕ → Option Act) → List StageRow → StageRow → Bool
stage_keeps plan read earlier row =
    (if length earlier == 0 then int_eq row.step (pos 1) && length row.detail == 0
    else (length earlier == 1 && int_eq row.step (pos 2)) && tells_fit plan read (Some (stage_text row)))

-- the row has the next number, there was a draw, and the claim fits
abbrev pub claim_keeps : Plan → Bool → List ClaimRow → ClaimRow → Bool
claim_keeps plan drawn earlier row =
    (int_eq row.claim (pos (length earlier + 1)) && nat_lt (length earlier) most_claims)
    && (drawn && option_map_or (fits plan) (claim_act row) false)

-- DONE ROWS

-- how many of the rows have the act
abbrev pub count_done : List ℕ → List DoneRow → ℕ
count_done text rows = count_by (λ row. bytes_eq row.act text) rows

-- how many of the acts have the text
abbrev pub count_told : List ℕ → List (List ℕ) → ℕ
count_told text told = count_by (λ t. bytes_eq t text) told

-- a number of one of so many stations
abbrev pub is_stamp : ℕ → DoneRow → Bool
is_stamp stations row = option_map_or (λ station. nat_lt station stations) (natural row.station) false && option_map_or (λ number. nat_lt number (2 ^ 32)) (natural row.number) false

-- the row is behind the earlier ones, its stamp is one of the setup's, and no more rows up to it have its act than are told
abbrev pub done_keeps : ℕ → List (List ℕ) → List DoneRow → DoneRow → Bool
done_keeps stations told earlier row =
    (climbs done_before earlier row && is_stamp stations row)
    && nat_lt (count_done row.act earlier) (count_told row.act told)

-- each act that is told was done as often
abbrev pub all_done : List (List ℕ) → List DoneRow → Bool
all_done told rows = list_all (λ text. nat_le (count_told text told) (count_done text rows)) told

-- the place of a bad row, else one past the last where an act that is told was not done
abbrev pub or_missing : Bool → ℕ → Option ℕ → Option ℕ
or_missing done last (Some place) = Some place
or_missing done last None = (if done then None else Some last)

-- the place of the first bad done row, or one past the last
abbrev pub done_fault : ℕ → List (List ℕ) → List DoneRow → Option ℕ
done_fault stations told rows = or_missing (all_done told rows) (length rows) (first_bad (done_keeps stations told) [] rows)

-- VOIDS

-- the station of the first done row with the act
abbrev pub station_of : List ℕ → List DoneRow → Option ℤ
station_of text [] = None
station_of text (row ∷ rows) = (if bytes_eq row.act text then Some row.station else station_of text rows)

-- the text of the scan of a ballot
abbrev pub scan_text : ℤ → List BallotRow → Option (List ℕ)
scan_text ballot [] = None
scan_text ballot (row ∷ rows) = (if int_eq row.ballot ballot then (if int_eq row.fate (pos 1) then ballot_text row else None) else scan_text ballot rows)

-- the station that did the act
abbrev pub doer : List DoneRow → Option (List ℕ) → Option ℤ
doer dones text = option_and_then (λ t. station_of t dones) text

-- the two stations are known and differ
abbrev pub differ : Option ℤ → Option ℤ → Bool
differ (Some a) (Some b) = not (int_eq a b)
differ (Some a) None = false
differ None b = false

-- the row is behind the earlier ones, its ballot was scanned, and another station did the void than the scan
abbrev pub void_keeps : ℕ → Rows → List VoidRow → VoidRow → Bool
void_keeps version rows earlier row =
    climbs void_before earlier row
    && differ (doer rows.dones (scan_text row.ballot rows.ballots)) (doer rows.dones (void_text version row))

-- ALL TABLES

-- a table and its bad row, counted from 1
abbrev pub at_table : ℕ → Option ℕ → Option (ℕ × ℕ)
at_table table place = option_map (λ p. (table, p + 1)) place

-- the draw is kept
abbrev pub is_drawn_in : Rows → Bool
is_drawn_in rows = nat_le 2 (length rows.stages)

-- the first bad table and row behind a setup
unfoldable pub damage_of : Setup → (List ℕ → Option Act) → Rows → Option (ℕ × ℕ)
damage_of setup read rows = first_of (
    at_table 2 (first_bad (ballot_keeps setup.plan read) [] rows.ballots)
    ∷ at_table 3 (first_bad (stage_keeps setup.plan read) [] rows.stages)
    ∷ at_table 4 (first_bad (claim_keeps setup.plan (is_drawn_in rows)) [] rows.claims)
    ∷ at_table 5 (done_fault (length setup.secrets) (told_by setup.plan.version rows) rows.dones)
    ∷ at_table 6 (first_bad (void_keeps setup.plan.version rows) [] rows.voids)
    ∷ [])
