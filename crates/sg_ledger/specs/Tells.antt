-- What the tables of a ledger tell: the facts of the lines in their places, at the place of each coordinate.
use Rattle.std.specs.Prelude.{◌≡◌, ℕ, zero, suc, ◌+◌, ◌*◌, ◌/◌, ◌%◌, ◌<◌, ◌≤◌, ◌==◌, nat_lt, if◌then◌else◌, min, Bool, true, false, ◌&&◌, List, [], ◌∷◌, ◌++◌, length, slice_index_or, Option, None, count_by}
use Rattle.std.specs.List.{list_any}
use Rattle.std.specs.Option.{option_map, option_map_or}
use Rattle.sg_plan.specs.declared.plan.Side.TheVariants as side
use Rattle.sg_plan.specs.Limits.{most_candidates, most_instances}
use Rattle.sg_check.specs.Facts.{DisputedCode, code_commitment, half_commitment, is_marked, marks_ballot, audited_entries, is_audited, paper_code, is_flagged, is_set, votes_for, opens_pointer, both_rows, is_full_draw, public_bytes, last_claim, shows_disputed}
use Rattle.sg_check.specs.Verdict.{total_on}
use Rattle.sg_check.specs.declared.judged.Total.{Total}
use Rattle.sg_forms.specs.Spelling.{AreDigits}
use Rattle.sg_forms.specs.declared.line.RowOpening.{RowOpening}
use Rattle.sg_forms.specs.declared.line.RowOpening.TheVariants as row
use Rattle.sg_ledger.specs.inside.Tables.{most_marks, most_votes}
use Rattle.sg_ledger.specs.declared.audits.Audits.{Audits}
use Rattle.sg_ledger.specs.declared.bits.Bits.{Bits}
use Rattle.sg_ledger.specs.declared.claims.Claimed.{Claimed}
use Rattle.sg_ledger.specs.declared.codes.Codes.{Codes}
use Rattle.sg_ledger.specs.declared.commitments.Commitments.{Commitments}
use Rattle.sg_ledger.specs.declared.drawn.Drawn.{Drawn}
use Rattle.sg_ledger.specs.declared.ledger.Ledger.{Ledger}
use Rattle.sg_ledger.specs.declared.pointers.Pointers.{Pointers}
use Rattle.sg_plan.specs.Ballots.{all_entries, ballot_has, candidates_of, entries_of, entry_at, entry_place, r_rows, row_place}
use Rattle.sg_plan.specs.declared.plan.Plan.{Plan}
use Rattle.sg_grammar.specs.Placed.{Placed}
use Rattle.sg_grammar.specs.Placed.Placed.{CodeAt, DrawnPublic, RowAt}
use Rattle.sg_grammar.specs.Coordinates.{IsPlacedIn}
use Rattle.sg_streams.specs.CoinSides.{coin_seed}

-- LINES

-- the coordinates of each line are of the plan
abbrev pub ArePlacedIn : Plan → List Placed → Type 0
ArePlacedIn plan [] = Unit {0}
ArePlacedIn plan (line ∷ lines) = IsPlacedIn plan line × ArePlacedIn plan lines

-- public bytes that the line draws are spelled as its form wants
abbrev pub HasDigits : Placed → Type 0
HasDigits (DrawnPublic digits) = AreDigits digits
HasDigits line = Unit {0}

-- what the `total` lines say, in their order
abbrev pub totals_placed : List Placed → List Total
totals_placed [] = []
totals_placed (line ∷ lines) = total_on line ++ totals_placed lines

-- the line shows this code of the entry
abbrev pub shows_entry : Plan → ℕ → ℕ → ℕ → Placed → Bool
shows_entry plan race entry code (CodeAt block ballot of column shown) = (of == race && entry_at plan of ballot column == entry) && shown.code == code
shows_entry plan race entry code line = false

-- the row leads the entry to the place: it is opened on both sides, with pointers below n
abbrev pub leads_to : Plan → ℕ → ℕ → ℕ → RowOpening → Bool
leads_to plan race entry place (row.Both left right) = (nat_lt left.value (entries_of plan race) && nat_lt right.value (entries_of plan race)) && (left.value == entry && right.value == place)
leads_to plan race entry place (row.Left opening) = false
leads_to plan race entry place (row.Right opening) = false

abbrev pub leads_entry : Plan → ℕ → ℕ → ℕ → Placed → Bool
leads_entry plan race entry place (RowAt of instance number opening) = of == race && leads_to plan race entry place opening
leads_entry plan race entry place line = false

-- how many of the numbers below n pass the test
abbrev pub count_to : ℕ → (ℕ → Bool) → ℕ
count_to zero test = 0
count_to (suc n) test = count_to n test + (if test n then 1 else 0)

-- how many left pointers below n the rows of the instance open
abbrev pub opened_lefts : Plan → ℕ → ℕ → List Placed → ℕ
opened_lefts plan race instance lines = count_to (entries_of plan race) (λ pointer. list_any (opens_pointer side.Left race instance pointer) lines)

-- what is kept of a claim: whether the block shows its code
abbrev pub kept_of : DisputedCode → Claimed
kept_of claim = record { code = claim.code; answer = claim.answer; shown = list_any (shows_disputed claim.code) claim.behind }

-- this value is there
abbrev pub is_value : Option ℕ → ℕ → Bool
is_value kept value = option_map_or (λ k. k == value) kept false

-- TABLES

-- the fact of each entry holds of what stands at its place
abbrev pub AtEntries : {A : Type 0} → Plan → List A → A → (ℕ → ℕ → A → Type 0) → Type 0
AtEntries plan table none fact = (race entry : ℕ) → race < length plan.races → entry < entries_of plan race → fact race entry (slice_index_or table (entry_place plan race entry) none)

-- the fact of each row of each instance holds of what stands at its place
abbrev pub AtRows : {A : Type 0} → Plan → List A → A → (ℕ → ℕ → ℕ → A → Type 0) → Type 0
AtRows plan table none fact = (race instance row : ℕ) → race < length plan.races → instance < plan.instances → row < entries_of plan race
    → fact race instance row (slice_index_or table (row_place plan race instance row) none)

-- the fact of each ballot in each of its races holds of what stands at the place of its first entry
abbrev pub AtBallots : Plan → List ℕ → (ℕ → ℕ → ℕ → Type 0) → Type 0
AtBallots plan table fact = (race ballot : ℕ) → race < length plan.races → ballot_has plan ballot race ≡ true
    → fact race ballot (slice_index_or table (entry_place plan race (entry_at plan race ballot 0)) 0)

-- where a candidate stands when 16 are left for each race
abbrev pub candidate_place : ℕ → ℕ → ℕ
candidate_place race candidate = most_candidates * race + candidate

-- the fact of each candidate holds of what stands at its place
abbrev pub AtCandidates : Plan → List ℕ → (ℕ → ℕ → ℕ → Type 0) → Type 0
AtCandidates plan table fact = (race candidate : ℕ) → race < length plan.races → candidate < candidates_of plan race
    → fact race candidate (slice_index_or table (candidate_place race candidate) 0)

-- the fact of each race holds of what stands at its place
abbrev pub AtRaces : Plan → List ℕ → (ℕ → ℕ → Type 0) → Type 0
AtRaces plan table fact = (race : ℕ) → race < length plan.races → fact race (slice_index_or table race 0)

-- where an instance stands when 16 are left for each race
abbrev pub instance_place : ℕ → ℕ → ℕ
instance_place race instance = most_instances * race + instance

-- the fact of each instance holds of what stands at its place
abbrev pub AtInstances : Plan → List ℕ → (ℕ → ℕ → ℕ → Type 0) → Type 0
AtInstances plan table fact = (race instance : ℕ) → race < length plan.races → instance < plan.instances
    → fact race instance (slice_index_or table (instance_place race instance) 0)

-- each table has a place for each coordinate of the plan that is kept
pub record IsSized (plan : Plan) (ledger : Ledger) : Type 0 where
  pub book : ledger.book ≡ plan
  pub codes : length ledger.commitments.codes ≡ all_entries plan
  pub lefts : length ledger.commitments.lefts ≡ r_rows plan
  pub rights : length ledger.commitments.rights ≡ r_rows plan
  pub known : length ledger.codes.known ≡ all_entries plan
  pub marked : length ledger.codes.marked ≡ all_entries plan
  pub marks : length ledger.codes.marks ≡ all_entries plan
  pub flagged : length ledger.bits.flagged ≡ r_rows plan
  pub places : length ledger.bits.places ≡ all_entries plan
  pub votes : length ledger.bits.votes ≡ most_candidates * length plan.races
  pub seen_lefts : length ledger.pointers.lefts ≡ r_rows plan
  pub seen_rights : length ledger.pointers.rights ≡ r_rows plan
  pub paths : length ledger.paths ≡ all_entries plan
  pub audited : length ledger.audits.audited ≡ all_entries plan
  pub papers : length ledger.audits.papers ≡ all_entries plan
  pub audit_counts : length ledger.audits.entries ≡ length plan.races
  pub both_counts : length ledger.audits.boths ≡ most_instances * length plan.races

pub record TellsCommitments (plan : Plan) (kept : Commitments) (lines : List Placed) : Type 0 where
  pub codes : AtEntries plan kept.codes None (λ race entry digest. digest ≡ code_commitment race entry lines)
  pub lefts : AtRows plan kept.lefts None (λ race instance row digest. digest ≡ half_commitment lines side.Left race instance row)
  pub rights : AtRows plan kept.rights None (λ race instance row digest. digest ≡ half_commitment lines side.Right race instance row)

-- the lines that show an entry show the code that is kept of it
pub record TellsCodes (plan : Plan) (kept : Codes) (lines : List Placed) : Type 0 where
  pub known : AtEntries plan kept.known None (λ race entry code. (shown : ℕ) → list_any (shows_entry plan race entry shown) lines ≡ is_value code shown)
  pub marked : AtEntries plan kept.marked false (λ race entry mark. mark ≡ is_marked plan race entry lines)
  pub marks : AtBallots plan kept.marks (λ race ballot count. count ≡ min (count_by (marks_ballot ballot race) lines) most_marks)

pub record TellsBits (plan : Plan) (kept : Bits) (lines : List Placed) : Type 0 where
  pub flagged : AtRows plan kept.flagged false (λ race instance row flag. flag ≡ is_flagged race instance row lines)
  pub places : AtEntries plan kept.places false (λ race place bit. bit ≡ is_set race place lines)
  pub votes : AtCandidates plan kept.votes (λ race candidate count. count ≡ min (votes_for plan race candidate lines) most_votes)

-- the pointer stands in the place of the row with its number
pub record TellsPointers (plan : Plan) (kept : Pointers) (lines : List Placed) : Type 0 where
  pub lefts : AtRows plan kept.lefts false (λ race instance pointer seen. seen ≡ list_any (opens_pointer side.Left race instance pointer) lines)
  pub rights : AtRows plan kept.rights false (λ race instance pointer seen. seen ≡ list_any (opens_pointer side.Right race instance pointer) lines)

-- the rows that lead an entry lead it to the place that is kept of it
abbrev pub TellsPaths : Plan → List (Option ℕ) → List Placed → Type 0
TellsPaths plan kept lines = AtEntries plan kept None (λ race entry to. (place : ℕ) → list_any (leads_entry plan race entry place) lines ≡ is_value to place)

-- no instance has more rows opened on both sides than left pointers that they open
pub record TellsAudits (plan : Plan) (kept : Audits) (lines : List Placed) : Type 0 where
  pub audited : AtEntries plan kept.audited false (λ race entry bit. bit ≡ is_audited plan race entry lines)
  pub papers : AtEntries plan kept.papers None (λ race entry code. code ≡ paper_code plan race (entry / candidates_of plan race) (entry % candidates_of plan race) lines)
  pub entries : AtRaces plan kept.entries (λ race count. count ≡ min (audited_entries race lines) most_marks)
  pub boths : AtInstances plan kept.boths (λ race instance count. count ≡ min (both_rows race instance lines) most_marks)
  pub few : (race instance : ℕ) → race < length plan.races → instance < plan.instances → both_rows race instance lines ≤ opened_lefts plan race instance lines

-- whether all sides are drawn, and the seed of the coins where public bytes are
pub record TellsDrawn (kept : Drawn) (lines : List Placed) : Type 0 where
  pub full : kept.full ≡ is_full_draw lines
  pub coins : kept.coins ≡ option_map coin_seed (public_bytes lines)

-- the ledger tells these lines
pub record Tells (plan : Plan) (ledger : Ledger) (lines : List Placed) : Type 0 where
  pub sized : IsSized plan ledger
  pub placed : ArePlacedIn plan lines
  pub commitments : TellsCommitments plan ledger.commitments lines
  pub codes : TellsCodes plan ledger.codes lines
  pub bits : TellsBits plan ledger.bits lines
  pub pointers : TellsPointers plan ledger.pointers lines
  pub paths : TellsPaths plan ledger.paths lines
  pub audits : TellsAudits plan ledger.audits lines
  pub drawn : TellsDrawn ledger.drawn lines
  pub claim : ledger.claim ≡ option_map kept_of (last_claim lines)
  pub totals : ledger.totals ≡ totals_placed lines

-- the plan that the ledger has
abbrev pub plan_kept : Ledger → Plan
plan_kept ledger = ledger.book

-- how many totals the ledger has
abbrev pub totals_kept : Ledger → ℕ
totals_kept ledger = length ledger.totals

-- the ledger tells some lines
abbrev pub TellsSome : Plan → Ledger → Type 0
TellsSome plan ledger = (lines : List Placed) × Tells plan ledger lines
