-- The rows that an office keeps, in six lists, and what the setup and an accepted act add to them.
use Rattle.std.specs.Prelude.{◌≡◌, ℕ, ◌<◌, ◌≤◌, int_lt, if◌then◌else◌, Bool, true, ◌&&◌, ◌||◌, not, List, [], ◌∷◌, None, Some, Result, Err, OnOk, All}
use Rattle.std.specs.List.{list_any}
use Rattle.std.specs.Ordering.{int_eq}
use Rattle.sg_outside.specs.Faults.{Rose}
use Rattle.sg_keeper.specs.declared.keeper.KeepFault.{KeepFault}
use Rattle.sg_keeper.specs.declared.keeper.KeepFault.TheVariants as fault
use Rattle.sg_keeper.specs.declared.rows.BallotRow.{BallotRow}
use Rattle.sg_keeper.specs.declared.rows.StageRow.{StageRow}
use Rattle.sg_keeper.specs.declared.rows.ClaimRow.{ClaimRow}
use Rattle.sg_keeper.specs.declared.rows.VoidRow.{VoidRow}
use Rattle.sg_keeper.specs.declared.rows.DoneRow.{DoneRow}
use Rattle.sg_keeper.specs.declared.rows.Rows.{Rows}
use Rattle.sg_keeper.specs.declared.rows.Change.{Change}
use Rattle.sg_keeper.specs.declared.rows.ChangeRow.{ChangeRow}
use Rattle.sg_keeper.specs.declared.rows.ChangeRow.TheVariants.{Ballot, Stage, Claim, Void}

-- KEYS

-- the first row's ballot has the lower number
abbrev pub ballot_before : BallotRow → BallotRow → Bool
ballot_before a b = int_lt a.ballot b.ballot

-- the first row's step is the earlier one
abbrev pub stage_before : StageRow → StageRow → Bool
stage_before a b = int_lt a.step b.step

-- the first row's claim has the lower number
abbrev pub claim_before : ClaimRow → ClaimRow → Bool
claim_before a b = int_lt a.claim b.claim

-- the first row's voided ballot has the lower number
abbrev pub void_before : VoidRow → VoidRow → Bool
void_before a b = int_lt a.ballot b.ballot

-- the first row's station is the lower one, or it is the same station and the first row's number is the lower one
abbrev pub done_before : DoneRow → DoneRow → Bool
done_before a b = int_lt a.station b.station || (int_eq a.station b.station && int_lt a.number b.number)

-- the two rows are of the same ballot
abbrev pub ballot_is : BallotRow → BallotRow → Bool
ballot_is a b = int_eq a.ballot b.ballot

-- the two rows are of the same step
abbrev pub stage_is : StageRow → StageRow → Bool
stage_is a b = int_eq a.step b.step

-- the two rows are of the same claim
abbrev pub claim_is : ClaimRow → ClaimRow → Bool
claim_is a b = int_eq a.claim b.claim

-- the two rows are of the same voided ballot
abbrev pub void_is : VoidRow → VoidRow → Bool
void_is a b = int_eq a.ballot b.ballot

-- the two rows have the same station and number
abbrev pub done_is : DoneRow → DoneRow → Bool
done_is a b = int_eq a.station b.station && int_eq a.number b.number

-- PLACES

-- the list with the row at its place by key: before the first row with a higher one, or behind the last
abbrev pub put : {A : Type 0} → (A → A → Bool) → A → List A → List A
put before row [] = row ∷ []
put before row (x ∷ xs) = (if before row x then row ∷ x ∷ xs else x ∷ put before row xs)

-- no row of the list has the key
abbrev pub is_new : {A : Type 0} → (A → A → Bool) → A → List A → Bool
is_new same row rows = not (list_any (λ kept. same kept row) rows)

-- CHANGES

-- no row at all
abbrev pub no_rows : Rows
no_rows = record { setup = None; ballots = []; stages = []; claims = []; voids = []; dones = [] }

-- the rows with the setup's text
abbrev pub with_setup : Rows → List ℕ → Rows
with_setup rows text = record rows { setup = Some text }

-- the rows with one more
abbrev pub with_row : Rows → ChangeRow → Rows
with_row rows (Ballot row) = record rows { ballots = put ballot_before row rows.ballots }
with_row rows (Stage row) = record rows { stages = put stage_before row rows.stages }
with_row rows (Claim row) = record rows { claims = put claim_before row rows.claims }
with_row rows (Void row) = record rows { voids = put void_before row rows.voids }

-- the rows with both rows of a change
abbrev pub with_change : Rows → Change → Rows
with_change rows change = record (with_row rows change.row) { dones = put done_before change.done rows.dones }

-- the rows have none with the key of this one
abbrev pub is_new_row : Rows → ChangeRow → Bool
is_new_row rows (Ballot row) = is_new ballot_is row rows.ballots
is_new_row rows (Stage row) = is_new stage_is row rows.stages
is_new_row rows (Claim row) = is_new claim_is row rows.claims
is_new_row rows (Void row) = is_new void_is row rows.voids

-- neither key of the change is kept
pub record IsNewChange (rows : Rows) (change : Change) : Type 0 where
  pub row : is_new_row rows change.row ≡ true
  pub done : is_new done_is change.done rows.dones ≡ true

-- WORDS

-- each byte is one of ASCII
abbrev pub IsAscii : List ℕ → Type 0
IsAscii word = All (λ byte. byte < 128) word

-- the words of a row are ASCII
abbrev pub IsAsciiRow : ChangeRow → Type 0
IsAsciiRow (Ballot row) = IsAscii row.detail
IsAsciiRow (Stage row) = IsAscii row.detail
IsAsciiRow (Claim row) = Unit {0}
IsAsciiRow (Void row) = Unit {0}

-- the words of a change are ASCII
abbrev pub IsAsciiChange : Change → Type 0
IsAsciiChange change = IsAsciiRow change.row × IsAscii change.done.act

-- FAULTS

-- the count never falls; the keeper fails only where it rose, and where it did its work or wanted memory the count is as it was
pub record HasFaultCause {T : Type 0} (before now : ℕ) (result : Result T KeepFault) : Type 0 where
  pub later : before ≤ now
  pub failed : result ≡ Err fault.Failed → Rose before now
  pub memory : result ≡ Err fault.NoMemory → now ≡ before
  pub done : OnOk result (now ≡ before)
