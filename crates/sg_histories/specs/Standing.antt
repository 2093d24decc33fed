-- What an office keeps, and the histories that it stands for. No reader needs to believe how it is kept: the
-- calls' contracts speak of histories.
use Rattle.std.specs.Ordering.{int_eq}
use Rattle.std.specs.Prelude.{◌≡◌, ℕ, ◌+◌, ◌<◌, ◌^◌, ◌≤◌, pos, ◌&&◌, if◌then◌else◌, List, [], ◌∷◌, length, slice_get, Option, Some, None}
use Rattle.sg_plan.specs.Ballots.{ballots_of}
use Rattle.sg_plan.specs.Limits.{fault_of, most_stations}
use Rattle.sg_acts.specs.declared.asks.Ask.{Ask}
use Rattle.sg_acts.specs.declared.asks.Ask.TheVariants as ask
use Rattle.sg_acts.specs.declared.replies.Reply.{Reply}
use Rattle.sg_keeper.specs.declared.rows.DoneRow.{DoneRow}
use Rattle.sg_keeper.specs.declared.rows.Rows.{Rows}
use Rattle.sg_keeper.specs.declared.setup.Setup.{Setup}
use Rattle.sg_histories.specs.Histories.{Entry, claims_of, fate_of, scanner_of, stage_of}
use Rattle.sg_histories.specs.KeptRows.{rows_of}
use Rattle.sg_histories.specs.Lawful.{IsAskable, Lawful, Turn}
use Rattle.sg_histories.specs.declared.kept.Kept.{Kept}
use Rattle.sg_histories.specs.declared.kept.Slot.{Slot}

-- what a history tells of a ballot
abbrev pub slot_of : List Entry → ℕ → Slot
slot_of history ballot = record { fate = fate_of history ballot; station = scanner_of history ballot }

-- the slots are those of the plan's ballots
abbrev pub TellSlots : Setup → List Slot → List Entry → Type 0
TellSlots setup slots history = (place : ℕ) → place < ballots_of setup.plan → slice_get slots place ≡ Some (slot_of history (place + 1))

-- the office stands for the history
pub record StandsFor (kept : Kept) (history : List Entry) : Type 0 where
  pub lawful : Lawful kept.setup history
  pub slots : TellSlots kept.setup kept.slots history
  pub stage : kept.stage ≡ stage_of history
  pub claims : kept.claims ≡ claims_of history
  pub dones : (text : List ℕ) → kept.dones ≡ (rows_of kept.setup text history).dones

-- the text of the act to which a station gave the number
abbrev pub text_at : ℕ → ℕ → List DoneRow → Option (List ℕ)
text_at station number [] = None
text_at station number (row ∷ rows) = (if int_eq row.station (pos station) && int_eq row.number (pos number) then Some row.act else text_at station number rows)

-- an office of a plan that keeps its limits, with a slot for each ballot
pub record IsOffice (kept : Kept) : Type 0 where
  pub limits : fault_of kept.setup.plan ≡ None
  pub slots : length kept.slots ≡ ballots_of kept.setup.plan
  pub few_stations : length kept.setup.secrets ≤ most_stations
  pub history : List Entry
  pub stands : StandsFor kept history

-- the office stands for a history whose rows these are
pub record HasRows (kept : Kept) (rows : Rows) : Type 0 where
  pub text : List ℕ
  pub history : List Entry
  pub stands : StandsFor kept history
  pub rows_are : rows ≡ rows_of kept.setup text history

-- what a call of the office did: a turn of the talk, whose next history the office stands for, and the kept
-- rows follow where they are told
pub record Turned (old new : Kept) (tells : Type 0) (rows after : Rows) (asked : Ask) (answer : Reply) (history : List Entry) : Type 0 where
  pub next : List Entry
  pub turn : Turn old.setup history asked answer next
  pub setup : new.setup ≡ old.setup
  pub stands : StandsFor new next
  pub kept : tells → (text : List ℕ) → rows ≡ rows_of old.setup text history → after ≡ rows_of old.setup text next

-- an ask that can come under a setup
abbrev pub IsAsk : Setup → Ask → Type 0
IsAsk setup (ask.Do stamp asked) = (stamp.number < 2 ^ 32) × IsAskable setup asked
IsAsk setup (ask.See look) = Unit {0}
