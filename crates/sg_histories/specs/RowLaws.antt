-- The laws of valid rows (this project's rules for the office).
use Rattle.std.specs.Prelude.{◌≡◌, ℕ, List, Option, Some, None}
use Rattle.sg_plan.specs.Limits.{fault_of}
use Rattle.sg_keeper.specs.SetupText.{IsMadeOfBytes, IsSetup, setup_text}
use Rattle.sg_acts.specs.declared.asks.Act.{Act}
use Rattle.sg_keeper.specs.declared.rows.Rows.{Rows}
use Rattle.sg_keeper.specs.declared.setup.Setup.{Setup}
use Rattle.sg_desks.specs.ActReading.{act_in}
use Rattle.sg_histories.specs.Histories.{Entry}
use Rattle.sg_histories.specs.KeptRows.{rows_of}
use Rattle.sg_histories.specs.Lawful.{Lawful}
use Rattle.sg_histories.specs.Opens.{OpenTo, Opens, Whole}
use Rattle.sg_histories.specs.Reading.{ReadsActs}
use Rattle.sg_histories.specs.ValidRows.{damage_of}

-- the rows of each lawful history are valid
abbrev pub RowsAreValid : Setup → (List ℕ → Option Act) → Type 0
RowsAreValid setup read = (text : List ℕ) (history : List Entry) → Lawful setup history → damage_of setup read (rows_of setup text history) ≡ None

-- valid rows are those of some lawful history
abbrev pub ValidRowsStand : Setup → (List ℕ → Option Act) → Type 0
ValidRowsStand setup read = (text : List ℕ) (rows : Rows) → rows.setup ≡ Some text → damage_of setup read rows ≡ None
    → (history : List Entry) × Lawful setup history × (rows ≡ rows_of setup text history)

-- both for each setup whose plan keeps its limits, and each reader that reads just the acts
abbrev pub HistoriesAreValid : Type 0
HistoriesAreValid = (setup : Setup) (read : List ℕ → Option Act) → ReadsActs setup read → fault_of setup.plan ≡ None → RowsAreValid setup read

abbrev pub ValidRowsAreHistories : Type 0
ValidRowsAreHistories = (setup : Setup) (read : List ℕ → Option Act) → ReadsActs setup read → fault_of setup.plan ≡ None → ValidRowsStand setup read

-- acts are read from their texts just as these laws take it
abbrev pub ActInReadsActs : Type 0
ActInReadsActs = (setup : Setup) → fault_of setup.plan ≡ None → ReadsActs setup (act_in setup.plan.version)

-- the rows of each lawful history of a setup, with the setup's own text, open whole
abbrev pub LawfulRowsOpen : Type 0
LawfulRowsOpen = (setup : Setup) (history : List Entry) → IsSetup setup → IsMadeOfBytes setup → Lawful setup history
    → OpenTo (rows_of setup (setup_text setup) history) (Whole setup)

-- the rows are those of a lawful history of the setup, with the setup's own text
pub record AreRowsOf (setup : Setup) (rows : Rows) : Type 0 where
  pub history : List Entry
  pub setup_is : IsSetup setup
  pub lawful : Lawful setup history
  pub rows_are : rows ≡ rows_of setup (setup_text setup) history

-- rows that open whole are those of a lawful history
abbrev pub OpenRowsAreLawful : Type 0
OpenRowsAreLawful = (setup : Setup) (rows : Rows) → OpenTo rows (Whole setup) → AreRowsOf setup rows

-- rows open to one thing at most
abbrev pub RowsOpenOnce : Type 0
RowsOpenOnce = (rows : Rows) (a b : Opens) → OpenTo rows a → OpenTo rows b → a ≡ b
