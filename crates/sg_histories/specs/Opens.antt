-- What kept rows open to (this project's rules for the office).
use Rattle.std.specs.Prelude.{◌≡◌, ℕ, ◌⊎◌, List, Option, Some, None}
use Rattle.sg_keeper.specs.SetupText.{IsSetupText}
use Rattle.sg_keeper.specs.declared.rows.Rows.{Rows}
use Rattle.sg_keeper.specs.declared.setup.Setup.{Setup}
use Rattle.sg_acts.specs.declared.asks.Act.{Act}
use Rattle.sg_histories.specs.Reading.{ReadsActs}
use Rattle.sg_histories.specs.ValidRows.{damage_of}

-- nothing, a bad row of a table, or a setup
pub data Opens : Type 0 where
  Empty : Opens
  Damaged : (table row : ℕ) → Opens
  Whole : (setup : Setup) → Opens

-- the text that is kept is that of this setup, and behind it this is the first bad table and row, where the texts of acts
-- are read as just these acts
pub record IsOfSetup (setup : Setup) (damage : Option (ℕ × ℕ)) (rows : Rows) : Type 0 where
  pub text : List ℕ
  pub kept : rows.setup ≡ Some text
  pub setup_is : IsSetupText text setup
  pub read : List ℕ → Option Act
  pub reads : ReadsActs setup read
  pub damage_is : damage_of setup read rows ≡ damage

-- the text that is kept is no setup's
pub record IsOfNone (rows : Rows) : Type 0 where
  pub text : List ℕ
  pub kept : rows.setup ≡ Some text
  pub none : (setup : Setup) → IsSetupText text setup → ⊥

-- what rows open to: the setup is the one row of table 1
abbrev pub OpenTo : Rows → Opens → Type 0
OpenTo rows Empty = rows.setup ≡ None
OpenTo rows (Damaged table row) = (IsOfNone rows × (table ≡ 1) × (row ≡ 1)) ⊎ ((setup : Setup) × IsOfSetup setup (Some (table, row)) rows)
OpenTo rows (Whole setup) = IsOfSetup setup None rows
