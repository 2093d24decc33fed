-- The laws of an office's rows, and of the texts of setups.
use Rattle.std.specs.Prelude.{◌≡◌, ℕ, Bool, true, List, [], ◌∷◌}
use Rattle.sg_keeper.specs.declared.rows.Rows.{Rows}
use Rattle.sg_keeper.specs.declared.rows.Change.{Change}
use Rattle.sg_keeper.specs.declared.setup.Setup.{Setup}
use Rattle.sg_keeper.specs.SetupText.{IsMadeOfBytes, IsSetup, IsSetupText, setup_text}
use Rattle.sg_keeper.specs.Rows.{IsAscii, IsNewChange, ballot_before, claim_before, done_before, no_rows, stage_before, void_before, with_change}

-- ROWS

-- the item comes before each of these
abbrev pub BeforeAll : {A : Type 0} → (A → A → Bool) → A → List A → Type 0
BeforeAll before x [] = Unit {0}
BeforeAll before x (y ∷ ys) = (before x y ≡ true) × BeforeAll before x ys

-- the list strictly rises by the order
abbrev pub Rises : {A : Type 0} → (A → A → Bool) → List A → Type 0
Rises before [] = Unit {0}
Rises before (x ∷ xs) = BeforeAll before x xs × Rises before xs

-- each list of the rows strictly rises by its key
pub record RowsRise (rows : Rows) : Type 0 where
  pub ballots : Rises ballot_before rows.ballots
  pub stages : Rises stage_before rows.stages
  pub claims : Rises claim_before rows.claims
  pub voids : Rises void_before rows.voids
  pub dones : Rises done_before rows.dones

-- no rows rise, and rows that rise still do so with a change whose keys are new
pub record RisingIsKept : Type 0 where
  pub none : RowsRise no_rows
  pub change : (rows : Rows) (change : Change) → RowsRise rows → IsNewChange rows change → RowsRise (with_change rows change)

-- TEXTS OF SETUPS

-- different setups have different texts
abbrev pub SetupsDiffer : Type 0
SetupsDiffer = (text : List ℕ) (a b : Setup) → IsSetupText text a → IsSetupText text b → a ≡ b

-- the text of each setup is ASCII
abbrev pub SetupsAreAscii : Type 0
SetupsAreAscii = (setup : Setup) → IsSetup setup → IsMadeOfBytes setup → IsAscii (setup_text setup)
