-- What the laws of rows take of a reader of act texts (this project's rules for the office).
use Rattle.std.specs.Prelude.{◌≡◌, ℕ, true, List, Option, Some}
use Rattle.sg_acts.specs.declared.asks.Act.{Act}
use Rattle.sg_keeper.specs.declared.setup.Setup.{Setup}
use Rattle.sg_desks.specs.ActTexts.{act_text}
use Rattle.sg_histories.specs.Lawful.{IsAskable}
use Rattle.sg_histories.specs.ValidRows.{fits}

-- the text of each act that fits is read as just that act, and nothing else is read as one that fits
pub record ReadsActs (setup : Setup) (read : List ℕ → Option Act) : Type 0 where
  pub found : (done : Act) → IsAskable setup done → fits setup.plan done ≡ true → read (act_text setup.plan.version done) ≡ Some done
  pub only : (text : List ℕ) (done : Act) → read text ≡ Some done → fits setup.plan done ≡ true → IsAskable setup done × (act_text setup.plan.version done ≡ text)
