-- An office that has accepted nothing stands for the history without entries.
use Rattle.std.proofs.Common.{◌≡◌, ℕ, zero, suc, ◌<◌, List, [], length, Some, refl, ap, ◌∙◌, arith}
use Rattle.std.specs.Prelude.{replicate}
use Rattle.std.specs.List.{slice_get}
use Rattle.std.proofs.lemmas.List.{length-replicate}
use Rattle.sg_plan.specs.Ballots.{ballots_of}
use Rattle.sg_plan.specs.declared.plan.Fate.TheVariants as fate
use Rattle.sg_plan.specs.declared.plan.Stage.TheVariants as stage
use Rattle.sg_keeper.specs.SetupText.{IsSetup}
use Rattle.sg_keeper.specs.declared.setup.Setup.{Setup}
use Rattle.sg_histories.specs.declared.kept.Kept.{Kept}
use Rattle.sg_histories.specs.declared.kept.Slot.{Slot}
use Rattle.sg_histories.specs.Standing.{IsOffice, StandsFor}

abbrev pub unused_slot : Slot
unused_slot = record { fate = fate.Unused; station = 0 }

got : (n place : ℕ) → place < n → slice_get (replicate n unused_slot) place ≡ Some unused_slot
got zero place h = absurd (omega (arith, h))
got (suc n) zero h = refl
got (suc n) (suc place) h = got n place (omega (arith, h))

-- what is kept of nothing
abbrev pub nothing : Setup → List Slot → Kept
nothing setup slots = record { setup = setup; slots = slots; stage = stage.Voting; claims = []; dones = [] }

-- it stands for the history without entries
pub fresh_stands : (setup : Setup) (slots : List Slot) → slots ≡ replicate (ballots_of setup.plan) unused_slot → StandsFor (nothing setup slots) []
fresh_stands setup slots is = record {
  lawful = tt;
  slots = λ place within. ap (λ (l : List Slot). slice_get l place) is ∙ got (ballots_of setup.plan) place within;
  stage = refl;
  claims = refl;
  dones = λ text. refl;
}

-- and is an office's
pub fresh_office : (setup : Setup) (slots : List Slot) → IsSetup setup → slots ≡ replicate (ballots_of setup.plan) unused_slot → IsOffice (nothing setup slots)
fresh_office setup slots good is = record {
  limits = good.plan;
  slots = ap length is ∙ length-replicate (ballots_of setup.plan) unused_slot;
  few_stations = good.few;
  history = [];
  stands = fresh_stands setup slots is;
}
