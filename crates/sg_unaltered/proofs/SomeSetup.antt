-- There is a setup of each version: a small one.
use Rattle.std.proofs.Common.{◌≡◌, ℕ, ◌<◌, inl, inr, List, [], ◌∷◌, length, replicate, None, refl, arith}
use Rattle.std.proofs.lemmas.List.{length-replicate}
use Rattle.std.proofs.lemmas.List.Elements.{All-cons, All-nil, All-replicate}
use Rattle.sg_plan.specs.Limits.{fault_of}
use Rattle.sg_plan.specs.declared.plan.Plan.{Plan}
use Rattle.sg_forms.specs.Spelling.{AreBytes}
use Rattle.sg_keeper.specs.SetupText.{IsMadeOfBytes, IsSetup}
use Rattle.sg_keeper.specs.declared.setup.Setup.{Setup}
use Rattle.sg_unaltered.specs.GoingOn.{SetupsAreThere}

-- one race of two candidates, one style, one ballot, and one instance
abbrev pub small : ℕ → Plan
small version = record {
  version = version;
  name = 69 ∷ [];
  instances = 1;
  races = record { name = 77 ∷ []; candidates = (65 ∷ []) ∷ (66 ∷ []) ∷ []; votes = 1 } ∷ [];
  styles = record { name = 83 ∷ []; races = 0 ∷ [] } ∷ [];
  runs = record { style = 0; count = 1 } ∷ [];
}

-- so many zeros
abbrev pub zeros : ℕ → List ℕ
zeros count = replicate count 0

-- of one station
abbrev pub small_setup : ℕ → Setup
small_setup version = record { plan = small version; seed = record { 0 = zeros 32 }; secrets = zeros 16 ∷ [] }

are_zeros : (count : ℕ) → AreBytes count (zeros count)
are_zeros count = (length-replicate count 0, All-replicate (λ byte. byte < 256) count 0 (omega arith))

is_setup : (version : ℕ) → fault_of (small version) ≡ None → IsSetup (small_setup version)
is_setup version kept = record { plan = kept; some = omega arith; few = omega arith }

is_made : (version : ℕ) → IsMadeOfBytes (small_setup version)
is_made version = record { seed = are_zeros 32; secrets = All-cons (AreBytes 16) (zeros 16) [] (are_zeros 16) (All-nil (AreBytes 16)) }

first_kept : fault_of (small 1) ≡ None
unfolding fault_of
first_kept = refl

second_kept : fault_of (small 2) ≡ None
unfolding fault_of
second_kept = refl

pub setups_are_there : SetupsAreThere
setups_are_there version (inl is) = (small_setup version, refl, is_setup version (rw is first_kept), is_made version)
setups_are_there version (inr is) = (small_setup version, refl, is_setup version (rw is second_kept), is_made version)
