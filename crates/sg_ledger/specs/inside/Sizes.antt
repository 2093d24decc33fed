-- How large the races of a plan are.
use Rattle.std.specs.Prelude.{◌≡◌, ℕ, ◌<◌, length, slice_get, Some}
use Rattle.sg_ledger.specs.declared.book.Sizes.{Sizes}
use Rattle.sg_plan.specs.Ballots.{all_entries, entries_before, entries_of}
use Rattle.sg_plan.specs.declared.plan.Plan.{Plan}

-- how many entries come before those of each race, and how many it has
pub record AreSizes (plan : Plan) (sizes : Sizes) : Type 0 where
  pub befores : length sizes.before ≡ length plan.races
  pub counts : length sizes.entries ≡ length plan.races
  pub before : (race : ℕ) → race < length plan.races → slice_get sizes.before race ≡ Some (entries_before plan race)
  pub count : (race : ℕ) → race < length plan.races → slice_get sizes.entries race ≡ Some (entries_of plan race)
  pub all : sizes.all ≡ all_entries plan
