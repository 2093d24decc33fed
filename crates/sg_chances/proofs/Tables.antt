-- The tables as a completion: it has all pointers once.
use Rattle.std.proofs.Common.{◌≡◌, ℕ, zero, suc, ◌<◌, nat_le, Bool, false, List, refl, arith}
use Rattle.std.proofs.lemmas.Bool.{ne_eqb, or_from, lt-leb}
use Rattle.sg_plan.specs.Ballots.{entries_of}
use Rattle.sg_plan.specs.declared.plan.Plan.{Plan}
use Rattle.sg_plan.specs.declared.plan.Side.{Side}
use Rattle.sg_plan.specs.declared.plan.Side.TheVariants as side
use Rattle.sg_tables.proofs.TableLaws.{opening_laws, pointer_laws}
use Rattle.sg_check.specs.Completions.{any_below}
use Rattle.sg_check.specs.Facts.{points_to}
use Rattle.sg_odds.specs.Odds.{IsInstanceFull, is_half_lacking}
use Rattle.sg_chances.specs.Chances.{table_half, tables_of}

none_below : (test : ℕ → Bool) (n : ℕ) → ((k : ℕ) → k < n → test k ≡ false) → any_below test n ≡ false
none_below test zero none = refl
none_below test (suc n) none = or_from (any_below test n) (test n) (none_below test n (λ k less. none k (omega (arith, less)))) (none n (omega arith))

module _ (plan : Plan) (seed : List ℕ) (race instance : ℕ) where
  -- the pointers of a side are below n and different
  pointer_below : (on : Side) (row : ℕ) → row < entries_of plan race → (table_half plan seed on race instance row).value < entries_of plan race
  pointer_below side.Left row less = let below = (pointer_laws.lefts plan seed race instance).below row less in omega (arith, below, opening_laws.left plan seed race instance row)
  pointer_below side.Right row less = let below = (pointer_laws.rights plan seed race instance).below row less in omega (arith, below, opening_laws.right plan seed race instance row)

  pointer_one : (on : Side) (row other : ℕ) → row < entries_of plan race → other < entries_of plan race → (table_half plan seed on race instance row).value ≡ (table_half plan seed on race instance other).value → row ≡ other
  pointer_one side.Left row other a b e =
      (pointer_laws.lefts plan seed race instance).one row other a b (omega (arith, e, opening_laws.left plan seed race instance row, opening_laws.left plan seed race instance other))
  pointer_one side.Right row other a b e =
      (pointer_laws.rights plan seed race instance).one row other a b (omega (arith, e, opening_laws.right plan seed race instance row, opening_laws.right plan seed race instance other))

  none_lacking : (on : Side) (row : ℕ) → row < entries_of plan race → is_half_lacking plan (tables_of plan seed) on race instance row ≡ false
  none_lacking on row less =
      let value : ℕ = (table_half plan seed on race instance row).value in
      or_from (nat_le (entries_of plan race) value) (any_below (λ earlier. points_to value (tables_of plan seed on race instance earlier)) row) (lt-leb (entries_of plan race) value (pointer_below on row less))
      (none_below (λ earlier. points_to value (tables_of plan seed on race instance earlier)) row
      (λ k before. ne_eqb (table_half plan seed on race instance k).value value (λ e. let one = pointer_one on k row (omega (arith, before, less)) less e in omega (arith, one, before))))

  pub tables_full : IsInstanceFull plan (tables_of plan seed) race instance
  tables_full = λ row less.
      or_from (is_half_lacking plan (tables_of plan seed) side.Left race instance row) (is_half_lacking plan (tables_of plan seed) side.Right race instance row) (none_lacking side.Left row less) (none_lacking side.Right row less)
