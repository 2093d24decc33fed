-- Loops that look for the first bad row.
use Rattle.std.proofs.Common.{◌≡◌, ℕ, ◌+◌, ◌<◌, Bool, true, false, cond, List, [], ◌∷◌, ◌++◌, length, take, drop, Option, Some, refl, ap, sym, ◌∙◌, arith}
use Rattle.std.proofs.lemmas.Grind.{common_steps}
use Rattle.sg_plan.specs.Limits.{first_bad, first_of}
use Rattle.sg_histories.specs.ValidRows.{at_table}
use Rattle.sg_open.specs.declared.fault.OpenFault.{OpenFault}
use Rattle.sg_open.specs.declared.fault.OpenFault.TheVariants as fault
use Rattle.sg_open.specs.inside.Finding.{IsDamage}

-- a good row, and then on
pub bad_on : {A : Type 0} (keeps : List A → A → Bool) (rows : List A) (at : ℕ) (row : A)
    → first_bad keeps (take at rows) (drop at rows) ≡ first_bad keeps [] rows
    → take (at + 1) rows ≡ take at rows ++ row ∷ [] → drop at rows ≡ row ∷ drop (at + 1) rows → keeps (take at rows) row ≡ true
    → first_bad keeps (take (at + 1) rows) (drop (at + 1) rows) ≡ first_bad keeps [] rows
bad_on keeps rows at row inv front rest good =
    let step : first_bad keeps (take at rows) (row ∷ drop (at + 1) rows) ≡ first_bad keeps (take at rows ++ row ∷ []) (drop (at + 1) rows)
    = ap (λ b. cond b (first_bad keeps (take at rows ++ row ∷ []) (drop (at + 1) rows)) (Some (length (take at rows)))) good in
    ap (λ l. first_bad keeps l (drop (at + 1) rows)) front ∙ (sym step ∙ (sym (ap (first_bad keeps (take at rows)) rest) ∙ inv))

-- a bad row
pub bad_here : {A : Type 0} (keeps : List A → A → Bool) (rows : List A) (at : ℕ) (row : A)
    → first_bad keeps (take at rows) (drop at rows) ≡ first_bad keeps [] rows → at < length rows
    → drop at rows ≡ row ∷ drop (at + 1) rows → keeps (take at rows) row ≡ false
    → first_bad keeps [] rows ≡ Some at
bad_here keeps rows at row inv within rest bad =
    let step : first_bad keeps (take at rows) (row ∷ drop (at + 1) rows) ≡ Some (length (take at rows))
    = ap (λ b. cond b (first_bad keeps (take at rows ++ row ∷ []) (drop (at + 1) rows)) (Some (length (take at rows)))) bad in
    let many : length (take at rows) ≡ at = grind (arith, common_steps) in
    sym inv ∙ (ap (first_bad keeps (take at rows)) rest ∙ (step ∙ ap (λ n. Some n) many))

-- the refusal of a bad row
pub damage_here : (table at : ℕ) (found : Option ℕ) (told : OpenFault) → found ≡ Some at → told ≡ fault.Damaged table (at + 1) → IsDamage told (at_table table found)
damage_here table at found told f t = rw (f, t) refl

-- the refusal of the first table that has a bad row
pub damage_first : (told : OpenFault) (damage : Option (ℕ × ℕ)) (others : List (Option (ℕ × ℕ))) → IsDamage told damage → IsDamage told (first_of (damage ∷ others))
damage_first fault.Empty damage others d = absurd d
damage_first (fault.Damaged table row) damage others d = ap (λ o. first_of (o ∷ others)) d
damage_first fault.NoMemory damage others d = tt
