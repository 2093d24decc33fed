-- The first value that lines give, where all that give one give the same.
use Rattle.std.proofs.Common.{◌≡◌, Bool, true, false, ◌||◌, cond, List, [], ◌∷◌, Option, Some, None, refl, ap, ◌∙◌}
use Rattle.std.specs.List.{list_any}
use Rattle.std.specs.Option.{option_map_or}
use Rattle.sg_lists.proofs.Each.{EachOf}
use Rattle.sg_check.specs.Facts.{first_given}

-- the item gives this value where it passes, and else none
abbrev pub Gives : {A B : Type 0} → (A → Option B) → (A → Bool) → B → A → Type 0
Gives given test v x = given x ≡ cond (test x) (Some v) None

pub given-value : {A B : Type 0} (given : A → Option B) (test : A → Bool) (v : B) (xs : List A) → EachOf (Gives given test v) xs → first_given given xs ≡ cond (list_any test xs) (Some v) None
given-value given test v [] all = refl
given-value {A} {B} given test v (x ∷ xs) all =
    ap (λ (o : Option B). option_map_or Some o (first_given given xs)) all.0 ∙ at_first (test x) (given-value given test v xs all.1)
  where
    at_first : (b : Bool) → first_given given xs ≡ cond (list_any test xs) (Some v) None
        → option_map_or Some (cond b (Some v) None) (first_given given xs) ≡ cond (b || list_any test xs) (Some v) None
    at_first true e = refl
    at_first false e = e
