-- Lists that are read item by item.
use Rattle.std.proofs.Common.{◌≡◌, List, [], ◌∷◌, ◌++◌, length, Option, Some, None, option_map, refl, sym, ap, ◌∙◌, append-nil}
use Rattle.serde_json.specs.Data.{Data}
use Rattle.serde_json.specs.View.{items_view}
use Rattle.serde_json.specs.declared.value.Value.{Value}
use Rattle.sg_asks.specs.Members.{each_by}
use Rattle.sg_asks.specs.Asks.{pair_in}

-- what is read of the items that are left goes behind what was read
abbrev pub onto : {A : Type 0} → List A → Option (List A) → Option (List A)
onto done rest = option_map (λ others. done ++ others) rest

-- all items were read
pub each-all : {A : Type 0} (read : Data → Option A) (done : List A) (left : List Value) (all : Option (List A))
    → left ≡ [] → onto done (each_by read (items_view left)) ≡ all → Some done ≡ all
each-all read done left all none so_far = sym (ap (λ l. onto done (each_by read (items_view l))) none ∙ ap Some (append-nil done)) ∙ so_far

-- a list that isn't of two is no mark
pub not_two : (vs : List Value) → (length vs ≡ 2 → ⊥) → pair_in (items_view vs) ≡ None
not_two [] other = refl
not_two (a ∷ []) other = refl
not_two (a ∷ b ∷ []) other = absurd (other refl)
not_two (a ∷ b ∷ c ∷ vs) other = refl
