-- The races of a style: they rise, and each is one of the plan.
use Rattle.std.proofs.Common.{◌≡◌, ℕ, zero, suc, ◌+◌, ◌-◌, ◌<◌, ◌≤◌, ◌==◌, nat_le, nat_lt, Bool, true, false, ◌&&◌, inl, inr, not, List, [], ◌∷◌, ◌++◌, length, Option, Some, None, refl, sym, subst, ap, ◌∙◌, arith}
use Rattle.std.specs.List.{list_any}
use Rattle.std.specs.Option.{option_map_or}
use Rattle.std.specs.Prelude.{slice_get}
use Rattle.std.proofs.lemmas.Bool.{and_parts, eqb-true, leb-true, ltb-true, or_cases}
use Rattle.std.proofs.lemmas.Option.{slice_get_within}
use Rattle.sg_lists.proofs.Tests.{list_any-slice_get}
use Rattle.sg_plan.proofs.LimitLaws.{passes_tests}
use Rattle.sg_plan.proofs.Lists.{first_fault-None}
use Rattle.sg_plan.specs.Ballots.{ballot_has, races_of_ballot, races_of_style, style_has, style_of_ballot}
use Rattle.sg_plan.specs.Limits.{each_keeps, fault_of, rises, style_fits, style_keeps, styles_have}
use Rattle.sg_plan.specs.Names.{is_name_word}
use Rattle.sg_plan.specs.declared.plan.Plan.{Plan}
use Rattle.sg_plan.specs.declared.plan.Style.{Style}

-- RISING NUMBERS

-- one of them is not before the least, and before the end
pub rises-within : (least end x : ℕ) (list : List ℕ) → rises least end list ≡ true → list_any (λ r. r == x) list ≡ true → (least ≤ x) × (x < end)
rises-within least end x [] up found = cc
rises-within least end x (n ∷ ns) up found =
    let parts = and_parts (nat_le least n && nat_lt n end) (rises (n + 1) end ns) up in
    let low = and_parts (nat_le least n) (nat_lt n end) parts.0 in
    elim (or_cases (n == x) (list_any (λ r. r == x) ns) found) [
      | inl here ↦
          let same : n ≡ x = eqb-true n x here in
          (omega (arith, leb-true least n low.0, same), omega (arith, ltb-true n end low.1, same))
      | inr later ↦
          let rest = rises-within (n + 1) end x ns parts.1 later in
          (omega (arith, leb-true least n low.0, rest.0), rest.1)
    ]

-- the first is none of the others
pub rises-once : (n end : ℕ) (ns : List ℕ) → rises (n + 1) end ns ≡ true → list_any (λ r. r == n) ns ≡ false
rises-once n end ns up = by_case (list_any (λ r. r == n) ns) refl
  where
    by_case : (b : Bool) → list_any (λ r. r == n) ns ≡ b → list_any (λ r. r == n) ns ≡ false
    by_case false e = e
    by_case true e = absurd (omega (arith, (rises-within (n + 1) end n ns up e).0))

-- there are no more than lie between
pub rises-length : (least end : ℕ) (list : List ℕ) → rises least end list ≡ true → length list ≤ end - least
rises-length least end [] up = omega arith
rises-length least end (n ∷ ns) up =
    let parts = and_parts (nat_le least n && nat_lt n end) (rises (n + 1) end ns) up in
    let low = and_parts (nat_le least n) (nat_lt n end) parts.0 in
    omega (arith, leb-true least n low.0, ltb-true n end low.1, rises-length (n + 1) end ns parts.1)

-- THE RACES OF A STYLE

-- each of the items was tested against those before it
each_at : (keeps : List Style → Style → Bool) (earlier xs : List Style) (at : ℕ) (x : Style) → each_keeps keeps earlier xs ≡ true → slice_get xs at ≡ Some x
    → (before : List Style) × (keeps before x ≡ true)
each_at keeps earlier [] at x all is = absurd (omega (arith, slice_get_within [] at x is))
each_at keeps earlier (y ∷ ys) zero x all is =
    let same : y ≡ x = cc in
    (earlier, ap (keeps earlier) (sym same) ∙ (and_parts (keeps earlier y) (each_keeps keeps (earlier ++ y ∷ []) ys) all).0)
each_at keeps earlier (y ∷ ys) (suc at) x all is =
    each_at keeps (earlier ++ y ∷ []) ys at x (and_parts (keeps earlier y) (each_keeps keeps (earlier ++ y ∷ []) ys) all).1 is

pub style_rises : (plan : Plan) (style : ℕ) → fault_of plan ≡ None → rises 0 (length plan.races) (races_of_style plan style) ≡ true
style_rises plan style fine = at_style (slice_get plan.styles style) refl
  where
    tested : each_keeps (style_fits (length plan.races)) [] plan.styles ≡ true
    tested = (first_fault-None (style_fits (length plan.races)) plan.styles (passes_tests plan fine).styles).1

    at_style : (o : Option Style) → slice_get plan.styles style ≡ o → rises 0 (length plan.races) (option_map_or (λ (s : Style). s.races) o []) ≡ true
    at_style None e = refl
    at_style (Some s) e =
        let found = each_at (style_fits (length plan.races)) [] plan.styles style s tested e in
        let keeps = (and_parts (nat_lt (length found.0) 32) (style_keeps (length plan.races) found.0 s) found.1).1 in
        let parts = (and_parts (is_name_word s.name && not (styles_have found.0 s.name)) (nat_le 1 (length s.races) && rises 0 (length plan.races) s.races) keeps).1 in
        (and_parts (nat_le 1 (length s.races)) (rises 0 (length plan.races) s.races) parts).1

-- A RACE OF A BALLOT

-- it is one of the plan
pub has-in_plan : (plan : Plan) (ballot race : ℕ) → fault_of plan ≡ None → ballot_has plan ballot race ≡ true → race < length plan.races
has-in_plan plan ballot race fine has =
    by_style (style_of_ballot plan ballot) has
  where
    by_style : (o : Option ℕ) → option_map_or (style_has plan race) o false ≡ true → race < length plan.races
    by_style None e = cc
    by_style (Some style) e = (rises-within 0 (length plan.races) race (races_of_style plan style) (style_rises plan style fine) e).1

-- a ballot has the races of its list
pub listed-has : (plan : Plan) (ballot at race : ℕ) (races : List ℕ) → races ≡ races_of_ballot plan ballot → slice_get races at ≡ Some race → ballot_has plan ballot race ≡ true
listed-has plan ballot at race races are is = has_in (style_of_ballot plan ballot) ∙ list_any-slice_get (races_of_ballot plan ballot) at race (subst (λ (l : List ℕ). slice_get l at ≡ Some race) are is)
  where
    has_in : (o : Option ℕ) → option_map_or (style_has plan race) o false ≡ list_any (λ r. r == race) (option_map_or (races_of_style plan) o [])
    has_in None = refl
    has_in (Some style) = refl
