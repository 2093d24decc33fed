-- How the exponents are found race by race, and written.
use Rattle.std.proofs.Common.{◌≡◌, ℕ, zero, suc, ◌+◌, ◌-◌, ◌<◌, inl, inr, List, [], ◌∷◌, ◌++◌, codes, refl, sym, subst, ap, ◌∙◌, arith}
use Rattle.std.proofs.lemmas.Bool.{cases_lt}
use Rattle.sg_grammar.specs.Due.{numbered}
use Rattle.sg_parts.specs.Given.{AreParts, Given}
use Rattle.sg_odds.specs.Answers.{IsBound, IsFound}
use Rattle.sg_odds.specs.declared.found.OddsFound.TheVariants as found
use Rattle.sg_recount.proofs.Each.{each_none, each_one}
use Rattle.sg_reports.specs.court.Odds.{IsFullRace, exponent_of, exponents_text}
use Rattle.sg_reports.specs.court.Texts.{numbers_line}
use Rattle.sg_reports.specs.court.inside.Finding.{HasExponents, values_text}

-- no race has one yet
pub exponents_none : (given : Given) (values : List ℕ) → AreParts given → values ≡ [] → HasExponents given 0 values
exponents_none given values parts none = record {
  parts = parts;
  full = λ race less. absurd (omega (arith, less));
  bound = λ race less. absurd (omega (arith, less));
  values_are = none ∙ sym (each_none (λ race. exponent_of given race ∷ []));
}

-- one more race has
pub exponents_more : (given : Given) (race value : ℕ) (values values' : List ℕ) → HasExponents given race values → IsFound given race (found.Exponent value) → IsBound given (found.Exponent value)
    → values' ≡ values ++ value ∷ [] → HasExponents given (race + 1) values'
exponents_more given race value values values' has is bound grown = record {
  parts = has.parts;
  full = λ r less. up_to (λ n. IsFullRace given n) race has.full is.0 r less;
  bound = λ r less. up_to (λ n. IsBound given (found.Exponent (exponent_of given n))) race has.bound (subst (λ v. IsBound given (found.Exponent v)) is.1 bound) r less;
  values_are = each_one (exponent_of given) race values values' value has.values_are is.1 grown;
}
  where
    up_to : (P : ℕ → Type 0) (n : ℕ) → ((k : ℕ) → k < n → P k) → P n → (k : ℕ) → k < n + 1 → P k
    up_to P n below here k less = elim (cases_lt k n) [ inl before ↦ below k before | inr after ↦ subst P (omega (arith, less, after)) here ]

-- the lines of the values are those of the races
values_numbered : (E : ℕ → ℕ) (at count : ℕ) → values_text at (numbered (λ race. E race ∷ []) at count) ≡ numbered (λ race. numbers_line (codes "exponent") (race ∷ E race ∷ [])) at count
unfolding numbered
values_numbered E at zero = refl
values_numbered E at (suc count) = ap (λ (l : List ℕ). numbers_line (codes "exponent") (at ∷ E at ∷ []) ++ l) (values_numbered E (at + 1) count)

pub exponents_are : (given : Given) (count : ℕ) (values : List ℕ) → HasExponents given count values → values_text 0 values ≡ exponents_text given count
exponents_are given count values has = ap (values_text 0) has.values_are ∙ values_numbered (exponent_of given) 0 (count - 0)
