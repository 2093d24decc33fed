-- Bits on lines of 64: what the look-up at a number finds.
use Rattle.std.proofs.Common.{◌≡◌, ◌≢◌, ℕ, zero, suc, ◌+◌, ◌-◌, ◌*◌, ◌/◌, ◌<◌, ◌≤◌, ◌==◌, nat_le, Bool, false, ◌&&◌, inl, inr, List, [], ◌∷◌, length, map, get_or, refl, ap, ◌∙◌, arith}
use Rattle.std.proofs.lemmas.Bool.{cases_lt, le-leb, lt-leb}
use Rattle.std.proofs.lemmas.List.{get_or-drop, get_or-take}
use Rattle.std.specs.Prelude.{drop, take}
use Rattle.std.specs.List.{list_any}
use Rattle.std.proofs.Math.Bool.{and-false, or-false}
use Rattle.sg_lists.proofs.Lists.{length-take_le}
use Rattle.sg_grammar.specs.Due.{each, lines_for}
use Rattle.sg_check.specs.Facts.{bit_at}
use Rattle.sg_check.proofs.Fronts.{any-at}

-- no bit stands behind the last
get_or-past : (bits : List Bool) (at : ℕ) → length bits ≤ at → get_or bits at false ≡ false
get_or-past [] at past = refl
get_or-past (bit ∷ bits) zero past = absurd (omega (arith, past))
get_or-past (bit ∷ bits) (suc at) past = get_or-past bits at (omega (arith, past))

-- the bit of a number is among those of a line that begins at `from`
abbrev pub hits : ℕ → ℕ → List ℕ → Bool
hits number from signs = nat_le from number && bit_at signs (number - from)

-- where this is the sign of a bit, and a 1 is that of true alone
module _ (sign : Bool → ℕ) (is_sign : (b : Bool) → (sign b == 0x31) ≡ b) where
  -- the signs of the bits on a line
  abbrev pub signs_on : List Bool → ℕ → List ℕ
  signs_on bits line = map sign (take 64 (drop (64 * line) bits))

  -- the sign at a place is that of the bit
  bit_at-sign : (bits : List Bool) (at : ℕ) → bit_at (map sign bits) at ≡ get_or bits at false
  bit_at-sign [] at = refl
  bit_at-sign (bit ∷ bits) zero = is_sign bit
  bit_at-sign (bit ∷ bits) (suc at) = bit_at-sign bits at

  -- an earlier line hasn't it, nor a later one
  hits-other : (bits : List Bool) (number line : ℕ) → line ≢ number / 64 → hits number (64 * line) (signs_on bits line) ≡ false
  hits-other bits number line other =
      elim (cases_lt number (64 * line)) [
        | inl before ↦ ap (λ (b : Bool). b && bit_at (signs_on bits line) (number - 64 * line)) (lt-leb (64 * line) number before)
        | inr behind ↦
            let far : 64 ≤ number - 64 * line = omega (arith, behind, other) in
            let short : length (take 64 (drop (64 * line) bits)) ≤ 64 = length-take_le 64 (drop (64 * line) bits) in
            ap (λ (b : Bool). nat_le (64 * line) number && b)
            (bit_at-sign (take 64 (drop (64 * line) bits)) (number - 64 * line) ∙ get_or-past (take 64 (drop (64 * line) bits)) (number - 64 * line) (omega (arith, far, short)))
            ∙ and-false (nat_le (64 * line) number)
      ]

  hits-here : (bits : List Bool) (number : ℕ) → hits number (64 * (number / 64)) (signs_on bits (number / 64)) ≡ get_or bits number false
  hits-here bits number =
      let line = number / 64 in
      let within : number - 64 * line < 64 = omega arith in
      let same : 64 * line + (number - 64 * line) ≡ number = omega arith in
      ap (λ (b : Bool). b && bit_at (signs_on bits line) (number - 64 * line)) (le-leb (64 * line) number (omega arith))
      ∙ (bit_at-sign (take 64 (drop (64 * line) bits)) (number - 64 * line)
      ∙ (get_or-take 64 (drop (64 * line) bits) (number - 64 * line) false within
      ∙ (get_or-drop (64 * line) bits (number - 64 * line) false ∙ ap (λ (k : ℕ). get_or bits k false) same)))

  -- among all lines of some bits, a test that looks for the number finds its bit
  pub bits-found : {A : Type 0} (test : A → Bool) (place : ℕ → A) (bits : List Bool) (number : ℕ)
      → ((line : ℕ) → test (place line) ≡ hits number (64 * line) (signs_on bits line)) → number < length bits
      → list_any test (each (λ line. place line ∷ []) 0 (lines_for (length bits))) ≡ get_or bits number false
  bits-found test place bits number looks within =
      any-at test (λ line. place line ∷ []) 0 (lines_for (length bits) - 0) (number / 64) (omega arith) (omega (arith, within))
      (λ line after before other. or-false (test (place line)) ∙ (looks line ∙ hits-other bits number line other))
      ∙ (or-false (test (place (number / 64))) ∙ (looks (number / 64) ∙ hits-here bits number))
