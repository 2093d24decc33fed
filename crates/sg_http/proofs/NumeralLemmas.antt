-- A number of any length, read with a cap.
use Rattle.std.proofs.Common.{◌≡◌, ℕ, ◌+◌, ◌*◌, ◌-◌, ◌<◌, ◌≤◌, Bool, true, false, List, [], ◌∷◌, min, refl, sym, ap, ◌∙◌, arith, Ok, Err, Result, length, drop, inl, inr}
use Rattle.std.proofs.lemmas.List.{drop_all}
use Rattle.std.proofs.lemmas.Bool.{cond-false, cond-true, cases_lt}
use Rattle.std.proofs.lemmas.Bool.Decides.{nat_tests}
use Rattle.std.specs.Prelude.{nat_le, nat_lt, ◌&&◌, if◌then◌else◌}
use Rattle.std.specs.List.{list_all}
use Rattle.std.specs.Char.{is_ascii_digit}
use Rattle.sg_http.specs.Lengths.{number_from, numeral}
use Rattle.sg_http.specs.declared.refusal.Refusal.{Refusal}
use Rattle.sg_http.specs.declared.refusal.Refusal.TheVariants.{BadLength, Size}

-- the number, or why it is none
abbrev pub closed : ℕ → Result ℕ Refusal
closed n = if nat_le n 65536 then Ok n else Err Size

-- reading goes on from a number, which stays at the cap
abbrev pub capped : ℕ → List ℕ → Result ℕ Refusal
capped n [] = closed n
capped n (c ∷ cs) = if is_ascii_digit c then capped (min (10 * n + (c - 48)) 65537) cs else Err BadLength

-- reading without a cap
abbrev pub uncapped : ℕ → List ℕ → Result ℕ Refusal
uncapped n cs = if list_all is_ascii_digit cs then closed (number_from n cs) else Err BadLength

min_small : (n : ℕ) → n ≤ 65537 → min n 65537 ≡ n
min_small n small = omega arith

pub closed_large : (n : ℕ) → 65536 < n → closed n ≡ Err Size
closed_large n large = cond-false (nat_le n 65536) (Ok n) (Err Size) (grind (arith, nat_tests))

pub closed_small : (n : ℕ) → n ≤ 65536 → closed n ≡ Ok n
closed_small n small = cond-true (nat_le n 65536) (Ok n) (Err Size) (grind (arith, nat_tests))

closed-capped : (n : ℕ) → closed (min n 65537) ≡ closed n
closed-capped n = elim (cases_lt 65536 n) [
  | inl large ↦ closed_large (min n 65537) (omega arith) ∙ sym (closed_large n large)
  | inr small ↦ ap closed (min_small n (omega arith))
]

by_digit : (b l : Bool) (x z : Result ℕ Refusal) → x ≡ (if l then z else Err BadLength)
    → (if b then x else Err BadLength) ≡ (if (b && l) then z else Err BadLength)
by_digit true l x z e = e
by_digit false l x z e = refl

pub capped-uncapped : (n : ℕ) (cs : List ℕ) → capped (min n 65537) cs ≡ uncapped n cs
capped-uncapped n [] = closed-capped n
capped-uncapped n (c ∷ cs) =
    let same : min (10 * min n 65537 + (c - 48)) 65537 ≡ min (10 * n + (c - 48)) 65537 = omega arith in
    by_digit (is_ascii_digit c) (list_all is_ascii_digit cs) (capped (min (10 * min n 65537 + (c - 48)) 65537) cs) (closed (number_from (10 * n + (c - 48)) cs))
    (ap (λ m. capped m cs) same ∙ capped-uncapped (10 * n + (c - 48)) cs)

pub numeral-uncapped : (c : ℕ) (cs : List ℕ) → numeral (c ∷ cs) ≡ uncapped 0 (c ∷ cs)
numeral-uncapped c cs =
    let some : nat_lt 0 (length (c ∷ cs)) ≡ true = grind (arith, nat_tests) in
    ap (λ (b : Bool). if (b && list_all is_ascii_digit (c ∷ cs)) then closed (number_from 0 (c ∷ cs)) else Err BadLength) some

-- what was read of all digits is what they write
pub numeral-read : (value : List ℕ) (n at : ℕ) → 0 < length value → length value ≤ at
    → capped n (drop at value) ≡ capped 0 value → numeral value ≡ closed n
numeral-read [] n at some past e = absurd (omega arith)
numeral-read (c ∷ cs) n at some past e =
    numeral-uncapped c cs ∙ (sym (capped-uncapped 0 (c ∷ cs)) ∙ (sym e ∙ ap (capped n) (drop_all at (c ∷ cs) past)))
