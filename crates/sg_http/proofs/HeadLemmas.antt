-- A head ends with a line feed, and whether one stands at the front does not depend on what follows.
use Rattle.std.proofs.Common.{◌≡◌, ◌⊎◌, inl, inr, ℕ, ◌+◌, ◌<◌, ◌≤◌, false, List, [], ◌∷◌, ◌++◌, length, refl, sym, ap, ◌∙◌, append_assoc, append-nil, arith, length-append}
use Rattle.std.proofs.lemmas.Bool.Decides.{nat_tests}
use Rattle.std.proofs.lemmas.List.Sums.{sum_by-append}
use Rattle.std.specs.Prelude.{cond, ◌==◌}
use Rattle.std.specs.List.{flat_map}
use Rattle.httparse.specs.Grammar.{LineEnd, crlf, lf, print_end, print_blank, print_version, print_field, RequestHead, print_request, ReadsRequest}
use Rattle.sg_http.specs.Leads.{HasNoHead, feeds}
use Rattle.sg_http.proofs.SplitLemmas.{front_or_behind, end_behind}

pub feeds-append : (xs ys : List ℕ) → feeds (xs ++ ys) ≡ feeds xs + feeds ys
feeds-append xs ys = sum_by-append (λ b. cond (b == 10) 1 0) xs ys

print_end-ends : (end : LineEnd) → (front : List ℕ) × (print_end end ≡ front ++ 10 ∷ [])
print_end-ends crlf = (13 ∷ [], refl)
print_end-ends lf = ([], refl)

cons-append : (x : ℕ) (a b : List ℕ) → (x ∷ a) ++ b ≡ x ∷ (a ++ b)
cons-append x a b = refl

-- a head is some bytes and then a line feed
pub print_request-ends : (head : RequestHead) → (front : List ℕ) × (print_request head ≡ front ++ 10 ∷ [])
unfolding print_request
print_request-ends head =
    let last = print_end-ends head.last in
    group (print_blank head.blank) head.method head.target (print_version head.minor) (print_end head.line_end)
    (flat_map print_field head.fields) (print_end head.last) last.0 last.1
  where
    regroup : (a b c d e f g : List ℕ) → (a ++ b ++ 32 ∷ c ++ 32 ∷ d ++ e ++ (f ++ (g ++ 10 ∷ [])))
        ≡ (a ++ b ++ 32 ∷ c ++ 32 ∷ d ++ e ++ (f ++ g)) ++ 10 ∷ []
    regroup a b c d e f g = simp (append_assoc, cons-append)

    group : (a b c d e f z g : List ℕ) → z ≡ g ++ 10 ∷ [] → (front : List ℕ) × (a ++ b ++ 32 ∷ c ++ 32 ∷ d ++ e ++ (f ++ z) ≡ front ++ 10 ∷ [])
    group a b c d e f z g same =
        (a ++ b ++ 32 ∷ c ++ 32 ∷ d ++ e ++ (f ++ g), ap (λ (l : List ℕ). a ++ b ++ 32 ∷ c ++ 32 ∷ d ++ e ++ (f ++ l)) same ∙ regroup a b c d e f g)

-- what ends with a line feed has one
feeds-end : (m : List ℕ) → feeds (m ++ 10 ∷ []) ≡ feeds m + 1
feeds-end m = feeds-append m (10 ∷ [])

-- a head that the bytes behind have a part of would bring a line feed
pub head_in_front : (bytes more : List ℕ) (head : RequestHead) (rest : List ℕ) → ReadsRequest (bytes ++ more) head rest
    → ((left : List ℕ) × ReadsRequest bytes head left)
    ⊎ ((m : List ℕ) × (print_request head ≡ bytes ++ m) × (more ≡ m ++ rest) × (0 < feeds m))
head_in_front bytes more head rest reads =
    let ends = print_request-ends head in
    cut bytes more (print_request head) rest reads.0 ends.0 ends.1 (front_or_behind bytes more (print_request head) rest reads.1)
  where
    cut : (bytes more text rest : List ℕ) → {P : Type 0} → P → (front : List ℕ) → text ≡ front ++ 10 ∷ []
        → ((m : List ℕ) × (bytes ≡ text ++ m) × (rest ≡ m ++ more)) ⊎ ((m : List ℕ) × (text ≡ bytes ++ m) × (more ≡ m ++ rest))
        → ((left : List ℕ) × (P × (bytes ≡ text ++ left)))
        ⊎ ((m : List ℕ) × (text ≡ bytes ++ m) × (more ≡ m ++ rest) × (0 < feeds m))
    cut bytes more text rest p front ends (inl c) = inl (c.0, (p, c.1))
    cut bytes more text rest p front ends (inr c) = elim (end_behind 10 bytes c.0 front (sym c.1 ∙ ends)) [
      | inl none ↦ inl ([], (p, sym (append-nil text ∙ c.1 ∙ ap (λ (l : List ℕ). bytes ++ l) none ∙ append-nil bytes)))
      | inr some ↦ inr (c.0, c.1, c.2, omega (arith, ap feeds some.1, feeds-end some.0))
    ]

-- bytes without a line feed bring no head
pub HasNoHead-unfed : (bytes more : List ℕ) → HasNoHead bytes → feeds more ≡ 0 → HasNoHead (bytes ++ more)
HasNoHead-unfed bytes more none unfed head rest reads = elim (head_in_front bytes more head rest reads) [
  | inl front ↦ none head front.0 front.1
  | inr behind ↦ absurd (omega (arith, behind.3, unfed, ap feeds behind.2, feeds-append behind.0 rest))
]

-- no head stands in front of no bytes
pub HasNoHead-nil : HasNoHead []
HasNoHead-nil head rest reads = absurd (no_feed (print_request head) rest (print_request-ends head) reads.1)
  where
    no_feed : (text rest : List ℕ) → ((front : List ℕ) × (text ≡ front ++ 10 ∷ [])) → [] ≡ text ++ rest → ⊥
    no_feed text rest ends e = omega (arith, ap (λ (l : List ℕ). length l) e, length-append text rest, ap (λ (l : List ℕ). length l) ends.1, length-append ends.0 (10 ∷ []))

-- a number up to the limit of a head that is not the limit
pub not_full : (n : ℕ) → n ≤ 8192 → (n == 8192) ≡ false → n < 8192
not_full n high other = grind (arith, nat_tests)
