-- Bytes that are no line have no form of a record's line, and are no word.
use Rattle.std.proofs.Common.{◌≡◌, ℕ, zero, suc, ◌-◌, ◌<◌, ◌≤◌, ◌==◌, List, [], ◌∷◌, ◌++◌, bytes_eq, length, take, None, refl, sym, subst, ap, ◌∙◌, append-nil, arith, get_or, inl, inr}
use Rattle.std.specs.Prelude.{Bool, true, false, ◌&&◌, ◌||◌, nat_lt}
use Rattle.std.specs.List.{list_any}
use Rattle.std.specs.Io.BufRead.{ends_with_byte}
use Rattle.std.proofs.lemmas.Bool.{ne_eqb}
use Rattle.std.proofs.lemmas.List.{take-append-le, take_all}
use Rattle.std.proofs.lemmas.Slice.Eq.{bytes_eq-Decides}
use Rattle.std.proofs.Math.Bool.{and-false}
use Rattle.sg_outside.specs.TextLines.{HasNoFeed}
use Rattle.sg_driver.specs.Judging.{IsNoLine}
use Rattle.sg_forms.specs.Reading.{line_of}
use Rattle.sg_forms.proofs.LineLaws.{cut_lines, open_lines}

-- no byte is a line feed, as a test
no_feed : (text : List ℕ) → HasNoFeed text → list_any (λ byte. byte == 10) text ≡ false
no_feed [] p = refl
no_feed (x ∷ xs) p = ap (λ b. b || list_any (λ byte. byte == 10) xs) (ne_eqb x 10 p.0) ∙ no_feed xs p.1

-- no byte of them is a line feed, wherever it stands
no_feed-at : (text : List ℕ) (at : ℕ) → HasNoFeed text → at < length text → get_or text at 0 ≡ 10 → ⊥
no_feed-at [] at p inside feed = absurd (omega arith)
no_feed-at (x ∷ xs) zero p inside feed = p.0 feed
no_feed-at (x ∷ xs) (suc at) p inside feed = no_feed-at xs at p.1 (omega arith) feed

-- the last byte is no line feed
open_end : (text : List ℕ) → HasNoFeed text → ends_with_byte 10 text ≡ false
open_end [] p = refl
open_end (x ∷ xs) p =
    let last = length (x ∷ xs) - 1 in
    let other = ne_eqb (get_or (x ∷ xs) last 0) 10 (no_feed-at (x ∷ xs) last p (omega arith)) in
    ap (λ b. nat_lt 0 (length (x ∷ xs)) && b) other ∙ and-false (nat_lt 0 (length (x ∷ xs)))

pub no_form : (text : List ℕ) → IsNoLine text → (version : ℕ) → line_of version text ≡ None
no_form text none version =
    elim none.ends [
      | inl no_more ↦
          let same : text ≡ none.front = none.whole ∙ (ap (λ l. none.front ++ l) no_more ∙ append-nil none.front) in
          open_lines version text (open_end text (subst HasNoFeed (sym same) none.unended))
      | inr full ↦ ap (line_of version) none.whole ∙ cut_lines version none.front none.more full (no_feed none.front none.unended)
    ]

-- A WORD

first_unfed : (number : ℕ) (text : List ℕ) → HasNoFeed text → HasNoFeed (take number text)
first_unfed zero text p = tt
first_unfed (suc number) [] p = tt
first_unfed (suc number) (x ∷ xs) p = (p.0, first_unfed number xs p.1)

-- no line feed is among as many bytes at their front as a line may have
pub no_feed-first : (text : List ℕ) → IsNoLine text → HasNoFeed (take 16384 text)
no_feed-first text none =
    elim none.ends [
      | inl no_more ↦
          let same : none.front ≡ text = sym (none.whole ∙ (ap (λ l. none.front ++ l) no_more ∙ append-nil none.front)) in
          first_unfed 16384 text (subst HasNoFeed same none.unended)
      | inr full ↦
          let same : take 16384 none.front ≡ take 16384 text = sym (ap (take 16384) none.whole ∙ take-append-le 16384 none.front none.more (omega (arith, full))) in
          subst HasNoFeed same (first_unfed 16384 none.front none.unended)
    ]

-- so they are no short word that has one
pub no_word : (text word : List ℕ) → IsNoLine text → length word ≤ 16384 → (HasNoFeed word → ⊥) → bytes_eq text word ≡ false
no_word text word none short fed = by_test (bytes_eq text word) refl
  where
    by_test : (b : Bool) → bytes_eq text word ≡ b → b ≡ false
    by_test false e = refl
    by_test true e =
        let same : take 16384 text ≡ word = ap (take 16384) ((bytes_eq-Decides text word).0 e) ∙ take_all 16384 word short in
        absurd (fed (subst HasNoFeed same (no_feed-first text none)))
