-- Texts of lists, and their counts.
use Rattle.std.proofs.Common.{◌≡◌, ℕ, ◌+◌, Bool, true, false, cond, List, [], ◌∷◌, ◌++◌, bytes_eq, refl, ap, ◌∙◌, arith}
use Rattle.std.specs.Str.{IsUtf8, is_utf8}
use Rattle.std.proofs.lemmas.Grind.{common_steps}
use Rattle.std.proofs.lemmas.Str.{IsUtf8-from_is_utf8, is_utf8-from_IsUtf8}
use Rattle.std.proofs.lemmas.Slice.Eq.{bytes_eq-Decides}
use Rattle.sg_lists.proofs.Counting.{count_by-append}
use Rattle.sg_lists.proofs.Tests.{list_all-slice_get}
use Rattle.sg_histories.specs.ValidRows.{climbs, count_told}

pub no_text : (bs : List ℕ) → (IsUtf8 bs → ⊥) → is_utf8 bs ≡ false
no_text bs h = by_test (is_utf8 bs) refl
  where
    by_test : (b : Bool) → is_utf8 bs ≡ b → is_utf8 bs ≡ false
    by_test true e = absurd (h (IsUtf8-from_is_utf8 bs e))
    by_test false e = e

pub count_more : (text : List ℕ) (told : List (List ℕ)) (word : List ℕ) → count_told text (told ++ word ∷ []) ≡ count_told text told + cond (bytes_eq word text) 1 0
count_more text told word = count_by-append (λ t. bytes_eq t text) told (word ∷ []) ∙ grind (arith, common_steps)

pub climbs_at : {A : Type 0} (before : A → A → Bool) (xs : List A) (x row : A) → climbs before (xs ++ x ∷ []) row ≡ before x row
climbs_at before [] x row = refl
climbs_at before (y ∷ []) x row = refl
climbs_at before (y ∷ z ∷ xs) x row = climbs_at before (z ∷ xs) x row

pub ruleset counting = (list_all-slice_get, count_more)

-- bytes that are tested are a text
pub ruleset is_text = (IsUtf8-from_is_utf8)

pub ruleset texts = (no_text, is_utf8-from_IsUtf8)

-- what is no text is none of the texts
pub other_text : {A : Type 0} (act other : List ℕ) (a b : A) → (IsUtf8 act → ⊥) → is_utf8 other ≡ true → b ≡ cond (bytes_eq act other) a b
other_text {A} act other a b none u = by_test (bytes_eq act other) refl
  where
    by_test : (t : Bool) → bytes_eq act other ≡ t → b ≡ cond t a b
    by_test false e = refl
    by_test true e = absurd (none (IsUtf8-from_is_utf8 act (ap is_utf8 ((bytes_eq-Decides act other).0 e) ∙ u)))
