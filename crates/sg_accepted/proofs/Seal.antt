-- Kind seal: a seal over the bytes of all lines before it.
use Rattle.std.proofs.Common.{◌≡◌, ℕ, Bool, true, false, not, List, [], ◌∷◌, ◌++◌, length, refl, sym, ap, ◌∙◌, arith}
use Rattle.std.proofs.lemmas.List.{length-append}
use Rattle.std.proofs.lemmas.Slice.Eq.{bytes_eq-Decides}
use Rattle.sha2.specs.Sha256.{sha256}
use Rattle.sg_lists.proofs.Each.{EachOf, of-into}
use Rattle.sg_commit.specs.declared.Digest.{Digest}
use Rattle.sg_plan.specs.declared.plan.Plan.{Plan}
use Rattle.sg_forms.specs.Said.{Said}
use Rattle.sg_forms.specs.Said.Said.{Seal}
use Rattle.sg_forms.specs.Spelling.{spelling}
use Rattle.sg_grammar.specs.Placed.{Placed}
use Rattle.sg_grammar.specs.Placed.Placed.{SealAt}
use Rattle.sg_grammar.specs.Walk.{Posted}
use Rattle.sg_record.specs.Writing.{text_in}
use Rattle.sg_check.specs.Kinds.{bad_seal, posted_bytes, is_bad}
use Rattle.sg_check.specs.declared.judged.Kind.TheVariants as kind
use Rattle.sg_post.specs.Posted.{seal_over}
use Rattle.sg_accepted.proofs.Late.{Good, good-append, good-never, good-one}
use Rattle.sg_record.specs.Places.{posts}

-- lists in a row are as long as others whose parts are
pub both-length : {A B : Type 0} (a b : List A) (c d : List B) → length a ≡ length c → length b ≡ length d → length (a ++ b) ≡ length (c ++ d)
both-length a b c d p q = omega (arith, length-append a b, length-append c d, p, q)

-- the bytes of lines in their places are their text
pub bytes-posts : (version : ℕ) (lines : List Said) (places : List Placed) → length lines ≡ length places → posted_bytes (posts version lines places) ≡ text_in version lines
bytes-posts version [] places same = refl
bytes-posts version (said ∷ lines) [] same = absurd (omega (arith, same))
bytes-posts version (said ∷ lines) (placed ∷ places) same = ap (λ (l : List ℕ). spelling version said ++ l) (bytes-posts version lines places (omega (arith, same)))

pub posts-append : (version : ℕ) (lines more : List Said) (places others : List Placed) → length lines ≡ length places → posts version (lines ++ more) (places ++ others) ≡ posts version lines places ++ posts version more others
posts-append version [] more [] others same = refl
posts-append version [] more (p ∷ ps) others same = absurd (omega (arith, same))
posts-append version (s ∷ ls) more [] others same = absurd (omega (arith, same))
posts-append version (s ∷ ls) more (p ∷ ps) others same = ap (λ (l : List Posted). record { bytes = spelling version s; line = p } ∷ l) (posts-append version ls more ps others (omega (arith, same)))

abbrev pub is_seal : Placed → Bool
is_seal (SealAt number digest) = true
is_seal line = false

no_seal : (plan : Plan) (before : List Posted) (line : Posted) → not (is_seal line.line) ≡ true → is_bad kind.Seal plan before line ≡ false
no_seal plan before line other = at_line line.line other
  where
    at_line : (p : Placed) → not (is_seal p) ≡ true → bad_seal (posted_bytes before) p ≡ false
    at_line (SealAt number digest) e = cc
    at_line p e = refl

-- lines without a seal
pub unsealed-good : (plan : Plan) (before lines : List Posted) → EachOf (λ (l : Posted). not (is_seal l.line) ≡ true) lines → Good (is_bad kind.Seal plan) before lines
unsealed-good plan before lines all =
    good-never (is_bad kind.Seal plan) before lines (of-into (λ (l : Posted). not (is_seal l.line) ≡ true) (λ (l : Posted). (front : List Posted) → is_bad kind.Seal plan front l ≡ false) lines (λ line is front. no_seal plan front line is) all)

-- a seal over the text before it
pub seal-good : (plan : Plan) (before : List Posted) (bytes : List ℕ) (number : ℕ) (digest : Digest) → digest.0 ≡ sha256 (posted_bytes before)
    → Good (is_bad kind.Seal plan) before (record { bytes = bytes; line = SealAt number digest } ∷ [])
seal-good plan before bytes number digest is =
    good-one (is_bad kind.Seal plan) before (record { bytes = bytes; line = SealAt number digest }) (ap not ((bytes_eq-Decides digest.0 (sha256 (posted_bytes before))).1 is))

-- a section: its lines, and the seal over them and all lines before
pub section-good : (plan : Plan) (version : ℕ) (before lines : List Said) (places_before places : List Placed) (number : ℕ)
    → version ≡ plan.version → length before ≡ length places_before → length lines ≡ length places → EachOf (λ (l : Posted). not (is_seal l.line) ≡ true) (posts version lines places)
    → Good (is_bad kind.Seal plan) (posts version before places_before)
    (posts version lines places ++ record { bytes = spelling version (Seal number (seal_over plan (before ++ lines))); line = SealAt number (seal_over plan (before ++ lines)) } ∷ [])
section-good plan version before lines places_before places number is first second all =
    good-append (is_bad kind.Seal plan) (posts version before places_before) (posts version lines places) _ (unsealed-good plan (posts version before places_before) (posts version lines places) all)
    (seal-good plan (posts version before places_before ++ posts version lines places) (spelling version (Seal number (seal_over plan (before ++ lines)))) number (seal_over plan (before ++ lines))
    (ap sha256 (ap (λ (v : ℕ). text_in v (before ++ lines)) (sym is)
    ∙ sym (ap posted_bytes (sym (posts-append version before lines places_before places first)) ∙ bytes-posts version (before ++ lines) (places_before ++ places) (both-length before lines places_before places first second)))))
