-- Words and digits that are written one by one.
use Rattle.std.proofs.Common.{◌≡◌, ◌⊎◌, inl, inr, ℕ, ◌<◌, ◌==◌, Bool, true, false, cond, List, [], ◌∷◌, ◌++◌, All, length, drop, take, map, refl, sym, ap, ◌∙◌, append-nil, append_assoc, ◌+◌, ◌≤◌, arith}
use Rattle.std.specs.List.{join_with_byte}
use Rattle.std.proofs.lemmas.Bool.{eqb-true}
use Rattle.std.proofs.lemmas.List.{drop_all, take_all}
use Rattle.std.proofs.lemmas.List.Elements.{All-append, All-cons, All-nil}
use Rattle.hex.specs.Hex.{encode_with}
use Rattle.sg_plan.specs.declared.plan.Mark.{Mark}
use Rattle.sg_lines.specs.Words.{code_word, encode_lower}
use Rattle.sg_forms.specs.Spelling.{IsCode}
use Rattle.sg_desks.specs.ActTexts.{behind, codes_word, mark_word, marks_text, paper_text}

pub joined_behind : (byte : ℕ) (first : List ℕ) (words : List (List ℕ)) → join_with_byte byte (first ∷ words) ≡ first ++ behind byte words
joined_behind byte first [] = sym (append-nil first)
joined_behind byte first (next ∷ words) = ap (λ l. first ++ byte ∷ l) (joined_behind byte next words)

-- a version that has a code is one of the two
version_at : (version code : ℕ) (one two : Bool) → (version == 1) ≡ one → (version == 2) ≡ two → code < cond one 1000 (cond two 32768 0) → (version ≡ 1) ⊎ (version ≡ 2)
version_at version code true two is_one is_two fits = inl (eqb-true version 1 is_one)
version_at version code false true is_one is_two fits = inr (eqb-true version 2 is_two)
version_at version code false false is_one is_two fits = absurd (omega (arith, fits))

pub version_of_code : (version code : ℕ) → IsCode version code → (version ≡ 1) ⊎ (version ≡ 2)
version_of_code version code fits = version_at version code (version == 1) (version == 2) refl refl fits

-- digits of bytes, byte by byte
pub encode_first : (byte : ℕ) (bytes : List ℕ) → encode_lower (byte ∷ bytes) ≡ encode_lower (byte ∷ []) ++ encode_lower bytes
unfolding encode_with
encode_first byte bytes = refl

pub encode_none : encode_lower [] ≡ []
unfolding encode_with
encode_none = refl

pub ruleset hex_facts = (encode_first, encode_none)

-- one byte more is written
pub hex_step : (start bytes out now : List ℕ) (at byte : ℕ) → out ++ encode_lower (drop at bytes) ≡ start ++ encode_lower bytes → drop at bytes ≡ byte ∷ drop (at + 1) bytes
    → now ≡ out ++ encode_lower (byte ∷ []) → now ++ encode_lower (drop (at + 1) bytes) ≡ start ++ encode_lower bytes
hex_step start bytes out now at byte before rest is =
    ap (λ l. l ++ encode_lower (drop (at + 1) bytes)) is
    ∙ (append_assoc out (encode_lower (byte ∷ [])) (encode_lower (drop (at + 1) bytes))
    ∙ (ap (λ l. out ++ l) (sym (encode_first byte (drop (at + 1) bytes))) ∙ (ap (λ l. out ++ encode_lower l) (sym rest) ∙ before)))

-- all bytes are written
pub hex_end : (start bytes out : List ℕ) (at : ℕ) → out ++ encode_lower (drop at bytes) ≡ start ++ encode_lower bytes → length bytes ≤ at → out ≡ start ++ encode_lower bytes
hex_end start bytes out at before past =
    sym (append-nil out) ∙ (ap (λ l. out ++ l) (sym (ap encode_lower (drop_all at bytes past) ∙ encode_none)) ∙ before)

-- the first code, and those behind it
pub list_whole : (version : ℕ) (list start : List ℕ) (first : ℕ) → drop 0 list ≡ first ∷ drop 1 list
    → (start ++ code_word version first) ++ behind 44 (map (code_word version) (drop 1 list)) ≡ start ++ codes_word version list
list_whole version list start first split =
    append_assoc start (code_word version first) (behind 44 (map (code_word version) (drop 1 list)))
    ∙ ap (λ l. start ++ l) (sym (joined_behind 44 (code_word version first) (map (code_word version) (drop 1 list))) ∙ ap (codes_word version) (sym split))

-- what holds of the first items and of the next one holds of them all
pub each_step : {A : Type 0} (P : A → Type 0) (xs : List A) (at : ℕ) (x : A) → All P (take at xs) → take (at + 1) xs ≡ take at xs ++ x ∷ [] → P x → All P (take (at + 1) xs)
each_step P xs at x before front here = rw front (All-append P (take at xs) (x ∷ []) before (All-cons P x [] here (All-nil P)))

pub each_end : {A : Type 0} (P : A → Type 0) (xs : List A) (at : ℕ) → All P (take at xs) → length xs ≤ at → All P xs
each_end P xs at before past = rw (take_all at xs past) at before

pub each_none : {A : Type 0} (P : A → Type 0) (xs : List A) → All P (take 0 xs)
each_none P xs = All-nil P

-- the first mark, and those behind it
pub marks_whole : (marks : List Mark) (first : Mark) → drop 0 marks ≡ first ∷ drop 1 marks → mark_word first ++ behind 32 (map mark_word (drop 1 marks)) ≡ marks_text marks
marks_whole marks first split = sym (joined_behind 32 (mark_word first) (map mark_word (drop 1 marks))) ∙ ap marks_text (sym split)

-- the first list, and those behind it
pub lists_whole : (version : ℕ) (paper : List (List ℕ)) (first : List ℕ) → drop 0 paper ≡ first ∷ drop 1 paper
    → codes_word version first ++ behind 32 (map (codes_word version) (drop 1 paper)) ≡ paper_text version paper
lists_whole version paper first split = sym (joined_behind 32 (codes_word version first) (map (codes_word version) (drop 1 paper))) ∙ ap (paper_text version) (sym split)
