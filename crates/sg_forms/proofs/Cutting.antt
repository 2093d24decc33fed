-- Words are cut at single spaces.
use Rattle.std.proofs.Common.{◌≡◌, ℕ, suc, ◌+◌, ◌-◌, ◌^◌, ◌<◌, ◌≤◌, false, List, [], ◌∷◌, ◌++◌, length, take, drop, get_or, slice_index, None, refl, sym, ap, ◌∙◌, subst, arith, add-one, length-append, length-drop, take-append-drop}
use Rattle.std.proofs.Math.Seq.{split_at, get_or-append_seam, take-append_seam}
use Rattle.std.proofs.lemmas.List.{take_all, take_more}
use Rattle.std.proofs.lemmas.List.Elements.{All-append, All-from_recursion, All-cons, All-nil}
use Rattle.std.proofs.lemmas.List.Splits.{slice_split_at, slice_split_none, length-slice_split, join_with_byte-slice_split}
use Rattle.std.specs.List.{join_with_byte}
use Rattle.std.specs.Prelude.{codes}
use Rattle.std.proofs.lemmas.Bool.{eq-eqb}
use Rattle.sg_lines.specs.Words.{HasNoSpace, decimal, encode_lower}
use Rattle.sg_lines.proofs.Spaces.{HasNoSpace-decimal, HasNoSpace-encode_lower}
use Rattle.sg_forms.specs.Said.{Said}
use Rattle.sg_forms.specs.Reading.{is_space, words_in, whole}
use Rattle.sg_forms.specs.inside.Cutting.{first_of, first_in}

-- a byte that is no space stands behind a front that has none
pub one_more : (text : List ℕ) (at : ℕ) → at < length text → is_space (slice_index text at) ≡ false → HasNoSpace (take at text) → HasNoSpace (take (at + 1) text)
one_more text at within is_none before =
    let IsNoSpace : ℕ → Type 0 = λ byte. is_space byte ≡ false in
    rw (take_more text at 0 within) (All-append IsNoSpace (take at text) (slice_index text at ∷ []) before (All-cons IsNoSpace (slice_index text at) [] is_none (All-nil IsNoSpace)))

-- the first word is as wide as a word whose bytes are no spaces, where a space stands behind these
pub cut_at_width : (text : List ℕ) (width : ℕ) → width < length text → slice_index text width ≡ 32 → HasNoSpace (take width text)
    → words_in text ≡ take width text ∷ words_in (take (length text - (width + 1)) (drop (width + 1) text))
cut_at_width text width within space none =
    let rest : take (length text - (width + 1)) (drop (width + 1) text) ≡ drop (suc width) text =
    take_all _ (drop (width + 1) text) (omega (arith, length-drop (width + 1) text)) ∙ ap (λ n. drop n text) (add-one width) in
    ap words_in (split_at text width 0 within)
    ∙ slice_split_at is_space (take width text) (get_or text width 0) (drop (suc width) text) none (eq-eqb _ _ space)
    ∙ ap (λ left. take width text ∷ words_in left) (sym rest)

-- with nothing behind them, it is the text
pub cut_whole : (text : List ℕ) → HasNoSpace text → words_in text ≡ text ∷ []
cut_whole text none = slice_split_none is_space text none

-- a text has this word at its front, and a space behind it where it is longer
record Begins (word text : List ℕ) : Type 0 where
  within : length word ≤ length text
  front : take (length word) text ≡ word
  space : length word < length text → slice_index text (length word) ≡ 32

-- words that are joined begin with the first of them
joined_begins : (words : List (List ℕ)) → Begins (first_of words) (join_with_byte 32 words)
joined_begins [] = record { within = omega arith; front = refl; space = λ more. absurd (omega arith) }
joined_begins (word ∷ []) = record { within = omega arith; front = take_all (length word) word (omega arith); space = λ more. absurd (omega arith) }
joined_begins (word ∷ next ∷ words) =
    let rest : List ℕ = join_with_byte 32 (next ∷ words) in
    record {
      within = omega (arith, length-append word (32 ∷ rest));
      front = take-append_seam word (32 ∷ rest);
      space = λ more. get_or-append_seam word 32 rest 0;
    }

-- a text begins with its first word
text_begins : (text : List ℕ) → Begins (first_in text) text
text_begins text = subst (Begins (first_in text)) (join_with_byte-slice_split 32 text) (joined_begins (words_in text))

-- the first word is no longer than the text, and stands at its front
pub first_within : (text : List ℕ) → length (first_in text) ≤ length text
first_within text = (text_begins text).within

pub first_front : (text : List ℕ) → take (length (first_in text)) text ≡ first_in text
first_front text = (text_begins text).front

-- a space stands behind it
pub first_space : (text : List ℕ) → length (first_in text) < length text → slice_index text (length (first_in text)) ≡ 32
first_space text more = (text_begins text).space more

-- where it is as long as the text, it is the text
pub first_whole : (text : List ℕ) → length (first_in text) ≡ length text → first_in text ≡ text
first_whole text all = sym (first_front text) ∙ take_all (length (first_in text)) text (omega arith)

pub ruleset first_words = (first_within, first_front, first_space, first_whole)

-- bytes in hexadecimal digits are one word
pub spelled : (word bytes : List ℕ) → word ≡ encode_lower bytes → HasNoSpace word
spelled word bytes is = rw is (HasNoSpace-encode_lower bytes)

-- a number is one word
pub counted : (word : List ℕ) (n : ℕ) → n < 2 ^ 32 → word ≡ decimal n → HasNoSpace word
counted word n small is = rw is (HasNoSpace-decimal n small)

-- where words are left, the line is not whole
not_whole_here : (line : Said) (words : List (List ℕ)) → 0 < length words → whole line words ≡ None
not_whole_here line [] some = absurd (omega arith)
not_whole_here line (word ∷ words) some = refl

-- a text has a word at least
pub not_whole : (line : Said) (text : List ℕ) → whole line (words_in text) ≡ None
not_whole line text = not_whole_here line (words_in text) (omega (arith, length-slice_split is_space text))

-- a word of two parts
joined : (at : ℕ) (word front back : List ℕ) → take at word ≡ front → take (length word - at) (drop at word) ≡ back → word ≡ front ++ back
joined at word front back before behind =
    let rest : take (length word - at) (drop at word) ≡ drop at word = take_all _ (drop at word) (omega (arith, length-drop at word)) in
    sym (take-append-drop at word) ∙ (ap (λ (list : List ℕ). list ++ drop at word) before ∙ ap (λ (list : List ℕ). front ++ list) (sym rest ∙ behind))

pub row_commit_joined : (word : List ℕ) → take 5 word ≡ codes "row-c" → take (length word - 5) (drop 5 word) ≡ codes "ommit" → word ≡ codes "row-commit"
row_commit_joined word before behind = joined 5 word (codes "row-c") (codes "ommit") before behind

pub code_commit_joined : (word : List ℕ) → take 6 word ≡ codes "code-c" → take (length word - 6) (drop 6 word) ≡ codes "ommit" → word ≡ codes "code-commit"
code_commit_joined word before behind = joined 6 word (codes "code-c") (codes "ommit") before behind

-- the first words that most lines have, have no space
pub row_commit_word : HasNoSpace (codes "row-commit")
row_commit_word = All-from_recursion (λ byte. is_space byte ≡ false) (codes "row-commit") (refl, (refl, (refl, (refl, (refl, (refl, (refl, (refl, (refl, (refl, tt))))))))))

pub code_commit_word : HasNoSpace (codes "code-commit")
code_commit_word = All-from_recursion (λ byte. is_space byte ≡ false) (codes "code-commit") (refl, (refl, (refl, (refl, (refl, (refl, (refl, (refl, (refl, (refl, (refl, tt)))))))))))

pub left_word : HasNoSpace (codes "left")
left_word = All-from_recursion (λ byte. is_space byte ≡ false) (codes "left") (refl, (refl, (refl, (refl, tt))))

pub right_word : HasNoSpace (codes "right")
right_word = All-from_recursion (λ byte. is_space byte ≡ false) (codes "right") (refl, (refl, (refl, (refl, (refl, tt)))))

pub both_word : HasNoSpace (codes "both")
both_word = All-from_recursion (λ byte. is_space byte ≡ false) (codes "both") (refl, (refl, (refl, (refl, tt))))

pub ruleset long_words = (row_commit_word, code_commit_word, left_word, right_word, both_word)
