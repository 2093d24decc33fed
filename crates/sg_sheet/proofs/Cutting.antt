-- How a line of a sheet is read: what it must begin with, and the words of codes.
use Rattle.std.proofs.Common.{◌≡◌, ℕ, zero, suc, ◌+◌, ◌-◌, ◌<◌, ◌≤◌, ◌==◌, Bool, true, false, cond, List, [], ◌∷◌, ◌++◌, drop, take, length, bytes_eq, Option, Some, None, IsTrue, refl, sym, ap, subst, ◌∙◌, append_assoc, append-nil, arith}
use Rattle.std.specs.Option.{option_and_then, option_map}
use Rattle.std.specs.Prelude.{All, IfOk, IfSome, Result, Ok, Err, codes, decimal, slice_index, slice_range}
use Rattle.std.proofs.Math.Seq.{take-append_seam}
use Rattle.std.proofs.lemmas.Bool.{eqb-true, le-ltb, lt-ltb}
use Rattle.std.proofs.lemmas.List.{append_cancel_left}
use Rattle.std.proofs.lemmas.List.Elements.{All-cons, All-head, All-nil, All-tail}
use Rattle.std.proofs.lemmas.Option.{same_Some}
use Rattle.std.proofs.lemmas.Slice.Eq.{bytes_eq-Decides}
use Rattle.sg_lines.proofs.Signs.{codes_are_read, codes_are_spelled, length-code_word}
use Rattle.sg_plan.specs.Codes.{codes_of}
use Rattle.sg_plan.specs.declared.memory.NoMemory.{NoMemory}
use Rattle.sg_lines.specs.Words.{code_of, code_word}
use Rattle.sg_sheet.specs.Sheet.{ballot_text, code_words, codes_text}
use Rattle.sg_sheet.specs.inside.Words.{code_behind, codes_in}

-- FRONTS

pub front_of : (bytes front rest : List ℕ) → bytes ≡ front ++ rest → take (length front) bytes ≡ front
front_of bytes front rest is = ap (take (length front)) is ∙ take-append_seam front rest

-- what is refused
pub refused : (P : Type 0) → (P → ⊥) → (IsTrue false → P) × (P → IsTrue false)
refused P none = (λ t. cc, λ p. absurd (none p))

-- THE LINE OF A BALLOT

module _ (bytes rest1 rest2 rest3 rest4 : List ℕ) (ballot style : ℕ) where
  abbrev Begins : List ℕ → List ℕ → List ℕ → Type 0
  Begins all front rest = all ≡ front ++ rest

  pub first_cut : Begins bytes (codes "ballot ") rest1 → bytes ≡ ballot_text ballot style → rest1 ≡ decimal ballot ++ (32 ∷ [] ++ (decimal style ++ 10 ∷ []))
  first_cut a e = append_cancel_left (codes "ballot ") rest1 (decimal ballot ++ (32 ∷ [] ++ (decimal style ++ 10 ∷ []))) (sym a ∙ e)

  pub second_cut : Begins bytes (codes "ballot ") rest1 → Begins rest1 (decimal ballot) rest2 → bytes ≡ ballot_text ballot style → rest2 ≡ 32 ∷ [] ++ (decimal style ++ 10 ∷ [])
  second_cut a b e = append_cancel_left (decimal ballot) rest2 (32 ∷ [] ++ (decimal style ++ 10 ∷ [])) (sym b ∙ first_cut a e)

  pub third_cut : Begins bytes (codes "ballot ") rest1 → Begins rest1 (decimal ballot) rest2 → Begins rest2 (32 ∷ []) rest3 → bytes ≡ ballot_text ballot style → rest3 ≡ decimal style ++ 10 ∷ []
  third_cut a b c e = append_cancel_left (32 ∷ []) rest3 (decimal style ++ 10 ∷ []) (sym c ∙ second_cut a b e)

  pub fourth_cut : Begins bytes (codes "ballot ") rest1 → Begins rest1 (decimal ballot) rest2 → Begins rest2 (32 ∷ []) rest3 → Begins rest3 (decimal style) rest4
      → bytes ≡ ballot_text ballot style → rest4 ≡ 10 ∷ []
  fourth_cut a b c d e = append_cancel_left (decimal style) rest4 (10 ∷ []) (sym d ∙ third_cut a b c e)

  pub all_cut : Begins bytes (codes "ballot ") rest1 → Begins rest1 (decimal ballot) rest2 → Begins rest2 (32 ∷ []) rest3 → Begins rest3 (decimal style) rest4
      → rest4 ≡ 10 ∷ [] → bytes ≡ ballot_text ballot style
  all_cut a b c d e =
      a ∙ ap (λ (l : List ℕ). codes "ballot " ++ l) (b ∙ ap (λ (l : List ℕ). decimal ballot ++ l) (c ∙ ap (λ (l : List ℕ). 32 ∷ [] ++ l) (d ∙ ap (λ (l : List ℕ). decimal style ++ l) e)))

-- THE WORDS OF CODES

-- a list of three
three : (word : List ℕ) → length word ≡ 3 → (a b c : ℕ) × (word ≡ a ∷ b ∷ c ∷ [])
three [] long = absurd (omega (arith, long))
three (a ∷ []) long = absurd (omega (arith, long))
three (a ∷ b ∷ []) long = absurd (omega (arith, long))
three (a ∷ b ∷ c ∷ []) long = (a, b, c, refl)
three (a ∷ b ∷ c ∷ d ∷ word) long = absurd (omega (arith, long))

-- four bytes or more: a first, a word and the rest
behind_four : (version x a b c : ℕ) (rest : List ℕ) → code_behind version (x ∷ a ∷ b ∷ c ∷ rest) ≡ cond (x == 32) (code_of version (a ∷ b ∷ c ∷ [])) None
behind_four version x a b c rest = rw (le-ltb (length (x ∷ a ∷ b ∷ c ∷ rest)) 4 (omega arith)) refl

none_in : (version : ℕ) (bytes : List ℕ) (code : ℕ) → length bytes < 4 → code_behind version bytes ≡ Some code → ⊥
none_in version bytes code short is = absurd_none (sym (ap (λ (b : Bool). cond b None (cond (slice_index bytes 0 == 32) (code_of version (slice_range bytes 1 4)) None)) (lt-ltb (length bytes) 4 short)) ∙ is)
  where
    absurd_none : None ≡ Some code → ⊥
    absurd_none e = cc

pub record HasCode (version code : ℕ) (bytes : List ℕ) : Type 0 where
  pub below : code < codes_of version
  pub is : bytes ≡ (32 ∷ code_word version code) ++ drop 4 bytes

-- the code that is read
pub behind-is : (version : ℕ) (bytes : List ℕ) (code : ℕ) → code_behind version bytes ≡ Some code → HasCode version code bytes
behind-is version [] code is = absurd (none_in version [] code (omega arith) is)
behind-is version (x ∷ []) code is = absurd (none_in version (x ∷ []) code (omega arith) is)
behind-is version (x ∷ a ∷ []) code is = absurd (none_in version (x ∷ a ∷ []) code (omega arith) is)
behind-is version (x ∷ a ∷ b ∷ []) code is = absurd (none_in version (x ∷ a ∷ b ∷ []) code (omega arith) is)
behind-is version (x ∷ a ∷ b ∷ c ∷ rest) code is = at_space (x == 32) refl
  where
    at_space : (s : Bool) → (x == 32) ≡ s → HasCode version code (x ∷ a ∷ b ∷ c ∷ rest)
    at_space false e = let both : None ≡ Some code = sym (behind_four version x a b c rest ∙ ap (λ (s : Bool). cond s (code_of version (a ∷ b ∷ c ∷ [])) None) e) ∙ is in cc
    at_space true e =
        let read : code_of version (a ∷ b ∷ c ∷ []) ≡ Some code = sym (behind_four version x a b c rest ∙ ap (λ (s : Bool). cond s (code_of version (a ∷ b ∷ c ∷ [])) None) e) ∙ is in
        let spelled = codes_are_spelled version (a ∷ b ∷ c ∷ []) code read in
        record { below = spelled.0; is = ap (λ (y : ℕ). y ∷ a ∷ b ∷ c ∷ rest) (eqb-true x 32 e) ∙ ap (λ (w : List ℕ). 32 ∷ w ++ rest) spelled.1 }

-- each code of the version is read
pub code-behind : (version code : ℕ) (rest : List ℕ) → code < codes_of version → code_behind version ((32 ∷ code_word version code) ++ rest) ≡ Some code
code-behind version code rest below =
    let word = three (code_word version code) (length-code_word version code below) in
    ap (λ (w : List ℕ). code_behind version ((32 ∷ w) ++ rest)) word.3
    ∙ (behind_four version 32 word.0 word.1 word.2 rest
    ∙ (ap (code_of version) (sym word.3) ∙ codes_are_read version code below))

drop_code : (version code : ℕ) (rest : List ℕ) → code < codes_of version → drop 4 ((32 ∷ code_word version code) ++ rest) ≡ rest
drop_code version code rest below = ap (λ (w : List ℕ). drop 4 ((32 ∷ w) ++ rest)) (three (code_word version code) (length-code_word version code below)).3

-- the codes that are read
pub record HasCodes (version count : ℕ) (list bytes : List ℕ) : Type 0 where
  pub long : length list ≡ count
  pub below : All (λ code. code < codes_of version) list
  pub is : bytes ≡ code_words version list ++ 10 ∷ []

pub codes-are : (version count : ℕ) (bytes list : List ℕ) → codes_in version count bytes ≡ Some list → HasCodes version count list bytes
codes-are version zero bytes list is = at_feed (bytes_eq bytes (10 ∷ [])) refl
  where
    at_feed : (b : Bool) → bytes_eq bytes (10 ∷ []) ≡ b → HasCodes version zero list bytes
    at_feed false e = let both : None ≡ Some list = sym (ap (λ (b : Bool). cond b (Some []) None) e) ∙ is in cc
    at_feed true e =
        let none : [] ≡ list = same_Some [] list (sym (ap (λ (b : Bool). cond b (Some []) None) e) ∙ is) in
        record {
          long = ap length (sym none);
          below = subst (λ (l : List ℕ). All (λ code. code < codes_of version) l) none (All-nil (λ (code : ℕ). code < codes_of version));
          is = (bytes_eq-Decides bytes (10 ∷ [])).0 e ∙ ap (λ (l : List ℕ). code_words version l ++ 10 ∷ []) none;
        }
codes-are version (suc count) bytes list is = at_code (code_behind version bytes) refl (λ l d. codes-are version count (drop 4 bytes) l d)
  where
    at_code : (o : Option ℕ) → code_behind version bytes ≡ o → ((l : List ℕ) → codes_in version count (drop 4 bytes) ≡ Some l → HasCodes version count l (drop 4 bytes)) → HasCodes version (suc count) list bytes
    at_code None e rest = let both : None ≡ Some list = sym (ap (λ (o : Option ℕ). option_and_then (λ code. option_map (λ l. code ∷ l) (codes_in version count (drop 4 bytes))) o) e) ∙ is in cc
    at_code (Some code) e rest = at_rest (codes_in version count (drop 4 bytes)) refl rest
      where
        at_rest : (r : Option (List ℕ)) → codes_in version count (drop 4 bytes) ≡ r → ((l : List ℕ) → codes_in version count (drop 4 bytes) ≡ Some l → HasCodes version count l (drop 4 bytes))
            → HasCodes version (suc count) list bytes
        at_rest None d rest =
            let both : None ≡ Some list
            = sym (ap (λ (o : Option ℕ). option_and_then (λ code. option_map (λ l. code ∷ l) (codes_in version count (drop 4 bytes))) o) e ∙ ap (option_map (λ l. code ∷ l)) d) ∙ is in
            cc
        at_rest (Some l) d rest =
            let more = rest l d in
            let here = behind-is version bytes code e in
            let whole : code ∷ l ≡ list
            = same_Some (code ∷ l) list (sym (ap (λ (o : Option ℕ). option_and_then (λ code. option_map (λ l. code ∷ l) (codes_in version count (drop 4 bytes))) o) e ∙ ap (option_map (λ l. code ∷ l)) d) ∙ is) in
            record {
              long = ap length (sym whole) ∙ ap suc more.long;
              below = subst (λ (x : List ℕ). All (λ c. c < codes_of version) x) whole (All-cons (λ (c : ℕ). c < codes_of version) code l here.below more.below);
              is =
                  here.is
                  ∙ (ap (λ (b : List ℕ). (32 ∷ code_word version code) ++ b) more.is
                  ∙ (sym (append_assoc (32 ∷ code_word version code) (code_words version l) (10 ∷ [])) ∙ ap (λ (x : List ℕ). code_words version x ++ 10 ∷ []) whole));
            }

pub are-codes : (version count : ℕ) (bytes list : List ℕ) → HasCodes version count list bytes → codes_in version count bytes ≡ Some list
are-codes version zero bytes [] has = ap (λ (b : List ℕ). codes_in version zero b) has.is
are-codes version zero bytes (code ∷ list) has = absurd (omega (arith, has.long))
are-codes version (suc count) bytes [] has = absurd (omega (arith, has.long))
are-codes version (suc count) bytes (code ∷ list) has =
    let below = All-head (λ (c : ℕ). c < codes_of version) code list has.below in
    let rest = code_words version list ++ 10 ∷ [] in
    let is : bytes ≡ (32 ∷ code_word version code) ++ rest = has.is ∙ append_assoc (32 ∷ code_word version code) (code_words version list) (10 ∷ []) in
    let left : drop 4 bytes ≡ rest = ap (drop 4) is ∙ drop_code version code rest below in
    let more = are-codes version count (drop 4 bytes) list (record { long = omega (arith, has.long); below = All-tail (λ (c : ℕ). c < codes_of version) code list has.below; is = left }) in
    ap (λ (o : Option ℕ). option_and_then (λ c. option_map (λ l. c ∷ l) (codes_in version count (drop 4 bytes))) o) (ap (code_behind version) is ∙ code-behind version code rest below)
    ∙ ap (option_map (λ l. code ∷ l)) more

-- one more code of the words is read
pub words_step : (version count at : ℕ) (all rest rest' list list' : List ℕ) (code : ℕ) → at < count → Some code ≡ code_behind version rest → list' ≡ list ++ code ∷ [] → rest' ≡ drop 4 rest
    → option_map (λ l. list ++ l) (codes_in version (count - at) rest) ≡ codes_in version count all
    → option_map (λ l. list' ++ l) (codes_in version (count - (at + 1)) rest') ≡ codes_in version count all
words_step version count at all rest rest' list list' code less read grown left before =
    let next : count - at ≡ suc (count - (at + 1)) = omega (arith, less) in
    let more = count - (at + 1) in
    rw (grown, left) (joined (codes_in version more (drop 4 rest)))
    ∙ (sym (ap (λ (n : ℕ). option_map (λ l. list ++ l) (codes_in version n rest)) next ∙ ap (λ (o : Option ℕ). option_map (λ l. list ++ l) (option_and_then (λ c. option_map (λ l. c ∷ l) (codes_in version more (drop 4 rest))) o)) (sym read)) ∙ before)
  where
    joined : (o : Option (List ℕ)) → option_map (λ l. (list ++ code ∷ []) ++ l) o ≡ option_map (λ l. list ++ l) (option_map (λ l. code ∷ l) o)
    joined None = refl
    joined (Some l) = ap (λ (x : List ℕ). Some x) (append_assoc list (code ∷ []) l)

-- or none is, and the words are no codes
pub words_none : (version count at : ℕ) (all rest list : List ℕ) → at < count → None ≡ code_behind version rest
    → option_map (λ l. list ++ l) (codes_in version (count - at) rest) ≡ codes_in version count all → None ≡ codes_in version count all
words_none version count at all rest list less read before =
    let next : count - at ≡ suc (count - (at + 1)) = omega (arith, less) in
    sym (ap (λ (n : ℕ). option_map (λ l. list ++ l) (codes_in version n rest)) next
    ∙ ap (λ (o : Option ℕ). option_map (λ l. list ++ l) (option_and_then (λ c. option_map (λ l. c ∷ l) (codes_in version (count - (at + 1)) (drop 4 rest))) o)) (sym read)) ∙ before

pub words_end : (version count at : ℕ) (all rest list : List ℕ) (feed : Bool) → count ≤ at → bytes_eq rest (10 ∷ []) ≡ feed
    → option_map (λ l. list ++ l) (codes_in version (count - at) rest) ≡ codes_in version count all → cond feed (Some list) None ≡ codes_in version count all
words_end version count at all rest list feed past is before =
    let none : count - at ≡ 0 = omega (arith, past) in
    let start : cond feed (Some list) None ≡ option_map (λ l. list ++ l) (cond feed (Some []) None) = at_feed feed in
    start ∙ (sym (ap (λ (n : ℕ). option_map (λ l. list ++ l) (codes_in version n rest)) none ∙ ap (λ (b : Bool). option_map (λ l. list ++ l) (cond b (Some []) None)) is) ∙ before)
  where
    at_feed : (b : Bool) → cond b (Some list) None ≡ option_map (λ l. list ++ l) (cond b (Some []) None)
    at_feed true = ap (λ (l : List ℕ). Some l) (sym (append-nil list))
    at_feed false = refl

-- THE LINE OF CODES

pub line-cut : (version race : ℕ) (bytes rest words list : List ℕ) → bytes ≡ codes "codes " ++ rest → rest ≡ decimal race ++ words
    → bytes ≡ codes_text version race list → words ≡ code_words version list ++ 10 ∷ []
line-cut version race bytes rest words list a b e =
    append_cancel_left (decimal race) words (code_words version list ++ 10 ∷ [])
    (sym b ∙ append_cancel_left (codes "codes ") rest (decimal race ++ (code_words version list ++ 10 ∷ [])) (sym a ∙ e))

pub line-made : (version race : ℕ) (bytes rest words list : List ℕ) → bytes ≡ codes "codes " ++ rest → rest ≡ decimal race ++ words
    → words ≡ code_words version list ++ 10 ∷ [] → bytes ≡ codes_text version race list
line-made version race bytes rest words list a b e = a ∙ ap (λ (l : List ℕ). codes "codes " ++ l) (b ∙ ap (λ (l : List ℕ). decimal race ++ l) e)

-- WHAT IS READ

pub reads_found : (version race count : ℕ) (bytes rest words : List ℕ) (result : Result (Option (List ℕ)) NoMemory) → bytes ≡ codes "codes " ++ rest → rest ≡ decimal race ++ words
    → IfOk result (λ read. read ≡ codes_in version count words)
    → IfOk result (λ read. IfSome read (λ list. (length list ≡ count) × All (λ code. code < codes_of version) list × (bytes ≡ codes_text version race list)))
reads_found version race count bytes rest words (Err e) a b is = tt
reads_found version race count bytes rest words (Ok None) a b is = tt
reads_found version race count bytes rest words (Ok (Some list)) a b is =
    let has = codes-are version count words list (sym is) in
    (has.long, has.below, line-made version race bytes rest words list a b has.is)

pub reads_only : (version race count : ℕ) (bytes rest words : List ℕ) (result : Result (Option (List ℕ)) NoMemory) → bytes ≡ codes "codes " ++ rest → rest ≡ decimal race ++ words
    → IfOk result (λ read. read ≡ codes_in version count words)
    → IfOk result (λ read. (list : List ℕ) → length list ≡ count → All (λ code. code < codes_of version) list → bytes ≡ codes_text version race list → read ≡ Some list)
reads_only version race count bytes rest words (Err e) a b is = tt
reads_only version race count bytes rest words (Ok read) a b is = λ list long below e.
    is ∙ are-codes version count words list (record { long = long; below = below; is = line-cut version race bytes rest words list a b e })
