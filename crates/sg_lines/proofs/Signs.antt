-- Codes: the signs, three places of a number, and the laws of code words.
use Rattle.std.proofs.Common.{◌≡◌, ℕ, ◌+◌, ◌-◌, ◌*◌, ◌/◌, ◌%◌, ◌<◌, ◌≤◌, ◌==◌, true, cond, eqb, zero-add, inl, inr, List, [], ◌∷◌, length, get_or, Option, Some, None, refl, sym, ap, ◌∙◌, arith}
use Rattle.std.proofs.lemmas.Bool.{agree_below_at, cases_eq, eqb-true, ne_eqb, ltb-true, lt-ltb}
use Rattle.std.proofs.Math.Nat.{zero-mul}
use Rattle.std.proofs.lemmas.Bool.Decides.{nat_tests}
use Rattle.std.specs.List.{position_or_len}
use Rattle.std.specs.Prelude.{nat_lt, IfSome, ◌≢◌}
use Rattle.sg_lists.proofs.Options.{same_Options}
use Rattle.sg_plan.specs.Codes.{codes_of}
use Rattle.sg_lines.specs.Words.{digit_of, signs, sign_of, three_places, code_word, number_in, code_number, code_of}
use Rattle.sg_lines.specs.Laws.{CodesAreSpelled, CodesAreRead, CodesDiffer}
use Rattle.sg_lines.proofs.Spelled.{where_spelled-found, where_spelled-only}

-- ---- the signs

-- the signs by ranges of ASCII: `2` to `9`, `A` to `H`, `J` to `N`, `P` to `Z`
abbrev sign_by_range : ℕ → ℕ
sign_by_range value = cond (nat_lt value 8) (50 + value) (cond (nat_lt value 16) (57 + value) (cond (nat_lt value 21) (58 + value) (59 + value)))

-- each sign is the one that its range gives
sign_of-range : (value : ℕ) → value < 32 → sign_of value ≡ sign_by_range value
unfolding sign_of
sign_of-range value fits =
    eqb-true (sign_of value) (sign_by_range value) (agree_below_at (λ v. eqb (sign_of v) (sign_by_range v)) (λ v. true) 32 value refl fits)

-- the signs `2` to `9`
pub sign_of-digit : (value : ℕ) → value < 8 → sign_of value ≡ 50 + value
sign_of-digit value below = rw (sign_of-range value (omega arith)) (grind (arith, nat_tests))

-- the signs `A` to `H`
pub sign_of-a_to_h : (value : ℕ) → 8 ≤ value → value < 16 → sign_of value ≡ 57 + value
sign_of-a_to_h value from below = rw (sign_of-range value (omega arith)) (grind (arith, nat_tests))

-- the signs `J` to `N`
pub sign_of-j_to_n : (value : ℕ) → 16 ≤ value → value < 21 → sign_of value ≡ 58 + value
sign_of-j_to_n value from below = rw (sign_of-range value (omega arith)) (grind (arith, nat_tests))

-- the signs `P` to `Z`
pub sign_of-p_to_z : (value : ℕ) → 21 ≤ value → value < 32 → sign_of value ≡ 59 + value
sign_of-p_to_z value from below = rw (sign_of-range value (omega arith)) (grind (arith, nat_tests))

-- a value has one sign, in one of the four ranges
pub ruleset signs_by_range = (sign_of-digit, sign_of-a_to_h, sign_of-j_to_n, sign_of-p_to_z)

-- the value of a sign is its place among the signs
position-sign_of : (value : ℕ) → value < 32 → position_or_len (λ s. s == sign_of value) signs ≡ value
unfolding sign_of
position-sign_of value fits =
    eqb-true _ _ (agree_below_at (λ v. eqb (position_or_len (λ s. s == sign_of v) signs) v) (λ v. true) 32 value refl fits)

-- ---- code words

-- the word of a code in version 1
pub code_word-digits : (code : ℕ) → code_word 1 code ≡ three_places digit_of 10 code
unfolding code_word
code_word-digits code = refl

-- the word of a code in version 2
pub code_word-signs : (code : ℕ) → code_word 2 code ≡ three_places sign_of 32 code
unfolding code_word
code_word-signs code = refl

-- a code is one of version 1 or of version 2
pub by_version : (P : ℕ → Type 0) (version code : ℕ) → code < codes_of version → (code < 1000 → P 1) → (code < 32768 → P 2) → P version
by_version P version code fits first second =
    elim (cases_eq version 1) [
      | inl one ↦ rw one (first (rw one at fits))
      | inr not_one ↦
          elim (cases_eq version 2) [
            | inl two ↦ rw two (second (rw two at fits))
            | inr not_two ↦
                let none = rw (ne_eqb version 1 not_one, ne_eqb version 2 not_two) at fits in
                absurd (omega (arith, none))
          ]
    ]

-- the three places of a number have its value
number_in-three_places : (value sign : ℕ → ℕ) (base n : ℕ) → value (sign (n / base / base)) ≡ n / base / base
    → value (sign (n / base % base)) ≡ n / base % base → value (sign (n % base)) ≡ n % base
    → number_in value base (three_places sign base n) ≡ (n / base / base * base + n / base % base) * base + n % base
number_in-three_places value sign base n high middle low = rw (high, middle, low, zero-mul, zero-add) refl

-- the number that the signs of a code word have is the code
code_number-code_word : (version code : ℕ) → code < codes_of version → code_number version (code_word version code) ≡ code
unfolding code_word
code_number-code_word version code fits =
    by_version (λ v. code_number v (code_word v code) ≡ code) version code fits
    (λ small. number_in-three_places (λ digit. digit - 48) digit_of 10 code (omega arith) (omega arith) (omega arith) ∙ omega arith)
    (λ small.
    number_in-three_places (λ sign. position_or_len (λ s. s == sign) signs) sign_of 32 code
    (position-sign_of (code / 32 / 32) (omega arith)) (position-sign_of (code / 32 % 32) (omega arith)) (position-sign_of (code % 32) (omega arith))
    ∙ omega arith)

-- ---- the laws

-- what is read as a code is its spelling in that version
pub codes_are_spelled : CodesAreSpelled
unfolding code_of
codes_are_spelled version word code read =
    let number = code_number version word in
    let found = where_spelled-found (code_word version) word number (nat_lt number (codes_of version)) code read in
    (rw found.1 at (ltb-true number (codes_of version) found.0), found.2)

-- each code of a version is read from its spelling
pub codes_are_read : CodesAreRead
unfolding code_of
codes_are_read version code fits =
    let is = code_number-code_word version code fits in
    rw is (where_spelled-only (code_word version) (code_word version code) code (nat_lt code (codes_of version)) (lt-ltb _ _ fits) refl)

-- different codes of a version have different spellings
pub codes_differ : CodesDiffer
codes_differ version a b a_fits b_fits same =
    sym (code_number-code_word version a a_fits) ∙ ap (code_number version) same ∙ code_number-code_word version b b_fits

-- a code's word has three signs
pub length-code_word : (version code : ℕ) → code < codes_of version → length (code_word version code) ≡ 3
unfolding code_word
length-code_word version code fits = by_version (λ v. length (code_word v code) ≡ 3) version code fits (λ small. refl) (λ small. refl)

-- ---- the three signs of a word

-- the word has three bytes, which are the signs of the three places of n
abbrev pub HasPlaces : List ℕ → (ℕ → ℕ) → ℕ → ℕ → Type 0
HasPlaces word sign base n =
    (length word ≡ 3) × (get_or word 0 0 ≡ sign (n / base / base)) × (get_or word 1 0 ≡ sign (n / base % base)) × (get_or word 2 0 ≡ sign (n % base))

-- a word of three places has them
HasPlaces-from : (word : List ℕ) (sign : ℕ → ℕ) (base n : ℕ) → word ≡ three_places sign base n → HasPlaces word sign base n
HasPlaces-from word sign base n is = (ap length is, ap (λ w. get_or w 0 0) is, ap (λ w. get_or w 1 0) is, ap (λ w. get_or w 2 0) is)

-- the places of a code word of version 1
pub HasPlaces-digits : (word : List ℕ) (code : ℕ) → word ≡ code_word 1 code → HasPlaces word digit_of 10 code
HasPlaces-digits word code is = HasPlaces-from word digit_of 10 code (is ∙ code_word-digits code)

-- the places of a code word of version 2
pub HasPlaces-signs : (word : List ℕ) (code : ℕ) → word ≡ code_word 2 code → HasPlaces word sign_of 32 code
HasPlaces-signs word code is = HasPlaces-from word sign_of 32 code (is ∙ code_word-signs code)

-- three bytes that are the signs of three places are their word
three_places-from : (word : List ℕ) (sign : ℕ → ℕ) (base n high middle low : ℕ) → length word ≡ 3
    → get_or word 0 0 ≡ sign high → get_or word 1 0 ≡ sign middle → get_or word 2 0 ≡ sign low
    → n / base / base ≡ high → n / base % base ≡ middle → n % base ≡ low → word ≡ three_places sign base n
three_places-from [] sign base n high middle low three first second third h m l = absurd (omega arith)
three_places-from (a ∷ []) sign base n high middle low three first second third h m l = absurd (omega arith)
three_places-from (a ∷ b ∷ []) sign base n high middle low three first second third h m l = absurd (omega arith)
three_places-from (a ∷ b ∷ c ∷ []) sign base n high middle low three first second third h m l = rw (h, m, l, first, second, third) refl
three_places-from (a ∷ b ∷ c ∷ d ∷ ds) sign base n high middle low three first second third h m l = absurd (omega arith)

-- three decimal digits are a code word of version 1
pub code_word-from_digits : (word : List ℕ) (high middle low : ℕ) → length word ≡ 3 → high < 10 → middle < 10 → low < 10
    → get_or word 0 0 ≡ digit_of high → get_or word 1 0 ≡ digit_of middle → get_or word 2 0 ≡ digit_of low
    → word ≡ code_word 1 (high * 100 + middle * 10 + low)
code_word-from_digits word high middle low three h m l first second third =
    three_places-from word digit_of 10 (high * 100 + middle * 10 + low) high middle low three first second third (omega arith) (omega arith) (omega arith)
    ∙ sym (code_word-digits (high * 100 + middle * 10 + low))

-- three signs are a code word of version 2
pub code_word-from_signs : (word : List ℕ) (high middle low : ℕ) → length word ≡ 3 → high < 32 → middle < 32 → low < 32
    → get_or word 0 0 ≡ sign_of high → get_or word 1 0 ≡ sign_of middle → get_or word 2 0 ≡ sign_of low
    → word ≡ code_word 2 (high * 1024 + middle * 32 + low)
code_word-from_signs word high middle low three h m l first second third =
    three_places-from word sign_of 32 (high * 1024 + middle * 32 + low) high middle low three first second third (omega arith) (omega arith) (omega arith)
    ∙ sym (code_word-signs (high * 1024 + middle * 32 + low))

-- ---- reading

-- a code whose word it is, is what is read
pub code_of-some : (version : ℕ) (word : List ℕ) (code : ℕ) → code < codes_of version → word ≡ code_word version code → Some code ≡ code_of version word
code_of-some version word code fits is = sym (ap (code_of version) is ∙ codes_are_read version code fits)

-- a reading that finds each code by its word, and nothing else, is `code_of`
pub code_of-is : (version : ℕ) (word : List ℕ) (result : Option ℕ)
    → IfSome result (λ code. (code < codes_of version) × (word ≡ code_word version code))
    → ((code : ℕ) → code < codes_of version → word ≡ code_word version code → result ≡ Some code)
    → result ≡ code_of version word
code_of-is version word None found only =
    same_Options None (code_of version word) (λ code none. cc none)
    (λ code read. let spelled = codes_are_spelled version word code read in only code spelled.0 spelled.1)
code_of-is version word (Some code) found only = code_of-some version word code found.0 found.1

-- other versions have no codes
pub codes_of-other : (version code : ℕ) → version ≢ 1 → version ≢ 2 → code < codes_of version → ⊥
codes_of-other version code not_one not_two fits = by_version (λ v. v ≢ 1 → v ≢ 2 → ⊥) version code fits (λ small. λ one two. one refl) (λ small. λ one two. two refl) not_one not_two

-- the length of a code's word, for `using`
pub ruleset code_facts = (length-code_word)
