-- Decimal numbers: read, spelled, and how long they are.
use Rattle.std.proofs.Common.{◌≡◌, ℕ, zero, suc, ◌+◌, ◌-◌, ◌*◌, ◌/◌, ◌%◌, ◌^◌, ◌<◌, ◌≤◌, List, [], ◌∷◌, ◌++◌, length, get_or, Option, Some, None, inl, inr, sym, ap, ◌∙◌, arith, length-append}
use Rattle.std.proofs.Math.Nat.{pow-succ'}
use Rattle.std.proofs.lemmas.Bool.{cases_lt, cases_order, ltb-true, lt-ltb}
use Rattle.std.proofs.lemmas.Bool.Decides.{nat_tests}
use Rattle.std.proofs.lemmas.Fmt.{decimal_is_IsNumeral, decimal_injective, decimal_by_steps, decimal-digits_value, decimal_digit, decimal_nonempty, first_decimal, length-decimal-le}
use Rattle.std.proofs.lemmas.List.Elements.{All-from_get_or}
use Rattle.std.proofs.lemmas.Str.Parse.{digit_at, numerals_by_value, tells_digits}
use Rattle.std.specs.List.{All}
use Rattle.std.specs.Char.{digit_value}
use Rattle.std.specs.Prelude.{nat_lt, IfSome, IfNone}
use Rattle.std.specs.Str.Parse.{AllDigits, digits_value, digits_value_after}
use Rattle.sg_lists.proofs.Options.{same_Options}
use Rattle.sg_lines.specs.Words.{decimal, decimal_of}
use Rattle.sg_lines.specs.Laws.{DecimalsAreSpelled, DecimalsAreRead, DecimalsDiffer}
use Rattle.sg_lines.proofs.Spelled.{where_spelled-found, where_spelled-only}

-- the digits of a number have its value
pub digits_value-decimal : (n : ℕ) → n < 2 ^ 32 → digits_value 10 (decimal n) ≡ n
digits_value-decimal n small = (decimal_is_IsNumeral n (omega arith)).1

-- digits without a leading zero are the spelling of their value
pub decimal-digits : (word : List ℕ) → AllDigits 10 word → 0 < length word → (get_or word 0 0 ≡ 48 → length word ≡ 1)
    → digits_value 10 word < 2 ^ 32 → decimal (digits_value 10 word) ≡ word
decimal-digits word digits some lead small = decimal-digits_value (numerals_by_value _ tells_digits) word digits some lead (omega arith)

-- what is read as a number is its spelling
pub decimals_are_spelled : DecimalsAreSpelled
unfolding decimal_of
decimals_are_spelled word n read =
    let found = where_spelled-found decimal word (digits_value 10 word) (nat_lt (digits_value 10 word) (2 ^ 32)) n read in
    let small = ltb-true (digits_value 10 word) (2 ^ 32) found.0 in
    (omega (arith, small, found.1), found.2)

-- each number is read from its spelling
pub decimals_are_read : DecimalsAreRead
unfolding decimal_of
decimals_are_read n small =
    let value = digits_value-decimal n small in
    where_spelled-only decimal (decimal n) (digits_value 10 (decimal n)) (nat_lt (digits_value 10 (decimal n)) (2 ^ 32)) (lt-ltb _ _ (omega (arith, value))) (ap decimal (sym value))
    ∙ ap Some value

-- different numbers have different spellings
pub decimals_differ : DecimalsDiffer
decimals_differ m n m_small n_small same = decimal_injective m n (omega arith) (omega arith) same

-- a number that begins with `0` is zero
pub decimal-lead : (n : ℕ) → n < 2 ^ 32 → get_or (decimal n) 0 0 ≡ 48 → length (decimal n) ≡ 1
decimal-lead n small lead =
    elim (cases_order n 0) [
      | inl zero_is ↦ rw zero_is (ap length (decimal_digit 0 (omega arith)))
      | inr (inl below) ↦ absurd (omega arith)
      | inr (inr above) ↦ absurd (omega (arith, first_decimal n above (omega arith)))
    ]

-- ---- reading

-- a reading that finds each number by its spelling, and nothing else, is `decimal_of`
pub decimal_of-is : (word : List ℕ) (result : Option ℕ)
    → IfSome result (λ n. (n < 2 ^ 32) × (word ≡ decimal n))
    → ((n : ℕ) → n < 2 ^ 32 → word ≡ decimal n → result ≡ Some n)
    → result ≡ decimal_of word
decimal_of-is word None found only =
    same_Options None (decimal_of word) (λ n none. cc none) (λ n read. let spelled = decimals_are_spelled word n read in only n spelled.0 spelled.1)
decimal_of-is word (Some n) found only = sym (ap decimal_of found.1 ∙ decimals_are_read n found.0)

-- what reading the digits of a word finds
abbrev pub FindsDigits : List ℕ → Option ℕ → Type 0
FindsDigits word result =
    IfSome result (λ n. (n < 2 ^ 32) × AllDigits 10 word × (n ≡ digits_value 10 word))
    × IfNone result (AllDigits 10 word → 2 ^ 32 ≤ digits_value 10 word)

-- in a word with digits and without a leading zero it is the number that the word spells
pub digits-found : (word : List ℕ) (result : Option ℕ) → FindsDigits word result → (length word ≡ 0 → ⊥) → ((1 < length word) × (get_or word 0 0 ≡ 48) → ⊥)
    → IfSome result (λ n. (n < 2 ^ 32) × (word ≡ decimal n))
digits-found word None finds not_empty no_lead = tt
digits-found word (Some n) finds not_empty no_lead =
    let lead : get_or word 0 0 ≡ 48 → length word ≡ 1 = λ zero_first.
    elim (cases_lt 1 (length word)) [ inl long ↦ absurd (no_lead (long, zero_first)) | inr short ↦ omega arith ] in
    let spelled = decimal-digits word finds.0.1 (omega arith) lead (omega arith) in
    (finds.0.0, sym spelled ∙ ap decimal (sym finds.0.2))

-- the second of these two facts alone
pub digits-spelled : (word : List ℕ) (result : Option ℕ) → IfSome result (λ n. (n < 2 ^ 32) × (word ≡ decimal n)) → IfSome result (λ n. word ≡ decimal n)
digits-spelled word None found = tt
digits-spelled word (Some n) found = found.1

-- a spelled number is found
pub digits-only : (word : List ℕ) (result : Option ℕ) → FindsDigits word result → (n : ℕ) → n < 2 ^ 32 → word ≡ decimal n → result ≡ Some n
digits-only word None finds n small is =
    let numeral = decimal_is_IsNumeral n (omega arith) in
    let large = rw is at finds.1 in
    absurd (omega (arith, large numeral.0.1, numeral.1))
digits-only word (Some m) finds n small is = ap Some (finds.0.2 ∙ ap (digits_value 10) is ∙ digits_value-decimal n small)

-- an empty word spells no number
pub empty-only : (word : List ℕ) → length word ≡ 0 → (n : ℕ) → n < 2 ^ 32 → word ≡ decimal n → None ≡ Some n
empty-only word empty n small is = absurd (omega (arith, ap length is, decimal_nonempty n (omega arith)))

-- nor does a word with a leading zero
pub lead-only : (word : List ℕ) → 1 < length word → get_or word 0 0 ≡ 48 → (n : ℕ) → n < 2 ^ 32 → word ≡ decimal n → None ≡ Some n
lead-only word long lead n small is =
    let one = decimal-lead n small (ap (λ w. get_or w 0 0) (sym is) ∙ lead) in
    absurd (omega (arith, ap length is, one))

-- the value of a digit
pub digit_value-digit : (byte : ℕ) → 48 ≤ byte → byte ≤ 57 → digit_value byte ≡ byte - 48
digit_value-digit byte low high = grind (arith, nat_tests)

-- more digits make no smaller number
pub digits_value_after-from : (n : ℕ) (digits : List ℕ) → n ≤ digits_value_after 10 n digits
digits_value_after-from n [] = omega arith
digits_value_after-from n (c ∷ cs) = omega (arith, digits_value_after-from (n * 10 + digit_value c) cs)

-- ---- what a number's spelling is made of

-- each byte of a number's spelling is a digit
pub decimal-digits_only : (n : ℕ) → n < 2 ^ 32 → All (λ byte. (48 ≤ byte) × (byte ≤ 57)) (decimal n)
decimal-digits_only n small =
    let digits = (decimal_is_IsNumeral n (omega arith)).0.1 in
    All-from_get_or (λ byte. (48 ≤ byte) × (byte ≤ 57)) (decimal n) 0 (λ i within. let digit = digit_at (decimal n) i digits within in digit)

-- a number's spelling has at least one digit
pub decimal-not_empty : (n : ℕ) → n < 2 ^ 32 → 0 < length (decimal n)
decimal-not_empty n small = decimal_nonempty n (omega arith)

-- a number's spelling has at most ten digits
pub length-decimal : (n : ℕ) → n < 2 ^ 32 → length (decimal n) ≤ 10
length-decimal n small = length-decimal-le 10 n (omega arith) (omega arith) (omega arith)

-- a power of ten is not 0
pow_ten_positive : (k : ℕ) → 0 < 10 ^ k
pow_ten_positive zero = omega arith
pow_ten_positive (suc k) = let step = pow-succ' 10 k in omega (arith, step, pow_ten_positive k)

-- a number from 10 ^ k on has more than k digits
pub decimal-longer : (n : ℕ) → n < 2 ^ 64 → (k : ℕ) → 10 ^ k ≤ n → k < length (decimal n)
decimal-longer = decimal_by_steps (λ n digits. (k : ℕ) → 10 ^ k ≤ n → k < length digits) one more
  where
    one : (n : ℕ) → n < 10 → (k : ℕ) → 10 ^ k ≤ n → k < 1
    one n below zero from = omega arith
    one n below (suc k) from = let step = pow-succ' 10 k in absurd (omega (arith, step, pow_ten_positive k))

    more : (n : ℕ) (digits : List ℕ) → 10 ≤ n → ((k : ℕ) → 10 ^ k ≤ n / 10 → k < length digits) → (k : ℕ) → 10 ^ k ≤ n → k < length (digits ++ ((48 + n % 10) ∷ []))
    more n digits high front zero from = omega (arith, length-append digits ((48 + n % 10) ∷ []))
    more n digits high front (suc k) from =
        let step = pow-succ' 10 k in
        let below = front k (omega (arith, step)) in
        omega (arith, below, length-append digits ((48 + n % 10) ∷ []))

-- a number from 10 ^ k on and below the next power has k + 1 digits
pub length-decimal_power : (n k : ℕ) → n < 2 ^ 32 → 10 ^ k ≤ n → n < 10 * 10 ^ k → length (decimal n) ≡ k + 1
length-decimal_power n k small low high =
    let step = pow-succ' 10 k in
    let longer = decimal-longer n (omega arith) k low in
    let most = length-decimal-le (suc k) n (omega arith) (omega (arith, step)) (omega arith) in
    omega arith

-- the facts on a number's spelling, for `using`
pub ruleset decimal_facts = (decimal-digits_only, decimal-not_empty, length-decimal)
