-- The length that the header lines of a request give its body. A field is a name and a value.
use Rattle.std.specs.Prelude.{ℕ, ◌+◌, ◌*◌, ◌-◌, Option, None, Some, nat_le, nat_lt, ◌&&◌, Bool, List, [], ◌∷◌, length, map, codes, Result, Ok, Err, if◌then◌else◌}
use Rattle.std.specs.List.{list_all}
use Rattle.std.specs.Str.{bytes_eq}
use Rattle.std.specs.Char.{to_ascii_lowercase, is_ascii_digit}
use Rattle.sg_plan.specs.Limits.{longest_ask}
use Rattle.sg_http.specs.declared.refusal.Refusal.{Refusal}
use Rattle.sg_http.specs.declared.refusal.Refusal.TheVariants.{NoLength, BadLength, Size}

-- the name is this one, which is written in lower case, without regard to case
abbrev pub is_named : List ℕ → List ℕ → Bool
is_named name word = bytes_eq (map to_ascii_lowercase word) name

-- the values of the fields of this name
abbrev pub values_of : List ℕ → List (List ℕ × List ℕ) → List (List ℕ)
values_of name [] = []
values_of name (field ∷ fields) =
    if is_named name field.0 then field.1 ∷ values_of name fields else values_of name fields

-- the number that digits write behind those of another number
abbrev pub number_from : ℕ → List ℕ → ℕ
number_from n [] = n
number_from n (c ∷ cs) = number_from (10 * n + (c - 48)) cs

-- what a digit stands for
abbrev pub digit_of : ℕ → Option ℕ
digit_of c = if is_ascii_digit c then Some (c - 48) else None

-- one or more digits, however many, that stand for at most 65,536
abbrev pub numeral : List ℕ → Result ℕ Refusal
numeral value =
    if nat_lt 0 (length value) && list_all is_ascii_digit value
    then (if nat_le (number_from 0 value) longest_ask then Ok (number_from 0 value) else Err Size)
    else Err BadLength

-- there must be one value
abbrev pub one_length : List (List ℕ) → Result ℕ Refusal
one_length [] = Err NoLength
one_length (value ∷ []) = numeral value
one_length (value ∷ other ∷ others) = Err BadLength

-- the length, which no transfer coding may replace
abbrev pub plain_length : List (List ℕ) → List (List ℕ) → Result ℕ Refusal
plain_length [] lengths = one_length lengths
plain_length (coding ∷ codings) lengths = Err NoLength

abbrev pub length_of : List (List ℕ × List ℕ) → Result ℕ Refusal
length_of fields = plain_length (values_of (codes "transfer-encoding") fields) (values_of (codes "content-length") fields)
