-- The names of an election, of its races, candidates and styles (this project's rules for the record).
use Rattle.std.specs.Prelude.{ℕ, ◌≤◌, nat_le, Bool, ◌&&◌, not, List, All, length, bytes_eq}
use Rattle.std.specs.List.{list_all, list_any}

-- a printable ASCII character other than the space
abbrev pub IsNameByte : ℕ → Type 0
IsNameByte byte = (0x21 ≤ byte) × (byte ≤ 0x7E)

abbrev pub AreNameBytes : List ℕ → Type 0
AreNameBytes bytes = All IsNameByte bytes

-- 1 to 64 bytes, each of which may stand in a name
abbrev pub IsName : List ℕ → Type 0
IsName word = (1 ≤ length word) × (length word ≤ 64) × AreNameBytes word

-- from the least to the most, both included
abbrev pub is_within : ℕ → ℕ → ℕ → Bool
is_within least most n = nat_le least n && nat_le n most

-- the same of names, as a test
abbrev pub is_name_word : List ℕ → Bool
is_name_word word = is_within 1 64 (length word) && list_all (is_within 0x21 0x7E) word

-- one of the words is this one
abbrev pub is_among : List (List ℕ) → List ℕ → Bool
is_among words word = list_any (λ w. bytes_eq w word) words

-- a name, and none of the earlier ones
abbrev pub name_keeps : List (List ℕ) → List ℕ → Bool
name_keeps earlier name = is_name_word name && not (is_among earlier name)
