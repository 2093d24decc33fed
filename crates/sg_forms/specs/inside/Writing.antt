-- How a line is written: its words one behind another over the front of bytes that stand there, a space behind each.
use Rattle.std.specs.Prelude.{ℕ, ◌≡◌, ◌≤◌, ◌+◌, List, [], ◌∷◌, ◌++◌, length, take, drop}
use Rattle.sg_lines.specs.Words.{decimal, code_word, encode_lower}
use Rattle.sg_forms.specs.Spelling.{IsCode}
use Rattle.sg_forms.specs.declared.parts.Part.{Part}
use Rattle.sg_forms.specs.declared.parts.Part.TheVariants as part

-- each word, and a space behind it
abbrev pub spaced : List (List ℕ) → List ℕ
spaced [] = []
spaced (word ∷ words) = word ++ 32 ∷ spaced words

-- the old bytes, with these in the place of those from `at` on
abbrev pub overwritten : ℕ → List ℕ → List ℕ → List ℕ
overwritten at bytes old = take at old ++ (bytes ++ drop (at + length bytes) old)

-- there is room for the words
abbrev pub HasRoom : List (List ℕ) → List ℕ → Type 0
HasRoom words old = length (spaced words) ≤ length old

-- the words are written, up to this end
pub record IsWritten (words : List (List ℕ)) (old new : List ℕ) (end : ℕ) : Type 0 where
  pub ends : end ≡ length (spaced words)
  pub bytes : new ≡ overwritten 0 (spaced words) old

-- the word of a part of a line
abbrev pub part_word : ℕ → Part → List ℕ
part_word version (part.Text bytes) = bytes.now
part_word version (part.Number value) = decimal value
part_word version (part.Hex bytes) = encode_lower bytes.now
part_word version (part.Code code) = code_word version code

-- a code is one of the version's
abbrev pub IsPart : ℕ → Part → Type 0
IsPart version (part.Code code) = IsCode version code
IsPart version _ = Unit {0}

abbrev pub AreParts : ℕ → List Part → Type 0
AreParts version [] = Unit {0}
AreParts version (first ∷ parts) = IsPart version first × AreParts version parts
