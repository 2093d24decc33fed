-- A reading that is defined by the spelling.
use Rattle.std.specs.Prelude.{if◌then◌else◌}
use Rattle.std.proofs.Common.{◌≡◌, Bool, true, false, ◌&&◌, List, ℕ, Some, None, refl, ap, ◌∙◌}
use Rattle.std.proofs.lemmas.Bool.{and_parts}
use Rattle.std.proofs.lemmas.Slice.Eq.{bytes_eq-Decides}
use Rattle.std.specs.Str.{bytes_eq}
use Rattle.sg_lines.specs.Words.{where_spelled}

-- a value that is kept under a test is that value, and the test holds
kept : {A : Type 0} (test : Bool) (value x : A) → (if test then Some value else None) ≡ Some x → (test ≡ true) × (value ≡ x)
kept true value x read = (refl, cc read)
kept false value x read = cc read

-- what is read is in range, and is spelled by the word
pub where_spelled-found : {A : Type 0} (spelling : A → List ℕ) (word : List ℕ) (value : A) (is_in_range : Bool) (x : A)
    → where_spelled spelling word value is_in_range ≡ Some x
    → (is_in_range ≡ true) × (value ≡ x) × (word ≡ spelling x)
where_spelled-found spelling word value is_in_range x read =
    let kept_value = kept (is_in_range && bytes_eq word (spelling value)) value x read in
    let tests = and_parts is_in_range (bytes_eq word (spelling value)) kept_value.0 in
    (tests.0, kept_value.1, (bytes_eq-Decides word (spelling value)).0 tests.1 ∙ ap spelling kept_value.1)

-- a value in range is read from its spelling
pub where_spelled-only : {A : Type 0} (spelling : A → List ℕ) (word : List ℕ) (value : A) (is_in_range : Bool)
    → is_in_range ≡ true → word ≡ spelling value → where_spelled spelling word value is_in_range ≡ Some value
where_spelled-only spelling word value is_in_range in_range same =
    rw (in_range, (bytes_eq-Decides word (spelling value)).1 same) refl
