-- The laws of records and their texts.
use Rattle.std.specs.Prelude.{◌≡◌, ℕ, true, false, List, All, Some}
use Rattle.std.specs.Option.{option_map_or}
use Rattle.sg_outside.specs.TextLines.{lines_of}
use Rattle.sg_forms.specs.Spelling.{IsInRange}
use Rattle.sg_grammar.specs.Walk.{Walked, start, is_whole, walk}
use Rattle.sg_record.specs.Formed.{is_formed}
use Rattle.sg_record.specs.Lines.{lines_in, text_of, texts_in}
use Rattle.sg_record.specs.Places.{walk_of}
use Rattle.sg_record.specs.Typed.{IsTyped}
use Rattle.sg_record.specs.declared.record.Record.{Record}

-- the lines are a whole record
abbrev pub AreWhole : List (List ℕ) → Type 0
AreWhole lines = option_map_or (λ (w : Walked). is_whole w.next) (walk start lines) false ≡ true

-- each word is of its kind: what the types of the program ensure of numbers, keys and digests, and `is_formed` of the
-- others
abbrev pub HasWords : Record → Type 0
HasWords posted = All (IsInRange posted.plan.version) (lines_in posted)

-- the lines are those of this record, which has a text
pub record AreLinesOf (lines : List (List ℕ)) (posted : Record) : Type 0 where
  pub words : HasWords posted
  pub formed : is_formed posted ≡ true
  pub text : lines ≡ texts_in posted

-- the bytes are the text of this record, which has one
pub record IsTextOf (bytes : List ℕ) (posted : Record) : Type 0 where
  pub words : HasWords posted
  pub formed : is_formed posted ≡ true
  pub text : bytes ≡ text_of posted

-- the lines of each formed record's text are a whole record
abbrev pub FormedAreWhole : Type 0
FormedAreWhole = (posted : Record) → HasWords posted → is_formed posted ≡ true → AreWhole (texts_in posted)

-- lines that are a whole record are those of a formed record's text
abbrev pub WholeAreFormed : Type 0
WholeAreFormed = (lines : List (List ℕ)) → AreWhole lines → (posted : Record) × HasWords posted × (is_formed posted ≡ true) × (lines ≡ texts_in posted)

-- different formed records have different texts
abbrev pub TextsDiffer : Type 0
TextsDiffer = (a b : Record) → HasWords a → HasWords b → is_formed a ≡ true → is_formed b ≡ true → text_of a ≡ text_of b → a ≡ b

-- the walk over the lines of each formed record's text has each line in its place, and ends behind the record
abbrev pub FormedAreWalked : Type 0
FormedAreWalked = (posted : Record) → HasWords posted → is_formed posted ≡ true → walk start (texts_in posted) ≡ Some (walk_of posted)

-- the lines of a record's text are its lines
abbrev pub TextsHaveLines : Type 0
TextsHaveLines = (posted : Record) → HasWords posted → lines_of (text_of posted) ≡ texts_in posted

-- the words of each formed record are of their kinds, where its numbers are of the program's types
abbrev pub TypedHaveWords : Type 0
TypedHaveWords = (posted : Record) → IsTyped posted → is_formed posted ≡ true → HasWords posted
