-- A record with a printing and a completion, and their text (this project's rules for a recount).
use Rattle.std.specs.Prelude.{◌≡◌, ℕ, ◌<◌, true, false, List, [], ◌∷◌, ◌++◌, All, length, map, codes, slice_get, Option, Some, None}
use Rattle.std.specs.List.{join_with_byte}
use Rattle.std.specs.Option.{option_and_then, option_map_or}
use Rattle.sg_commit.specs.declared.Opening.{Opening}
use Rattle.sg_plan.specs.Ballots.{candidates_of, rows_of}
use Rattle.sg_plan.specs.Codes.{codes_of}
use Rattle.sg_plan.specs.declared.plan.Plan.{Plan}
use Rattle.sg_plan.specs.declared.plan.Side.{Side}
use Rattle.sg_plan.specs.declared.plan.Side.TheVariants as side
use Rattle.sg_sheet.specs.Sheet.{Printed, line_text, sheet_lines}
use Rattle.sg_forms.specs.Spelling.{IsOpening, row_words}
use Rattle.sg_forms.specs.declared.line.RowOpening.{RowOpening}
use Rattle.sg_forms.specs.declared.line.RowOpening.TheVariants as opened
use Rattle.sg_record.specs.Formed.{has_rows, is_formed}
use Rattle.sg_record.specs.Laws.{HasWords}
use Rattle.sg_record.specs.Lines.{texts_in}
use Rattle.sg_record.specs.Places.{places_in}
use Rattle.sg_record.specs.declared.record.Record.{Record}
use Rattle.sg_check.specs.Completions.{Completion, IsCompletion, OpensNoneTwice}
use Rattle.sg_check.specs.Judging.{first_late}
use Rattle.sg_check.specs.Kinds.{has_repeat}
use Rattle.sg_check.specs.Printings.{IsPrinting, Printing, StandsWith}
use Rattle.sg_fronts.specs.ByRecords.{posted_of}
use Rattle.sg_facts.specs.Items.{item_in, row_in}
use Rattle.sg_parts.specs.declared.parts.RowGiven.{RowGiven}

-- what is given: a record, the codes of a printing by race, ballot row and candidate, and the openings of a completion by
-- race, instance and row
pub record Given : Type 0 where
  pub posted : Record
  pub codes : List (List (List ℕ))
  pub rows : List (List (List RowGiven))

-- AS FUNCTIONS OF NUMBERS

-- the code beside a candidate in a ballot row of a race
abbrev pub printing_of : List (List (List ℕ)) → Printing
printing_of lists race row candidate = option_map_or (λ code. code) (row_in lists race row candidate) 0

-- the codes in a ballot row of a race, by candidate
abbrev pub printed_of : List (List (List ℕ)) → Printed
printed_of lists race row = option_map_or (λ list. list) (item_in lists race row) []

abbrev pub half_given : Side → RowGiven → Option Opening
half_given side.Left row = row.left
half_given side.Right row = row.right

-- the opening of a half, or none
abbrev pub completion_of : List (List (List RowGiven)) → Completion
completion_of lists on race instance row = option_and_then (half_given on) (row_in lists race instance row)

-- AS TEXT

-- the lines of the printer's sheet, with the codes of the printing
abbrev pub sheet_texts : Plan → List (List (List ℕ)) → List (List ℕ)
sheet_texts plan lists = map (line_text plan.version) (sheet_lines plan (printed_of lists))

-- the line of an opened row, as in a record
abbrev pub opening_text : RowOpening → List ℕ
opening_text opening = join_with_byte 32 (row_words opening) ++ 10 ∷ []

-- the line of a row of the completion: both halves, one of them, or none
abbrev pub halves_text : Option Opening → Option Opening → List ℕ
halves_text (Some left) (Some right) = opening_text (opened.Both left right)
halves_text (Some left) None = opening_text (opened.Left left)
halves_text None (Some right) = opening_text (opened.Right right)
halves_text None None = codes "none\n"

abbrev pub row_text : RowGiven → List ℕ
row_text row = halves_text row.left row.right

-- lists, one after another
abbrev pub joined : {A : Type 0} → List (List A) → List A
joined [] = []
joined (xs ∷ lists) = xs ++ joined lists

-- the rows of all races and instances, one after another
abbrev pub completion_texts : List (List (List RowGiven)) → List (List ℕ)
completion_texts rows = map row_text (joined (joined rows))

-- the lines before the sheet and before the completion
abbrev pub printing_line : List ℕ
printing_line = codes "printing\n"

abbrev pub completion_line : List ℕ
completion_line = codes "completion\n"

-- the record, the printing and the completion, one behind the other
abbrev pub given_texts : Given → List (List ℕ)
given_texts given = texts_in given.posted ++ printing_line ∷ (sheet_texts given.posted.plan given.codes ++ completion_line ∷ completion_texts given.rows)

-- WHAT IS READ

-- a different code of the plan's version for each candidate of a race
pub record AreCodes (plan : Plan) (race : ℕ) (list : List ℕ) : Type 0 where
  pub long : length list ≡ candidates_of plan race
  pub below : All (λ code. code < codes_of plan.version) list
  pub differ : has_repeat list ≡ false

-- such codes for each ballot row of each race
pub record ArePrinted (plan : Plan) (lists : List (List (List ℕ))) : Type 0 where
  pub races : length lists ≡ length plan.races
  pub rows : (race : ℕ) (rows : List (List ℕ)) → slice_get lists race ≡ Some rows → length rows ≡ rows_of plan race
  pub codes_are : (race row : ℕ) (list : List ℕ) → item_in lists race row ≡ Some list → AreCodes plan race list

-- an opening of a half is a key of 16 bytes and a pointer of 32 bits
abbrev pub IsHalf : Option Opening → Type 0
IsHalf (Some opening) = IsOpening opening
IsHalf None = Unit {0}

pub record IsRowGiven (row : RowGiven) : Type 0 where
  pub left : IsHalf row.left
  pub right : IsHalf row.right

-- each opening that is given is one
abbrev pub AreOpenings : List (List (List RowGiven)) → Type 0
AreOpenings rows = (on : Side) (race instance row : ℕ) (opening : Opening) → completion_of rows on race instance row ≡ Some opening → IsOpening opening

-- the lines spell this record, printing and completion
pub record IsGiven (lines : List (List ℕ)) (given : Given) : Type 0 where
  pub words : HasWords given.posted
  pub formed : is_formed given.posted ≡ true
  pub printed : ArePrinted given.posted.plan given.codes
  pub rows : has_rows given.posted.plan given.rows ≡ true
  pub openings : AreOpenings given.rows
  pub text : lines ≡ given_texts given

-- the verdict on the record is yes: it has a text, and none of its lines is bad
pub record IsAccepted (posted : Record) : Type 0 where
  pub words : HasWords posted
  pub formed : is_formed posted ≡ true
  pub none_bad : first_late posted.plan (posted_of posted) ≡ None

-- what holds of all parts that are read: the record's verdict is yes, the printing stands with it, and the completion opens
-- no commitment twice
pub record AreParts (given : Given) : Type 0 where
  pub accepted : IsAccepted given.posted
  pub printed : ArePrinted given.posted.plan given.codes
  pub rows : has_rows given.posted.plan given.rows ≡ true
  pub is_printing : IsPrinting given.posted.plan (printing_of given.codes)
  pub stands : StandsWith given.posted.plan (places_in given.posted) (printing_of given.codes)
  pub completes : IsCompletion given.posted.plan (places_in given.posted) (completion_of given.rows)
  pub none_twice : OpensNoneTwice (places_in given.posted) (completion_of given.rows)
