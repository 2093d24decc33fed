-- How codes are put into a table.
use Rattle.std.specs.Prelude.{◌≡◌, ℕ, ◌<◌, true, List, length, slice_get, slice_set, Option, Some, None, IsSome}
use Rattle.std.specs.Option.{option_map_or}
use Rattle.sg_forms.specs.declared.line.CodeLine.{CodeLine}
use Rattle.sg_grammar.specs.Walk.{is_column}
use Rattle.sg_plan.specs.Ballots.{entries_of}
use Rattle.sg_plan.specs.declared.plan.Plan.{Plan}
use Rattle.sg_record.specs.Formed.{is_dispute, is_fate}
use Rattle.sg_record.specs.declared.record.BallotBlock.{BallotBlock}
use Rattle.sg_record.specs.declared.record.CastLine.{CastLine}
use Rattle.sg_record.specs.declared.record.CastLine.TheVariants as cast
use Rattle.sg_record.specs.declared.record.DisputeBlock.{DisputeBlock}
use Rattle.sg_check.specs.Facts.{first_given}
use Rattle.sg_facts.specs.Items.{item_in}

-- the code, unless one stands there
abbrev pub or_code : ℕ → Option ℕ → Option ℕ
or_code code kept = Some (option_map_or (λ k. k) kept code)

abbrev pub put_at : List (Option ℕ) → ℕ → ℕ → Option ℕ → List (Option ℕ)
put_at codes entry code None = slice_set codes entry (Some code)
put_at codes entry code (Some kept) = codes

abbrev pub with_first : List (Option ℕ) → ℕ → ℕ → List (Option ℕ)
with_first codes entry code = put_at codes entry code (option_map_or (λ kept. kept) (slice_get codes entry) None)

-- what stands at an entry's place
abbrev pub told : List (List (Option ℕ)) → ℕ → ℕ → Option ℕ
told table race entry = option_map_or (λ kept. kept) (item_in table race entry) None

-- there is a place for each entry
abbrev pub IsSized : Plan → List (List (Option ℕ)) → Type 0
IsSized plan table = (race entry : ℕ) → race < length plan.races → entry < entries_of plan race → IsSome (item_in table race entry)

-- behind these lines, what stands at each entry's place is what stood there, or else what one of them gives
abbrev pub Puts : Plan → List (List (Option ℕ)) → List (List (Option ℕ)) → (ℕ → ℕ → Option ℕ) → Type 0
Puts plan old new given = (race entry : ℕ) → race < length plan.races → entry < entries_of plan race → told new race entry ≡ option_map_or Some (told old race entry) (given race entry)

-- behind what stands, what the items left give is what all items give behind what stood
abbrev pub PutsLeft : {A : Type 0} → Plan → List (List (Option ℕ)) → List (List (Option ℕ)) → (ℕ → ℕ → A → Option ℕ) → List A → List A → Type 0
PutsLeft plan old new given items left =
    (race entry : ℕ) → race < length plan.races → entry < entries_of plan race
    → option_map_or Some (told new race entry) (first_given (given race entry) left) ≡ option_map_or Some (told old race entry) (first_given (given race entry) items)

-- each of these codes is of a column of the ballot
abbrev pub AreOwn : Plan → ℕ → List CodeLine → Type 0
AreOwn plan ballot codes = (at : ℕ) (code : CodeLine) → slice_get codes at ≡ Some code → is_column plan ballot code.race code.column ≡ true

-- and so is the code of each of these lines, where it has one
abbrev pub IsOwnLine : Plan → ℕ → CastLine → Type 0
IsOwnLine plan ballot (cast.Code code) = is_column plan ballot code.race code.column ≡ true
IsOwnLine plan ballot line = Unit {0}

abbrev pub AreOwnLines : Plan → ℕ → List CastLine → Type 0
AreOwnLines plan ballot lines = (at : ℕ) (line : CastLine) → slice_get lines at ≡ Some line → IsOwnLine plan ballot line

abbrev pub AreFates : Plan → List BallotBlock → Type 0
AreFates plan blocks = (at : ℕ) (one : BallotBlock) → slice_get blocks at ≡ Some one → is_fate plan one.ballot one.fate ≡ true

abbrev pub AreDisputes : Plan → List DisputeBlock → Type 0
AreDisputes plan blocks = (at : ℕ) (one : DisputeBlock) → slice_get blocks at ≡ Some one → is_dispute plan one ≡ true
