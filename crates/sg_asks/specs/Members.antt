-- What stands in a JSON value, by its kind.
use Rattle.std.specs.Prelude.{ℕ, ◌^◌, nat_lt, ◌==◌, Bool, false, if◌then◌else◌, List, [], ◌∷◌, Option, None, Some}
use Rattle.std.specs.Option.{option_map, option_and_then}
use Rattle.serde_json.specs.Data.{Data, object, Items, no_items, item}
use Rattle.serde_json.specs.Events.{members_len}
use Rattle.serde_json.specs.Find.{as_array, as_number, as_str, as_u64, get}
use Rattle.sg_lines.specs.Words.{code_of, key_of}

-- ---- values that are there or not

-- of two values, where both are there
abbrev pub both : {A B C : Type 0} → (A → B → C) → Option A → Option B → Option C
both make first second = option_and_then (λ a. option_map (make a) second) first

-- of three values, where all are there
abbrev pub all_three : {A B C D : Type 0} → (A → B → C → D) → Option A → Option B → Option C → Option D
all_three make first second third = option_and_then (λ a. both (make a) second third) first

-- ---- objects

-- the value is an object of so many members, each with a name of its own
unfoldable pub has_members : ℕ → Data → Bool
has_members count (object members) = members_len members == count
has_members count other = false

-- what is found, where the value is an object of so many members: if each member that was looked for is there, it has
-- exactly these
abbrev pub where_has : {A : Type 0} → ℕ → Data → Option A → Option A
where_has count value found = if has_members count value then found else None

-- the member of that name, read by its kind
abbrev pub member_by : {A : Type 0} → (Data → Option A) → List ℕ → Data → Option A
member_by kind name value = option_and_then kind (get name value)

-- ---- kinds of values

-- a whole number below 2 ^ 32, written without fraction and exponent
unfoldable pub number_in : Data → Option ℕ
number_in value = option_and_then (λ n. if nat_lt n (2 ^ 32) then Some n else None) (option_and_then as_u64 (as_number value))

-- a text
abbrev pub text_in : Data → Option (List ℕ)
text_in value = as_str value

-- a text of 32 lower-case hexadecimal digits, read as the 16 bytes that they spell
unfoldable pub secret_in : Data → Option (List ℕ)
secret_in value = option_and_then key_of (as_str value)

-- a text that spells a code of the version
unfoldable pub code_in : ℕ → Data → Option ℕ
code_in version value = option_and_then (code_of version) (as_str value)

-- ---- lists

-- each item, read by its kind
abbrev pub each_by : {A : Type 0} → (Data → Option A) → Items → Option (List A)
each_by kind no_items = Some []
each_by kind (item value items) = both (λ first others. first ∷ others) (kind value) (each_by kind items)

-- a list, each item read by its kind
abbrev pub list_by : {A : Type 0} → (Data → Option A) → Data → Option (List A)
list_by kind value = option_and_then (each_by kind) (as_array value)
