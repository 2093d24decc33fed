-- The scans of a scanner file (this project's rules for scanner files).
use Rattle.std.specs.Prelude.{◌≡◌, ℕ, ◌+◌, ◌<◌, ◌==◌, if◌then◌else◌, Bool, true, false, ◌&&◌, List, [], ◌∷◌, length, map, drop, bytes_eq, codes, Option, Some, None, is_none}
use Rattle.std.specs.Option.{option_map, option_map_or, option_and_then}
use Rattle.csv.specs.Records.{field_at}
use Rattle.sg_plan.specs.declared.plan.Mark.{Mark}
use Rattle.sg_lines.specs.Words.{decimal_of, key_of}
use Rattle.sg_forms.specs.Reading.{all_by, words_in}
use Rattle.sg_acts.specs.declared.asks.Act.{Act}
use Rattle.sg_acts.specs.declared.asks.Act.TheVariants as act
use Rattle.sg_acts.specs.declared.asks.Ask.{Ask}
use Rattle.sg_acts.specs.declared.asks.Ask.TheVariants as ask
use Rattle.sg_acts.specs.declared.asks.Stamp.{Stamp}
use Rattle.sg_desks.specs.ActReading.{mark_of}
use Rattle.sg_scans.specs.FileRecords.{records_of}
use Rattle.sg_scans.specs.declared.fields.ScanLine.{ScanLine}
use Rattle.sg_scans.specs.declared.fields.ScanLine.TheVariants as line
use Rattle.sg_scans.specs.declared.file.ScansFault.{ScansFault}
use Rattle.sg_scans.specs.declared.file.ScansFault.TheVariants as fault

-- how many scans a file has at most
abbrev pub most_scans : ℕ
most_scans = 100000

-- THE FIRST RECORD

-- the field at this place is this word
abbrev pub field_is : List (List ℕ) → ℕ → List ℕ → Bool
field_is fields at word = option_map_or (λ field. bytes_eq field word) (field_at fields at) false

-- the record is station,secret,ref,ballot,marks
abbrev pub is_header : List (List ℕ) → Bool
is_header fields =
    field_is fields 0 (codes "station") && (field_is fields 1 (codes "secret") && (field_is fields 2 (codes "ref")
    && (field_is fields 3 (codes "ballot") && (field_is fields 4 (codes "marks") && is_none (field_at fields 5)))))

-- the first of these records is that
abbrev pub has_header : List (List (List ℕ)) → Bool
has_header [] = false
has_header (first ∷ rest) = is_header first

-- EVERY FURTHER RECORD

-- who asks: station and number in decimal digits, and the secret in 32 lower-case hexadecimal digits
abbrev pub stamp_in : List ℕ → List ℕ → List ℕ → Option Stamp
stamp_in station secret number =
    option_and_then (λ s. option_and_then (λ k. option_map (λ n. record { station = s; secret = k; number = n }) (decimal_of number)) (key_of secret)) (decimal_of station)

-- no marks, or marks with one space between two of them
abbrev pub marks_in : List ℕ → Option (List Mark)
marks_in word = (if length word == 0 then Some [] else all_by mark_of (words_in word))

-- a scan: a ballot in decimal digits, and its marks
abbrev pub scan_in : List ℕ → List ℕ → Option Act
scan_in ballot marks = option_and_then (λ b. option_map (act.Scan b) (marks_in marks)) (decimal_of ballot)

-- what a record asks for: it has five fields, and each is what it should be
abbrev pub ask_in : List (List ℕ) → Option Ask
ask_in (station ∷ secret ∷ number ∷ ballot ∷ marks ∷ []) = option_and_then (λ stamp. option_map (ask.Do stamp) (scan_in ballot marks)) (stamp_in station secret number)
ask_in other = None

-- the ask, or that the record has another shape
abbrev pub line_in : Option Ask → ScanLine
line_in None = line.Shape
line_in (Some asked) = line.Good asked

unfoldable pub scan_line : List (List ℕ) → ScanLine
scan_line fields = line_in (ask_in fields)

-- the scans and the records of another shape behind the first record
abbrev pub scans_of : List ℕ → List ScanLine
scans_of bytes = map scan_line (drop 1 (records_of bytes))

-- FAULTS

-- this is wrong with the records; a first record that is no header comes before a number of records that is too high
abbrev pub IsFault : ScansFault → List (List (List ℕ)) → Type 0
IsFault fault.Header records = has_header records ≡ false
IsFault fault.Count records = (has_header records ≡ true) × (most_scans + 1 < length records)
IsFault fault.NoMemory records = Unit {0}
