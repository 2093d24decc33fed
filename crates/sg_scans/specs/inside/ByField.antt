-- A record, read field by field.
use Rattle.std.specs.Prelude.{ℕ, ◌^◌, nat_lt, if◌then◌else◌, Bool, true, List, [], ◌∷◌, ◌++◌, length, codes, Option, None, is_none}
use Rattle.std.specs.Option.{option_map, option_and_then}
use Rattle.csv.specs.Records.{field_at}
use Rattle.sg_lines.specs.Words.{decimal_of, key_of}
use Rattle.sg_acts.specs.declared.asks.Act.{Act}
use Rattle.sg_acts.specs.declared.asks.Act.TheVariants as act
use Rattle.sg_acts.specs.declared.asks.Ask.{Ask}
use Rattle.sg_acts.specs.declared.asks.Ask.TheVariants as ask
use Rattle.sg_acts.specs.declared.asks.Stamp.{Stamp}
use Rattle.sg_scans.specs.ScanLines.{scan_in}

abbrev pub number_at : List (List ℕ) → ℕ → Option ℕ
number_at fields at = option_and_then decimal_of (field_at fields at)

abbrev pub secret_at : List (List ℕ) → ℕ → Option (List ℕ)
secret_at fields at = option_and_then key_of (field_at fields at)

-- who asks, by the first three fields
abbrev pub stamp_at : List (List ℕ) → Option Stamp
stamp_at fields = option_and_then (λ s. option_and_then (λ k. option_map (λ n. record { station = s; secret = k; number = n }) (number_at fields 2)) (secret_at fields 1)) (number_at fields 0)

-- the scan, by the next two
abbrev pub scan_at : List (List ℕ) → Option Act
scan_at fields = option_and_then (λ ballot. option_and_then (scan_in ballot) (field_at fields 4)) (field_at fields 3)

-- what is asked for, where there is no sixth field
abbrev pub ask_at : List (List ℕ) → Option Ask
ask_at fields = (if is_none (field_at fields 5) then option_and_then (λ stamp. option_map (ask.Do stamp) (scan_at fields)) (stamp_at fields) else None)

-- what stands behind the ballot in the text of a scan
abbrev pub marks_behind : List ℕ → List ℕ
marks_behind [] = []
marks_behind (byte ∷ marks) = 32 ∷ byte ∷ marks

-- the text of a scan, as texts of acts are
abbrev pub scan_text : List ℕ → List ℕ → List ℕ
scan_text ballot marks = codes "scan " ++ ballot ++ marks_behind marks

-- the marks of a scan can be counted by 32 bits
abbrev pub is_counted : Ask → Bool
is_counted (ask.Do stamp (act.Scan ballot marks)) = nat_lt (length marks) (2 ^ 32)
is_counted other = true
