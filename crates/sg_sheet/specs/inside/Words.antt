-- How the words of codes are read: a space and a code for each candidate, and then a line feed.
use Rattle.std.specs.Prelude.{ℕ, zero, suc, ◌==◌, nat_lt, if◌then◌else◌, List, [], ◌∷◌, drop, length, slice_index, slice_range, bytes_eq, Option, Some, None}
use Rattle.std.specs.Option.{option_and_then, option_map}
use Rattle.sg_lines.specs.Words.{code_of}

-- the code whose word stands behind a space
abbrev pub code_behind : ℕ → List ℕ → Option ℕ
code_behind version bytes = (if nat_lt (length bytes) 4 then None else (if slice_index bytes 0 == 32 then code_of version (slice_range bytes 1 4) else None))

-- so many codes, and then a line feed
abbrev pub codes_in : ℕ → ℕ → List ℕ → Option (List ℕ)
codes_in version zero bytes = (if bytes_eq bytes (10 ∷ []) then Some [] else None)
codes_in version (suc count) bytes = option_and_then (λ code. option_map (λ list. code ∷ list) (codes_in version count (drop 4 bytes))) (code_behind version bytes)
