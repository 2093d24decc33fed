-- The total that a record posts of a candidate (this project's rules for the record).
use Rattle.std.specs.Prelude.{ℕ, ◌==◌, ◌&&◌, if◌then◌else◌, List, Option, Some, None}
use Rattle.std.specs.Option.{option_map_or}
use Rattle.sg_grammar.specs.Placed.{Placed}
use Rattle.sg_grammar.specs.Placed.Placed.{TotalAt}
use Rattle.sg_check.specs.Facts.{first_given}

-- the line is the candidate's total
abbrev pub totals_candidate : ℕ → ℕ → Placed → Option ℕ
totals_candidate race candidate (TotalAt of at count) = (if of == race && at == candidate then Some count else None)
totals_candidate race candidate line = None

-- the total that is posted of a candidate
abbrev pub total_of : List Placed → ℕ → ℕ → ℕ
total_of lines race candidate = option_map_or (λ count. count) (first_given (totals_candidate race candidate) lines) 0
