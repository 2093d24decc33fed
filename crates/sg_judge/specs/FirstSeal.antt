-- The digest of a record's line `seal 1`.
use Rattle.std.specs.Prelude.{ℕ, ◌==◌, if◌then◌else◌, List, Option, Some, None}
use Rattle.std.specs.Option.{option_map_or}
use Rattle.sg_check.specs.Facts.{first_given}
use Rattle.sg_commit.specs.declared.Digest.{Digest}
use Rattle.sg_grammar.specs.Lines.{placed_of}
use Rattle.sg_grammar.specs.Placed.{Placed}
use Rattle.sg_grammar.specs.Placed.Placed.{SealAt}
use Rattle.sg_grammar.specs.Walk.{start, walk}

-- that of one line, where it is `seal 1`
abbrev pub first_seal_on : Placed → Option Digest
first_seal_on (SealAt number digest) = (if number == 1 then Some digest else None)
first_seal_on line = None

-- that of lines in their places: the first of them that has one
abbrev pub first_seal_in : List Placed → Option Digest
first_seal_in lines = first_given first_seal_on lines

-- that of the lines of a record
abbrev pub first_seal : List (List ℕ) → Option Digest
first_seal lines = option_map_or (λ walked. first_seal_in (placed_of walked.posted)) (walk start lines) None
