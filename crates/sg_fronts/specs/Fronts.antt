-- Each front of a record goes on to a whole record.
use Rattle.std.specs.Prelude.{ℕ, List, ◌++◌}
use Rattle.sg_grammar.specs.Laws.{IsFront}
use Rattle.sg_record.specs.Laws.{AreWhole}

-- behind lines that may stand one after another, some further lines make a whole record of them
abbrev pub FrontsGoOn : Type 0
FrontsGoOn = (lines : List (List ℕ)) → IsFront lines → (more : List (List ℕ)) × AreWhole (lines ++ more)
