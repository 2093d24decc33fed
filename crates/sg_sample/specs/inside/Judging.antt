-- Of which texts the verdict is yes.
use Rattle.std.specs.Prelude.{ℕ, List}
use Rattle.sg_outside.specs.TextLines.{lines_of}
use Rattle.sg_check.specs.Verdict.{IsVerdict}
use Rattle.sg_check.specs.declared.judged.Judged.TheVariants as judged
use Rattle.sg_check.specs.declared.judged.Total.{Total}

-- the verdict on the text is yes
abbrev pub HasTotals : List ℕ → Type 0
HasTotals text = (totals : List Total) × IsVerdict (lines_of text) (judged.Yes totals)
