-- The report of an audit (this project's formats).
use Rattle.std.specs.Prelude.{ℕ, List, [], ◌∷◌, ◌++◌, codes, decimal}
use Rattle.sg_check.specs.Kinds.{kind_word}
use Rattle.sg_check.specs.declared.judged.Judged.{Judged}
use Rattle.sg_check.specs.declared.judged.Judged.TheVariants.{Yes, No}
use Rattle.sg_check.specs.declared.judged.Kind.{Kind}
use Rattle.sg_check.specs.declared.judged.Total.{Total}

-- `total RACE CANDIDATE COUNT`
abbrev pub total_text : Total → List ℕ
total_text total = codes "total " ++ decimal total.race ++ 32 ∷ [] ++ decimal total.candidate ++ 32 ∷ [] ++ decimal total.count ++ 10 ∷ []

abbrev pub totals_text : List Total → List ℕ
totals_text [] = []
totals_text (total ∷ totals) = total_text total ++ totals_text totals

-- `no LINE KIND`
abbrev pub no_text : ℕ → Kind → List ℕ
no_text line broken = codes "no " ++ decimal line ++ 32 ∷ [] ++ kind_word broken ++ 10 ∷ []

-- `yes` and then a line for each total; or the one line `no LINE KIND`
abbrev pub report_of : Judged → List ℕ
report_of (Yes totals) = codes "yes\n" ++ totals_text totals
report_of (No line broken) = no_text line broken
