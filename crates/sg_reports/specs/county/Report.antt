-- The report of the answer on a county (this project's formats).
use Rattle.std.specs.Prelude.{ℕ, List, [], ◌∷◌, ◌++◌, codes, decimal}
use Rattle.sg_check.specs.Kinds.{kind_word}
use Rattle.sg_check.specs.declared.judged.Kind.{Kind}
use Rattle.sg_report.specs.Report.{totals_text}
use Rattle.sg_county.specs.declared.verdict.CountyVerdict.{CountyVerdict}
use Rattle.sg_county.specs.declared.verdict.CountyVerdict.TheVariants.{Yes, No, Differs, Repeats, Parts}

-- `no PART LINE KIND`
abbrev pub no_text : ℕ → ℕ → Kind → List ℕ
no_text part line broken = codes "no " ++ decimal part ++ 32 ∷ [] ++ decimal line ++ 32 ∷ [] ++ kind_word broken ++ 10 ∷ []

-- `differs PART`
abbrev pub differs_text : ℕ → List ℕ
differs_text part = codes "differs " ++ decimal part ++ 10 ∷ []

-- `repeats PART OTHER`
abbrev pub repeats_text : ℕ → ℕ → List ℕ
repeats_text part other = codes "repeats " ++ decimal part ++ 32 ∷ [] ++ decimal other ++ 10 ∷ []

-- `yes` and then a line for each sum; or the one line that says what was settled
abbrev pub report_of : CountyVerdict → List ℕ
report_of (Yes totals) = codes "yes\n" ++ totals_text totals
report_of (No part line broken) = no_text part line broken
report_of (Differs part) = differs_text part
report_of (Repeats part other) = repeats_text part other
report_of Parts = codes "refused parts\n"
