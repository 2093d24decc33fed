-- The end of the last part.
use Rattle.std.specs.Prelude.{ℕ, ◌<◌, List, [], length}
use Rattle.sg_record.specs.declared.record.Record.{Record}
use Rattle.sg_check.specs.declared.judged.Total.{Total}
use Rattle.sg_judge.specs.Pass.{StandsFor as HasTaken}
use Rattle.sg_judge.specs.declared.pass.Pass.{Pass}
use Rattle.sg_county.specs.County.{most_parts}
use Rattle.sg_county.specs.inside.Keeping.{AllCount, Keeps, more_sums}
use Rattle.sg_county.specs.declared.ending.Close.{Close}
use Rattle.sg_county.specs.declared.ending.Close.TheVariants as close
use Rattle.sg_county.specs.declared.kept.Kept.{Kept}
use Rattle.sg_county.specs.declared.verdict.CountyVerdict.{CountyVerdict}
use Rattle.sg_county.specs.declared.verdict.CountyVerdict.TheVariants.{Yes}

-- the last part is in the pass, and this is kept of those before it, which settle nothing
pub record IsLast (pass : Pass) (kept : Kept) (before : List Record) (last : List (List ℕ)) : Type 0 where
  pub count : AllCount [] before
  pub few : length before < most_parts
  pub stands : HasTaken pass last
  pub keeps : Keeps kept before

abbrev pub IsSomeLast : Pass → Kept → Type 0
IsSomeLast pass kept = (before : List Record) × (last : List (List ℕ)) × IsLast pass kept before last

-- the answer where this is the end of the last part, which has this number
abbrev pub answer_of : ℕ → List Total → Close → CountyVerdict
answer_of number sums (close.Counts totals) = Yes (more_sums number sums totals)
answer_of number sums (close.Settles verdict) = verdict
