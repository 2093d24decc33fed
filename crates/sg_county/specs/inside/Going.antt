-- A tally behind a part that has ended.
use Rattle.std.specs.Prelude.{ℕ, ◌==◌, if◌then◌else◌, true, List, Some}
use Rattle.sg_check.specs.declared.judged.Total.{Total}
use Rattle.sg_judge.specs.declared.pass.Step.{Step}
use Rattle.sg_judge.specs.declared.pass.Step.TheVariants.{More, Over}
use Rattle.sg_county.specs.County.{most_parts}
use Rattle.sg_county.specs.inside.Keeping.{more_sums}
use Rattle.sg_county.specs.declared.ending.Close.{Close}
use Rattle.sg_county.specs.declared.ending.Close.TheVariants as close
use Rattle.sg_county.specs.declared.tally.Tally.{Tally}
use Rattle.sg_county.specs.declared.verdict.CountyVerdict.{CountyVerdict}
use Rattle.sg_county.specs.declared.verdict.CountyVerdict.TheVariants.{Parts}

-- the tally, where this is settled
abbrev pub settled_by : Tally → CountyVerdict → Tally
settled_by tally verdict = record { pass = tally.pass; kept = tally.kept; over = true; settled = Some verdict }

-- the tally, with these totals added
abbrev pub added_by : Tally → ℕ → List Total → Tally
added_by tally number totals = record {
  pass = tally.pass;
  kept = record { races = tally.kept.races; sums = more_sums number tally.kept.sums totals; seals = tally.kept.seals };
  over = tally.over;
  settled = tally.settled;
}

-- the tally behind the part of this number; behind the last that may stand, one more is too many
abbrev pub closed : Tally → ℕ → Close → Tally
closed tally number (close.Settles verdict) = settled_by tally verdict
closed tally number (close.Counts totals) = (if number == most_parts then settled_by (added_by tally number totals) Parts else added_by tally number totals)

-- what is said behind it
abbrev pub step_behind : ℕ → Close → Step
step_behind number (close.Settles verdict) = Over
step_behind number (close.Counts totals) = (if number == most_parts then Over else More)
