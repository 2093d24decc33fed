-- What a yes promises of a whole record, said by its lists: of the halves that it doesn't open, for each printing and each completion.
use Rattle.std.specs.Prelude.{◌≡◌, ℕ, true, List}
use Rattle.sg_record.specs.Places.{places_in}
use Rattle.sg_record.specs.declared.record.Record.{Record}
use Rattle.sg_check.specs.Bounds.{AreAllTotalled, AreTotalsBound, AreTotalsEqual, HasCompletion, HasPrinting, IsSound}
use Rattle.sg_check.specs.Facts.{is_full_draw}
use Rattle.sg_check.specs.declared.judged.Total.{Total}
use Rattle.sg_fronts.specs.ByRecords.{IsWholeAndAgrees}

-- then, for every printing and every completion that opens no commitment twice, each instance has at least as many rows altered
-- in their unopened halves as any posted total of its race differs from the count of posted codes
pub record IsBound (posted : Record) (totals : List Total) : Type 0 where
  pub bound : AreTotalsBound posted.plan (places_in posted) totals
  -- any posted total: each candidate of each race has one
  pub totalled : AreAllTotalled posted.plan totals
  -- every printing: there is one
  pub printing : HasPrinting posted.plan (places_in posted)
  -- every completion: there is one
  pub completion : HasCompletion posted.plan (places_in posted)
  -- where both sides of each row are drawn, no half is unopened, and each total is the count of posted codes
  pub full : is_full_draw (places_in posted) ≡ true → AreTotalsEqual posted.plan (places_in posted) totals

-- what a yes with these totals promises of lines: they are such a record, so bound
abbrev pub IsPromised : List (List ℕ) → List Total → Type 0
IsPromised lines totals = (posted : Record) × IsWholeAndAgrees lines posted × IsBound posted totals

-- what is promised of lines by their walk is promised of their record
abbrev pub SoundIsPromised : Type 0
SoundIsPromised = (lines : List (List ℕ)) (totals : List Total) → IsSound lines totals → IsPromised lines totals
