-- What the status of `audit` promises of the lines of the bytes that it read.
use Rattle.std.specs.Prelude.{◌≡◌, ◌⊎◌, ℕ, List}
use Rattle.std.specs.Io.KnownBytes.{Appends}
use Rattle.sg_outside.specs.Faults.{Rose}
use Rattle.sg_outside.specs.Streams.{Seen}
use Rattle.sg_record.specs.declared.record.Record.{Record}
use Rattle.sg_check.specs.declared.judged.Judged.TheVariants.{Yes}
use Rattle.sg_check.specs.declared.judged.Total.{Total}
use Rattle.sg_report.specs.Report.{report_of}
use Rattle.sg_fronts.specs.ByRecords.{IsWholeAndAgrees, totals_on}
use Rattle.sg_fronts.specs.Promised.{IsBound}

-- The answer is yes (0) with these totals, and its report was written. Only these keep it back: a read failed (3), and the
-- input's count of faults rose; a write failed (4), and the output's count rose; memory was wanted (9).
abbrev pub IsAnsweredYes : List Total → ℕ → Seen → Seen → Seen → Seen → Type 0
IsAnsweredYes totals status input input' out out' =
    ((status ≡ 0) × Appends out.bytes out'.bytes (report_of (Yes totals)))
    ⊎ ((status ≡ 3) × Rose input.faults input'.faults)
    ⊎ ((status ≡ 4) × Rose out.faults out'.faults)
    ⊎ (status ≡ 9)

-- what the status says of the lines of the bytes that the input had; 0 answers yes, and 1 no
pub record Promise (lines : List (List ℕ)) (status : ℕ) (input input' out out' : Seen) : Type 0 where
  -- `audit` answers yes exactly when the bytes read are a whole record whose openings match their commitments and whose
  -- opened halves agree;
  pub yes : status ≡ 0 → (posted : Record) × IsWholeAndAgrees lines posted
  pub exactly : (posted : Record) → IsWholeAndAgrees lines posted → IsAnsweredYes (totals_on posted) status input input' out out'
  -- then, for every printing and every completion that opens no commitment twice, each R instance has at least as many rows
  -- altered in their unopened halves as any posted total of its race differs from the count of posted codes
  pub bound : status ≡ 0 → (posted : Record) → IsWholeAndAgrees lines posted → IsBound posted (totals_on posted)
