-- What a reader of a record has taken.
use Rattle.std.specs.Prelude.{◌≡◌, ℕ, if◌then◌else◌, List, Option, Some, None}
use Rattle.sg_record.specs.inside.Gathering.{Gathered, gather, nothing_yet}
use Rattle.sg_record.specs.inside.Growing.{so_far}
use Rattle.sg_record.specs.declared.read.RecordReading.{RecordReading}

-- what may stand next and the record so far; none where a line came that may not stand behind those before it
abbrev pub gathered : RecordReading → Option Gathered
gathered reading = (if reading.stopped then None else Some (so_far reading.reading))

-- the reader has taken these lines, and no others
pub record HasTaken (reading : RecordReading) (lines : List (List ℕ)) : Type 0 where
  pub is : gathered reading ≡ gather nothing_yet lines
