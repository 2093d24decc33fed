-- What was heard of the lines so far.
use Rattle.std.specs.Prelude.{◌≡◌, ℕ, ◌+◌, ◌<◌, ◌≤◌, true, false, List, ◌∷◌, ◌++◌, length}
use Rattle.sg_check.specs.Verdict.{AreFine}
use Rattle.sg_driver.specs.declared.judge.Standing.{Standing}
use Rattle.sg_driver.specs.declared.judge.Standing.TheVariants.{Open, Settled}
use Rattle.sg_judge.specs.Pass.{StandsFor, is_open as is_unbroken, left_in}
use Rattle.sg_parts.specs.Faults.{lines_behind, record_lines}
use Rattle.sg_parts.specs.Given.{printing_line}
use Rattle.sg_parts.specs.Reads.{HasRead, lines_left}
use Rattle.sg_record.specs.Taking.{HasTaken}
use Rattle.sg_reports.specs.court.inside.Answering.{IsFault}
use Rattle.sg_reports.specs.declared.court.hearing.Fed.{Fed}
use Rattle.sg_reports.specs.declared.court.hearing.Fed.TheVariants as fed
use Rattle.sg_reports.specs.declared.court.hearing.Hearing.{Hearing}
use Rattle.sg_reports.specs.declared.court.hearing.Taken.{Taken}
use Rattle.sg_reports.specs.declared.court.hearing.Taken.TheVariants as taken
use Rattle.sg_reports.specs.declared.court.record.RecordTaken.{RecordTaken}

-- WHERE THE RECORD ENDS

-- one of the lines is `printing`
pub record HasWord (lines : List (List ℕ)) : Type 0 where
  pub tail : List (List ℕ)
  pub begins : lines_behind lines ≡ printing_line ∷ tail
  pub before : (more : List (List ℕ)) → record_lines (lines ++ more) ≡ record_lines lines
  pub behind : (more : List (List ℕ)) → lines_behind (lines ++ more) ≡ lines_behind lines ++ more

-- none is
pub record HasNoWord (lines : List (List ℕ)) : Type 0 where
  pub before : (more : List (List ℕ)) → record_lines (lines ++ more) ≡ lines ++ record_lines more
  pub behind : (more : List (List ℕ)) → lines_behind (lines ++ more) ≡ lines_behind more

-- all are these lines of the record, that line and these behind it
pub record HasPrinting (lines all more : List (List ℕ)) : Type 0 where
  pub before : record_lines all ≡ lines
  pub behind : lines_behind all ≡ printing_line ∷ more

-- THE RECORD

-- the lines are of a record, and fine, and were taken
pub record IsTaken (taken : RecordTaken) (lines : List (List ℕ)) : Type 0 where
  pub stands : StandsFor taken.pass lines
  pub unbroken : is_unbroken taken.pass ≡ true
  pub fine : AreFine lines
  pub reads : HasTaken taken.reader lines
  pub count : taken.count ≡ length lines
  pub wordless : HasNoWord lines

-- and the last of them is bad
pub record IsBroken (taken : RecordTaken) (lines : List (List ℕ)) : Type 0 where
  pub stands : StandsFor taken.pass lines
  pub broken : is_unbroken taken.pass ≡ false
  pub wordless : HasNoWord lines

abbrev pub RecordGoes : Standing → RecordTaken → List (List ℕ) → Type 0
RecordGoes Open taken lines = IsTaken taken lines
RecordGoes Settled taken lines = IsBroken taken lines

abbrev pub record_left : RecordTaken → ℕ
record_left taken = left_in taken.pass

-- ALL LINES

-- they were taken, and settle nothing
abbrev pub Stands : Taken → List (List ℕ) → Type 0
Stands (taken.Record posted) lines = IsTaken posted lines
Stands (taken.Parts parts) lines = HasRead parts lines
Stands (taken.Fault wrong) lines = ⊥

abbrev pub StandsSome : Taken → Type 0
StandsSome taken = (lines : List (List ℕ)) × Stands taken lines

-- they settle a fault, however they go on
abbrev pub IsSettled : Taken → List (List ℕ) → Type 0
IsSettled (taken.Record posted) lines = IsBroken posted lines
IsSettled (taken.Parts parts) lines = ⊥
IsSettled (taken.Fault wrong) lines = (more : List (List ℕ)) → IsFault (lines ++ more) wrong

abbrev pub HearingGoes : Standing → Taken → List (List ℕ) → Type 0
HearingGoes Open taken lines = Stands taken lines
HearingGoes Settled taken lines = IsSettled taken lines

-- more lines than may still come: of the record, and those of the parts that are longest; or of the parts
abbrev pub taken_left : Taken → ℕ
taken_left (taken.Record posted) = record_left posted + 860010
taken_left (taken.Parts parts) = lines_left parts
taken_left (taken.Fault wrong) = 0

abbrev pub hearing_left : Hearing → ℕ
hearing_left hearing = taken_left hearing.taken

-- the last of the lines is `printing`, and those before it are of a record, and were taken
pub record IsAtPrinting (taken : RecordTaken) (all : List (List ℕ)) : Type 0 where
  pub lines : List (List ℕ)
  pub is_taken : IsTaken taken lines
  pub printing : (more : List (List ℕ)) → HasPrinting lines (all ++ more) more

abbrev pub AtPrinting : Taken → List (List ℕ) → Type 0
AtPrinting (taken.Record posted) lines = IsAtPrinting posted lines
AtPrinting _ lines = ⊥

-- what the last of the lines was
abbrev pub Feeds : Fed → Taken → List (List ℕ) → Type 0
Feeds fed.Open taken lines = Stands taken lines
Feeds fed.Bad taken lines = IsSettled taken lines
Feeds fed.Printing taken lines = AtPrinting taken lines
Feeds (fed.Off wrong) taken lines = (more : List (List ℕ)) → IsFault (lines ++ more) wrong

-- then fewer may still come, or at the line `printing` no more
abbrev pub Falls : Fed → Taken → Taken → Type 0
Falls fed.Open old new = taken_left new < taken_left old
Falls fed.Printing old new = taken_left new ≤ taken_left old
Falls _ old new = Unit {0}
