-- Where a judge has stopped in the bytes of an input, and what an answer of it says there.
use Rattle.std.specs.Prelude.{◌≡◌, ℕ, ◌+◌, ◌*◌, ◌<◌, ◌≤◌, ◌⊎◌, false, List, [], ◌∷◌, ◌++◌, length, Option, Some, None}
use Rattle.std.specs.List.{concat}
use Rattle.std.specs.Io.KnownBytes.{Consumes, IsAtEnd}
use Rattle.sg_plan.specs.Limits.{longest_line}
use Rattle.sg_outside.specs.Cutting.{Cutting, to_come}
use Rattle.sg_outside.specs.Faults.{Rose}
use Rattle.sg_outside.specs.Streams.{Seen}
use Rattle.sg_outside.specs.TextLines.{AreLines, HasNoFeed, IsLine}
use Rattle.sg_driver.specs.Judging.{IsNoLine, Judging}
use Rattle.sg_driver.specs.Says.{Answers, HasRead}
use Rattle.sg_driver.specs.Taken.{TookLines, TookUnended}
use Rattle.sg_driver.specs.declared.hearing.Stop.{Stop}
use Rattle.sg_driver.specs.declared.hearing.Stop.TheVariants as stop

-- WHAT THE CUTTER GAVE

-- one more line
pub record CutsLine (old new : Cutting) (before now : Seen) : Type 0 where
  pub is_line : IsLine new.text
  pub cut : Consumes (to_come old before.bytes) (to_come new now.bytes) new.text
  pub goes_on : new.is_over ≡ false
  pub limit : new.limit ≡ old.limit
  pub few : length new.text + length new.ahead ≤ new.limit
  pub later : before.faults ≤ now.faults

-- bytes that are no line: as many as a line may have, or the last ones
pub record CutsNoLine (old new : Cutting) (before now : Seen) : Type 0 where
  pub cut : Consumes (to_come old before.bytes) (to_come new now.bytes) new.text
  pub unended : HasNoFeed new.text
  pub ends : (length new.text ≡ new.limit) ⊎ ((0 < length new.text) × IsAtEnd (to_come new now.bytes))
  pub limit : new.limit ≡ old.limit
  pub few : length new.text + length new.ahead ≤ new.limit

-- nothing, and there are no more bytes
pub record CutsEnd (old new : Cutting) (before now : Seen) : Type 0 where
  pub cut : Consumes (to_come old before.bytes) (to_come new now.bytes) []
  pub no_more : new.ahead ≡ []
  pub ended : IsAtEnd now.bytes

-- nothing, as the source failed
pub record CutsFault (old new : Cutting) (before now : Seen) : Type 0 where
  pub cause : Rose before.faults now.faults
  pub cut : Consumes (to_come old before.bytes) (to_come new now.bytes) []
  pub unended : HasNoFeed new.ahead
  pub few : length new.ahead < new.limit
  pub limit : new.limit ≡ old.limit

-- one more line, or why there is none
abbrev pub Cuts : Option Stop → Cutting → Cutting → Seen → Seen → Type 0
Cuts None old new before now = CutsLine old new before now
Cuts (Some stop.NoLine) old new before now = CutsNoLine old new before now
Cuts (Some stop.Settled) old new before now = ⊥
Cuts (Some stop.End) old new before now = CutsEnd old new before now
Cuts (Some stop.Fault) old new before now = CutsFault old new before now
Cuts (Some stop.NoMemory) old new before now = ⊥

-- WHAT A JUDGE WAS FED

-- the judge has taken whole lines, which settle nothing, and the bytes that are still to come are the others
pub record IsFed {Answer : Type 0} (judging : Judging Answer) (Stands : List (List ℕ) → Type 0) (lines : Cutting) (first now : Seen) : Type 0 where
  pub done : List (List ℕ)
  pub stands : Stands done
  pub unsettled : judging.Unsettled done
  pub are_lines : AreLines done
  pub short : length (concat done) ≤ length done * longest_line
  pub taken : Consumes first.bytes (to_come lines now.bytes) (concat done)
  pub goes_on : lines.is_over ≡ false
  pub limit : lines.limit ≡ longest_line
  pub later : first.faults ≤ now.faults

-- WHERE IT STOPPED

-- it is the answer on some lines, and on those of the bytes of the input, which was read as far as it says
pub record IsHeard {Answer : Type 0} (judging : Judging Answer) (answer : Answer) (first now : Seen) : Type 0 where
  pub lines : List (List ℕ)
  pub are : judging.IsAnswer lines answer
  pub answers : Answers judging first.bytes answer
  pub read : HasRead judging answer first.bytes now.bytes

-- the next bytes are no line
pub record AtNoLine {Answer : Type 0} (judging : Judging Answer) (Stands : List (List ℕ) → Type 0) (first now : Seen) : Type 0 where
  pub done : List (List ℕ)
  pub stands : Stands done
  pub heard : (answer : Answer) → ((more : List (List ℕ)) (text : List ℕ) → IsNoLine text → judging.IsAnswer (done ++ text ∷ more) answer)
      → judging.Refuses answer → IsHeard judging answer first now
  pub wanted : judging.Wants done → TookLines judging.Wants first.bytes now.bytes

-- the lines settled an answer, whatever follows
pub record AtSettled {Answer : Type 0} (judging : Judging Answer) (IsSettled : List (List ℕ) → Type 0) (first now : Seen) : Type 0 where
  pub done : List (List ℕ)
  pub settled : IsSettled done
  pub heard : (answer : Answer) → ((more : List (List ℕ)) → judging.IsAnswer (done ++ more) answer) → judging.Refuses answer → IsHeard judging answer first now

-- there are no more lines
pub record AtEnd {Answer : Type 0} (judging : Judging Answer) (Stands : List (List ℕ) → Type 0) (first now : Seen) : Type 0 where
  pub done : List (List ℕ)
  pub stands : Stands done
  pub heard : (answer : Answer) → judging.IsAnswer done answer → IsHeard judging answer first now
  pub wanted : judging.Wants done → TookLines judging.Wants first.bytes now.bytes

-- where the judge stopped in the input, before and after the lines were taken
abbrev pub Stops : {Answer : Type 0} → Judging Answer → (List (List ℕ) → Type 0) → (List (List ℕ) → Type 0) → Stop → Seen → Seen → Type 0
Stops judging Stands IsSettled stop.NoLine first now = AtNoLine judging Stands first now
Stops judging Stands IsSettled stop.Settled first now = AtSettled judging IsSettled first now
Stops judging Stands IsSettled stop.End first now = AtEnd judging Stands first now
Stops judging Stands IsSettled stop.Fault first now = Rose first.faults now.faults × TookUnended judging.Unsettled first.bytes now.bytes
Stops judging Stands IsSettled stop.NoMemory first now = TookLines judging.Wants first.bytes now.bytes
