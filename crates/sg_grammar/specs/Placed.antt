-- A line of the record with its place in it: the coordinates that the grammar gives it.
use Rattle.std.specs.Prelude.{ℕ, List, Option, Some, None}
use Rattle.sg_commit.specs.declared.Digest.{Digest}
use Rattle.sg_plan.specs.declared.plan.ClaimWord.{ClaimWord}
use Rattle.sg_forms.specs.Said.{Said}
use Rattle.sg_forms.specs.declared.line.CodeLine.{CodeLine}
use Rattle.sg_forms.specs.declared.line.RowOpening.{RowOpening}
use Rattle.sg_grammar.specs.declared.state.Block.{Block}

pub data Placed : Type 0 where
  -- a line of the plan
  OfPlan : (said : Said) → Placed
  CodeCommitAt : (race entry : ℕ) (digest : Digest) → Placed
  RowCommitAt : (race instance row : ℕ) (left right : Digest) → Placed
  SealAt : (number : ℕ) (digest : Digest) → Placed
  -- the first line of a ballot's block
  Begun : (ballot : ℕ) → Placed
  -- a code in a block, of a column of the ballot's row in the race
  CodeAt : (block : Block) (ballot race column : ℕ) (code : CodeLine) → Placed
  -- the race is over on a cast ballot: more marks than a voter has votes, and none of them counts
  OverAt : (ballot race : ℕ) → Placed
  -- the codes read from the paper of an audited ballot, by candidate
  PaperAt : (ballot race : ℕ) (list : List ℕ) → Placed
  -- flags of the rows of an instance, from this row on
  FlagsAt : (race instance from : ℕ) (bits : List ℕ) → Placed
  -- bits of the places of a race, from this place on
  PlacesAt : (race from : ℕ) (bits : List ℕ) → Placed
  TotalAt : (race candidate count : ℕ) → Placed
  -- the draw line that opens both sides of each row
  DrawnFull : Placed
  -- the draw line with the public bytes, in hexadecimal digits, whose coins say which side of each row is opened
  DrawnPublic : (digits : List ℕ) → Placed
  RowAt : (race instance row : ℕ) (opening : RowOpening) → Placed
  -- the first line of a dispute's block: the code that is claimed, and the office's answer
  Disputed : (ballot race code : ℕ) (word : ClaimWord) → Placed

-- the ballot that the line is about, if any: it is of its block, or of the block of a dispute about it
abbrev pub ballot_on : Placed → Option ℕ
ballot_on (Begun ballot) = Some ballot
ballot_on (CodeAt block ballot race column code) = Some ballot
ballot_on (OverAt ballot race) = Some ballot
ballot_on (PaperAt ballot race list) = Some ballot
ballot_on (Disputed ballot race code word) = Some ballot
ballot_on line = None
