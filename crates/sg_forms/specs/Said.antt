-- A line of the public record, as a value: what `Line` says, without where its bytes lie.
use Rattle.std.specs.Prelude.{ℕ, List, take}
use Rattle.sg_commit.specs.declared.Digest.{Digest}
use Rattle.sg_plan.specs.declared.plan.ClaimWord.{ClaimWord}
use Rattle.sg_forms.specs.declared.line.CodeLine.{CodeLine}
use Rattle.sg_forms.specs.declared.line.RowCommitLine.{RowCommitLine}
use Rattle.sg_forms.specs.declared.line.RowOpening.{RowOpening}
use Rattle.sg_forms.specs.declared.line.Line.{Line}
use Rattle.sg_forms.specs.declared.line.Line.TheVariants as line

pub data Said : Type 0 where
  Version : (version : ℕ) → Said
  Election : (name : List ℕ) → Said
  Instances : (instances : ℕ) → Said
  Race : (name : List ℕ) (candidates votes : ℕ) → Said
  Cand : (name : List ℕ) → Said
  Style : (name : List ℕ) (races : List ℕ) → Said
  Ballots : (style count : ℕ) → Said
  CodeCommit : (race : ℕ) (digest : Digest) → Said
  RowCommit : (race instance : ℕ) (left right : Digest) → Said
  Seal : (number : ℕ) (digest : Digest) → Said
  Cast : (ballot : ℕ) → Said
  Spoiled : (ballot : ℕ) → Said
  Audited : (ballot : ℕ) → Said
  Code : (code : CodeLine) → Said
  Over : (race : ℕ) → Said
  Paper : (race : ℕ) (codes : List ℕ) → Said
  Flags : (race instance : ℕ) (bits : List ℕ) → Said
  Places : (race : ℕ) (bits : List ℕ) → Said
  Total : (race candidate count : ℕ) → Said
  DrawFull : Said
  DrawPublic : (digits : List ℕ) → Said
  Row : (opening : RowOpening) → Said
  Dispute : (ballot race code : ℕ) (word : ClaimWord) → Said
  Voided : (ballot : ℕ) → Said

-- what a line of the program says
abbrev pub said : Line → Said
said (line.Version version) = Version version
said (line.Election name) = Election name.now
said (line.Instances instances) = Instances instances
said (line.Race name candidates votes) = Race name.now candidates votes
said (line.Cand name) = Cand name.now
said (line.Style name races count) = Style name.now (take count races)
said (line.Ballots style count) = Ballots style count
said (line.CodeCommit race digest) = CodeCommit race digest
said (line.RowCommit race instance left right) = RowCommit race instance left right
said (line.Seal number digest) = Seal number digest
said (line.Cast ballot) = Cast ballot
said (line.Spoiled ballot) = Spoiled ballot
said (line.Audited ballot) = Audited ballot
said (line.Code code) = Code code
said (line.Over race) = Over race
said (line.Paper race codes count) = Paper race (take count codes)
said (line.Flags race instance bits) = Flags race instance bits.now
said (line.Places race bits) = Places race bits.now
said (line.Total race candidate count) = Total race candidate count
said line.DrawFull = DrawFull
said (line.DrawPublic digits) = DrawPublic digits.now
said (line.Row opening) = Row opening
said (line.Dispute ballot race code word) = Dispute ballot race code word
said (line.Voided ballot) = Voided ballot

-- what a line of a row's commitments says
abbrev pub said_commits : RowCommitLine → Said
said_commits line = RowCommit line.race line.instance line.left line.right
