-- What the types of the program hold of the numbers of a record, whose definitions here take any: keys, digests and
-- public bytes consist of bytes, and numbers have 32 bits.
use Rattle.std.specs.Prelude.{◌<◌, All}
use Rattle.sg_commit.specs.declared.Digest.{Digest}
use Rattle.sg_plan.specs.declared.plan.Draw.{Draw}
use Rattle.sg_plan.specs.declared.plan.Draw.TheVariants as drawn
use Rattle.sg_forms.specs.Spelling.{AreBytes, IsNumber, IsRow}
use Rattle.sg_forms.specs.declared.line.CodeLine.{CodeLine}
use Rattle.sg_record.specs.declared.record.BallotBlock.{BallotBlock}
use Rattle.sg_record.specs.declared.record.BlockFate.{BlockFate}
use Rattle.sg_record.specs.declared.record.BlockFate.TheVariants as fate
use Rattle.sg_record.specs.declared.record.CastLine.{CastLine}
use Rattle.sg_record.specs.declared.record.CastLine.TheVariants as cast
use Rattle.sg_record.specs.declared.record.DisputeBlock.{DisputeBlock}
use Rattle.sg_record.specs.declared.record.Record.{Record}
use Rattle.sg_record.specs.declared.record.RowCommit.{RowCommit}

-- a digest has 32 bytes
abbrev pub IsDigest : Digest → Type 0
IsDigest digest = AreBytes 32 digest.0

-- the two digests of a row
abbrev pub AreDigests : RowCommit → Type 0
AreDigests commit = IsDigest commit.left × IsDigest commit.right

-- the key of a code has 16 bytes
abbrev pub HasKey : CodeLine → Type 0
HasKey code = AreBytes 16 code.key.0

-- the key of a line of a cast ballot, if it has one
abbrev pub HasCastKey : CastLine → Type 0
HasCastKey (cast.Code code) = HasKey code
HasCastKey other = Unit {0}

-- the keys of a ballot's block
abbrev pub HaveKeys : BlockFate → Type 0
HaveKeys (fate.Cast lines) = All HasCastKey lines
HaveKeys fate.Spoiled = Unit {0}
HaveKeys (fate.Audited papers codes) = All HasKey codes
HaveKeys fate.Voided = Unit {0}

abbrev pub BlockHasKeys : BallotBlock → Type 0
BlockHasKeys block = HaveKeys block.fate

-- the keys of a dispute's block
abbrev pub DisputeHasKeys : DisputeBlock → Type 0
DisputeHasKeys block = All HasKey block.codes

-- the public bytes are bytes
abbrev pub AreDrawn : Draw → Type 0
AreDrawn drawn.Full = Unit {0}
AreDrawn (drawn.Public bytes) = All (λ byte. byte < 256) bytes

-- digests, keys, totals and openings of the record are of their types
pub record IsTyped (posted : Record) : Type 0 where
  pub code_commits : All (All IsDigest) posted.code_commits
  pub row_commits : All (All (All AreDigests)) posted.row_commits
  pub seals : All IsDigest posted.seals
  pub ballots : All BlockHasKeys posted.ballots
  pub totals : All (All IsNumber) posted.totals
  pub draw : AreDrawn posted.draw
  pub rows : All (All (All IsRow)) posted.rows
  pub disputes : All DisputeHasKeys posted.disputes
