-- What a record's lists say at each coordinate, as its lines in their places say it (this project's rules for the record).
use Rattle.std.specs.Prelude.{◌≡◌, ℕ, ◌<◌, ◌==◌, ◌&&◌, if◌then◌else◌, Bool, length, Option, Some, None}
use Rattle.std.specs.Option.{option_and_then, option_map, option_map_or}
use Rattle.sg_commit.specs.declared.Digest.{Digest}
use Rattle.sg_forms.specs.declared.line.CodeLine.{CodeLine}
use Rattle.sg_plan.specs.Ballots.{entry_at}
use Rattle.sg_plan.specs.declared.plan.Plan.{Plan}
use Rattle.sg_plan.specs.declared.plan.Side.{Side}
use Rattle.sg_plan.specs.declared.plan.Side.TheVariants as side
use Rattle.sg_record.specs.Places.{places_in}
use Rattle.sg_record.specs.declared.record.BallotBlock.{BallotBlock}
use Rattle.sg_record.specs.declared.record.BlockFate.{BlockFate}
use Rattle.sg_record.specs.declared.record.BlockFate.TheVariants as fate
use Rattle.sg_record.specs.declared.record.CastLine.{CastLine}
use Rattle.sg_record.specs.declared.record.CastLine.TheVariants as cast
use Rattle.sg_record.specs.declared.record.DisputeBlock.{DisputeBlock}
use Rattle.sg_record.specs.declared.record.Record.{Record}
use Rattle.sg_record.specs.declared.record.RowCommit.{RowCommit}
use Rattle.sg_check.specs.Completions.{posted_half}
use Rattle.sg_check.specs.Facts.{first_given, is_flagged, is_set, known_code, half_commitment, opened_on}
use Rattle.sg_check.specs.Printings.{marked_code}
use Rattle.sg_facts.specs.Items.{item_in, row_in}
use Rattle.sg_facts.specs.Totals.{totals_candidate}

-- the digest of a half
abbrev pub digest_on : Side → RowCommit → Digest
digest_on side.Left commit = commit.left
digest_on side.Right commit = commit.right

-- the code of the entry, where the line of a ballot's block shows it
abbrev pub code_shown : Plan → ℕ → ℕ → ℕ → CodeLine → Option ℕ
code_shown plan race entry ballot code = (if code.race == race && entry_at plan code.race ballot code.column == entry then Some code.code else None)

abbrev pub cast_shown : Plan → ℕ → ℕ → ℕ → CastLine → Option ℕ
cast_shown plan race entry ballot (cast.Code code) = code_shown plan race entry ballot code
cast_shown plan race entry ballot line = None

-- the code of the entry in the block of a cast ballot
abbrev pub fate_mark : Plan → ℕ → ℕ → ℕ → BlockFate → Option ℕ
fate_mark plan race entry ballot (fate.Cast lines) = first_given (cast_shown plan race entry ballot) lines
fate_mark plan race entry ballot other = None

abbrev pub block_mark : Plan → ℕ → ℕ → BallotBlock → Option ℕ
block_mark plan race entry block = fate_mark plan race entry block.ballot block.fate

-- the code of the entry in the block of a cast or of an audited ballot
abbrev pub fate_code : Plan → ℕ → ℕ → ℕ → BlockFate → Option ℕ
fate_code plan race entry ballot (fate.Cast lines) = first_given (cast_shown plan race entry ballot) lines
fate_code plan race entry ballot (fate.Audited papers codes) = first_given (code_shown plan race entry ballot) codes
fate_code plan race entry ballot other = None

abbrev pub block_code : Plan → ℕ → ℕ → BallotBlock → Option ℕ
block_code plan race entry block = fate_code plan race entry block.ballot block.fate

-- the code of the entry in the block of a dispute
abbrev pub dispute_code : Plan → ℕ → ℕ → DisputeBlock → Option ℕ
dispute_code plan race entry block = first_given (code_shown plan race entry block.ballot) block.codes

-- what the lines of the record say at a coordinate stands in its lists there
pub record AreListed (posted : Record) : Type 0 where
  pub commitment : (on : Side) (race instance row : ℕ) → half_commitment (places_in posted) on race instance row ≡ option_map (digest_on on) (row_in posted.row_commits race instance row)
  pub half : (on : Side) (race instance row : ℕ) → posted_half (places_in posted) on race instance row ≡ option_and_then (opened_on on) (row_in posted.rows race instance row)
  pub flag : (race instance row : ℕ) (flag : Bool) → race < length posted.plan.races → row_in posted.flags race instance row ≡ Some flag → is_flagged race instance row (places_in posted) ≡ flag
  pub place : (race place : ℕ) (bit : Bool) → race < length posted.plan.races → item_in posted.places race place ≡ Some bit → is_set race place (places_in posted) ≡ bit
  pub total : (race candidate count : ℕ) → race < length posted.plan.races → item_in posted.totals race candidate ≡ Some count
      → first_given (totals_candidate race candidate) (places_in posted) ≡ Some count
  pub mark : (race entry : ℕ) → marked_code posted.plan race entry (places_in posted) ≡ first_given (block_mark posted.plan race entry) posted.ballots
  pub known : (race entry : ℕ)
      → known_code posted.plan race entry (places_in posted)
      ≡ option_map_or Some (first_given (block_code posted.plan race entry) posted.ballots) (first_given (dispute_code posted.plan race entry) posted.disputes)
