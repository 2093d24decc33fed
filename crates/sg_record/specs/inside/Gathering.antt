-- How the lists of a record are put together from its lines, one line after another. Each step is defined for all
-- values; that the lines of a formed record give its lists is proved.
use Rattle.std.specs.Prelude.{ℕ, ◌-◌, ◌==◌, if◌then◌else◌, Bool, List, [], ◌∷◌, ◌++◌, length, map, replicate, slice_index_or, slice_set, Option, Some, option_and_then}
use Rattle.std.specs.Option.{option_map, option_map_or}
use Rattle.sg_commit.specs.declared.Digest.{Digest}
use Rattle.sg_plan.specs.declared.plan.Draw.TheVariants as drawn
use Rattle.sg_plan.specs.declared.plan.Plan.{Plan}
use Rattle.sg_forms.specs.Reading.{line_of, bytes_of_digits}
use Rattle.sg_forms.specs.Said.{Said}
use Rattle.sg_forms.specs.Said.Said.{Audited, Spoiled, Voided}
use Rattle.sg_forms.specs.declared.line.CodeLine.{CodeLine}
use Rattle.sg_grammar.specs.Head.{no_plan}
use Rattle.sg_grammar.specs.Placed.{Placed}
use Rattle.sg_grammar.specs.Placed.Placed.{OfPlan, CodeCommitAt, RowCommitAt, SealAt, Begun, CodeAt, PaperAt, FlagsAt, PlacesAt, TotalAt, DrawnFull, DrawnPublic, RowAt, Disputed}
use Rattle.sg_grammar.specs.Walk.{Next, Taken, start, take_line}
use Rattle.sg_grammar.specs.declared.state.Block.TheVariants as block
use Rattle.sg_record.specs.Tree.{cast_at}
use Rattle.sg_record.specs.declared.record.BallotBlock.{BallotBlock}
use Rattle.sg_record.specs.declared.record.BlockFate.{BlockFate}
use Rattle.sg_record.specs.declared.record.BlockFate.TheVariants as fate
use Rattle.sg_record.specs.declared.record.CastLine.{CastLine}
use Rattle.sg_record.specs.declared.record.DisputeBlock.{DisputeBlock}
use Rattle.sg_record.specs.declared.record.Record.{Record}

-- NO LINE BEHIND THE PLAN

abbrev pub no_digest : Digest
no_digest = record { 0 = replicate 32 0 }

-- an empty list for each race, or for each of its instances; the seals and the draw are any until their lines come
abbrev pub blank : Plan → Record
blank plan = record {
  plan = plan;
  code_commits = replicate (length plan.races) [];
  row_commits = replicate (length plan.races) (replicate plan.instances []);
  seals = no_digest ∷ no_digest ∷ no_digest ∷ [];
  ballots = [];
  flags = replicate (length plan.races) (replicate plan.instances []);
  places = replicate (length plan.races) [];
  totals = replicate (length plan.races) [];
  draw = drawn.Full;
  rows = replicate (length plan.races) (replicate plan.instances []);
  disputes = [];
}

-- ITEMS BEHIND OTHERS

-- items behind those of the list at this place
abbrev pub append_at : {A : Type 0} → List (List A) → ℕ → List A → List (List A)
append_at lists at items = slice_set lists at (slice_index_or lists at [] ++ items)

-- items behind those of an instance of a race
abbrev pub append_in : {A : Type 0} → List (List (List A)) → ℕ → ℕ → List A → List (List (List A))
append_in lists race instance items = slice_set lists race (append_at (slice_index_or lists race []) instance items)

-- the digest in the place of a section's seal
abbrev pub sealed : List Digest → ℕ → Digest → List Digest
sealed seals number digest = (if number == 0 then seals else slice_set seals (number - 1) digest)

-- which bits are set
abbrev pub bits_of : List ℕ → List Bool
bits_of signs = map (λ sign. sign == 0x31) signs

-- BLOCKS

-- what the first line of a ballot's block says of it
abbrev pub begun : Said → BlockFate
begun (Spoiled ballot) = fate.Spoiled
begun (Audited ballot) = fate.Audited [] []
begun (Voided ballot) = fate.Voided
begun said = fate.Cast []

abbrev pub with_cast : CastLine → BlockFate → BlockFate
with_cast line (fate.Cast lines) = fate.Cast (lines ++ line ∷ [])
with_cast line what = what

abbrev pub with_code : CodeLine → BlockFate → BlockFate
with_code code (fate.Audited papers codes) = fate.Audited papers (codes ++ code ∷ [])
with_code code what = what

abbrev pub with_paper : List ℕ → BlockFate → BlockFate
with_paper list (fate.Audited papers codes) = fate.Audited (papers ++ list ∷ []) codes
with_paper list what = what

-- the last block, with this change of what it says
abbrev pub last_with : (BlockFate → BlockFate) → List BallotBlock → List BallotBlock
last_with change [] = []
last_with change (one ∷ []) = record one { fate = change one.fate } ∷ []
last_with change (one ∷ next ∷ blocks) = one ∷ last_with change (next ∷ blocks)

-- the last dispute, with one more code
abbrev pub dispute_with : CodeLine → List DisputeBlock → List DisputeBlock
dispute_with code [] = []
dispute_with code (one ∷ []) = record one { codes = one.codes ++ code ∷ [] } ∷ []
dispute_with code (one ∷ next ∷ blocks) = one ∷ dispute_with code (next ∷ blocks)

-- ONE MORE LINE

-- what a line in its place adds to the lists; while the plan's lines come, the lists are those of no further line
abbrev pub added : Plan → Record → Placed → Said → Record
added plan made (OfPlan line) said = blank plan
added plan made (CodeCommitAt race entry digest) said = record made { code_commits = append_at made.code_commits race (digest ∷ []) }
added plan made (RowCommitAt race instance row left right) said = record made { row_commits = append_in made.row_commits race instance (record { left = left; right = right } ∷ []) }
added plan made (SealAt number digest) said = record made { seals = sealed made.seals number digest }
added plan made (Begun ballot) said = record made { ballots = made.ballots ++ record { ballot = ballot; fate = begun said } ∷ [] }
added plan made (CodeAt block.Dispute ballot race column code) said = record made { disputes = dispute_with code made.disputes }
added plan made (CodeAt block.Audited ballot race column code) said = record made { ballots = last_with (with_code code) made.ballots }
added plan made (PaperAt ballot race list) said = record made { ballots = last_with (with_paper list) made.ballots }
added plan made (FlagsAt race instance from bits) said = record made { flags = append_in made.flags race instance (bits_of bits) }
added plan made (PlacesAt race from bits) said = record made { places = append_at made.places race (bits_of bits) }
added plan made (TotalAt race candidate count) said = record made { totals = append_at made.totals race (count ∷ []) }
added plan made DrawnFull said = record made { draw = drawn.Full }
added plan made (DrawnPublic digits) said = record made { draw = drawn.Public (bytes_of_digits digits) }
added plan made (RowAt race instance row opening) said = record made { rows = append_in made.rows race instance (opening ∷ []) }
added plan made (Disputed ballot race code word) said = record made { disputes = made.disputes ++ record { ballot = ballot; race = race; code = code; word = word; codes = [] } ∷ [] }
added plan made placed said = option_map_or (λ line. record made { ballots = last_with (with_cast line) made.ballots }) (cast_at placed) made

-- ALL LINES

-- what may stand next, and the record so far
pub record Gathered : Type 0 where
  pub next : Next
  pub made : Record

-- before the first line
abbrev pub nothing_yet : Gathered
nothing_yet = record { next = start; made = blank no_plan }

-- with one more line
abbrev pub gathered_on : Gathered → Said → Taken → Gathered
gathered_on so_far said taken = record { next = taken.next; made = added taken.next.plan so_far.made taken.placed said }

-- with one more line of these bytes, where it may stand
abbrev pub gather_line : Gathered → List ℕ → Option Gathered
gather_line so_far bytes = option_and_then (λ said. option_map (gathered_on so_far said) (take_line so_far.next said)) (line_of so_far.next.plan.version bytes)

-- with all of these lines, where they may stand
unfoldable pub gather : Gathered → List (List ℕ) → Option Gathered
gather so_far [] = Some so_far
gather so_far (bytes ∷ lines) = option_and_then (λ more. gather more lines) (gather_line so_far bytes)
