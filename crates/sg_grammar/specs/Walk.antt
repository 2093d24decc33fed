-- The grammar of the public record: which line may stand after the lines before it
-- (this project's rules for the record).
--
-- The state between two lines is the plan so far, the lines that are due, one after another, and what may begin
-- where none is due. A walk takes one line after another, and gives each its place.
use Rattle.std.specs.Prelude.{ℕ, ◌+◌, ◌*◌, ◌==◌, nat_lt, nat_le, if◌then◌else◌, Bool, true, false, ◌&&◌, ◌||◌, List, [], ◌∷◌, length, Option, Some, None, is_some, option_and_then}
use Rattle.std.specs.Option.{option_map}
use Rattle.sg_plan.specs.Limits.{most_bits, most_claims}
use Rattle.sg_plan.specs.Ballots.{ballots_of, ballot_has, candidates_of}
use Rattle.sg_plan.specs.declared.plan.Plan.{Plan}
use Rattle.sg_forms.specs.Reading.{line_of}
use Rattle.sg_forms.specs.Said.{Said}
use Rattle.sg_forms.specs.Said.Said.{Ballots, CodeCommit, RowCommit, Seal, Cast, Spoiled, Audited, Code, Over, Paper, Flags, Places, Total, DrawFull, DrawPublic, Row, Dispute, Voided}
use Rattle.sg_grammar.specs.Due.{due_audit, commits, race_codes, results}
use Rattle.sg_grammar.specs.Head.{Making, head_line, no_plan, if_then}
use Rattle.sg_grammar.specs.Placed.{Placed}
use Rattle.sg_grammar.specs.Placed.Placed.{OfPlan, CodeCommitAt, RowCommitAt, SealAt, Begun, CodeAt, OverAt, PaperAt, FlagsAt, PlacesAt, TotalAt, DrawnFull, DrawnPublic, RowAt, Disputed}
use Rattle.sg_grammar.specs.declared.state.Block.{Block}
use Rattle.sg_grammar.specs.declared.state.Block.TheVariants as block
use Rattle.sg_grammar.specs.declared.state.Head.{Head}
use Rattle.sg_grammar.specs.declared.state.Head.TheVariants as head
use Rattle.sg_grammar.specs.declared.state.Part.{Part}
use Rattle.sg_grammar.specs.declared.state.Part.TheVariants as part
use Rattle.sg_grammar.specs.declared.state.Slot.{Slot}
use Rattle.sg_grammar.specs.declared.state.Slot.TheVariants as slot

-- what may stand next: the plan so far and which of its lines stand; behind it the lines that are due, one after
-- another, and what may begin where none is
pub record Next : Type 0 where
  pub plan : Plan
  pub head : Head
  pub due : List Slot
  pub part : Part

-- before the first line
abbrev pub start : Next
start = record { plan = no_plan; head = head.Version; due = []; part = part.Ballots 0 }

-- behind the lines of the plan
abbrev pub behind : Plan → List Slot → Part → Next
behind plan due may_begin = record { plan = plan; head = head.Whole; due = due; part = may_begin }

-- a line in its place, and what may stand behind it
pub record Taken : Type 0 where
  pub placed : Placed
  pub next : Next

abbrev pub took : Placed → Next → Taken
took placed next = record { placed = placed; next = next }

-- A LINE THAT IS DUE

-- the line in the place of the one that is due, where it may stand there; 64 bits stand on each line, and the rest on the last
abbrev pub place : Slot → Said → Option Placed
place (slot.CodeCommit race entry) (CodeCommit named digest) = if_then (named == race) (CodeCommitAt race entry digest)
place (slot.RowCommit race instance at) (RowCommit named of left right) = if_then (named == race && of == instance) (RowCommitAt race instance at left right)
place (slot.Seal number) (Seal named digest) = if_then (named == number) (SealAt number digest)
place (slot.Paper ballot race count) (Paper named list) = if_then (named == race && length list == count) (PaperAt ballot race list)
place (slot.Code kind ballot race column) (Code code) = if_then (code.race == race && code.column == column) (CodeAt kind ballot race column code)
place (slot.Flags race instance number count) (Flags named of bits) = if_then ((named == race && of == instance) && length bits == count) (FlagsAt race instance (most_bits * number) bits)
place (slot.Places race number count) (Places named bits) = if_then (named == race && length bits == count) (PlacesAt race (most_bits * number) bits)
place (slot.Total race candidate) (Total named of count) = if_then (named == race && of == candidate) (TotalAt race candidate count)
place slot.Draw DrawFull = Some DrawnFull
place slot.Draw (DrawPublic digits) = Some (DrawnPublic digits)
place (slot.Row race instance at) (Row opening) = Some (RowAt race instance at opening)
place due said = None

-- behind a line in its place these lines are due
abbrev pub taking : Plan → List Slot → Part → Option Placed → Option Taken
taking plan due may_begin placed = option_map (λ line. took line (behind plan due may_begin)) placed

-- WHAT MAY BEGIN

-- the first line of the results: behind it the others are due, and at last disputes may come
abbrev pub first_taken : Plan → List Slot → Said → Option Taken
first_taken plan [] said = None
first_taken plan (slot ∷ due) said = taking plan due (part.Disputes 0) (place slot said)

-- a ballot of the plan behind this one
abbrev pub is_later : Plan → ℕ → ℕ → Bool
is_later plan last ballot = nat_lt last ballot && nat_le ballot (ballots_of plan)

-- the block of a later ballot: of a cast one, of a spoiled one, which has no other line, of an audited one, and in
-- version 2 of a voided one, which has none either; or the first line of the results
abbrev pub after_block : Plan → ℕ → Said → Option Taken
after_block plan last (Cast ballot) = if_then (is_later plan last ballot) (took (Begun ballot) (behind plan [] (part.Cast ballot 0 0)))
after_block plan last (Spoiled ballot) = if_then (is_later plan last ballot) (took (Begun ballot) (behind plan [] (part.Ballots ballot)))
after_block plan last (Audited ballot) = if_then (is_later plan last ballot) (took (Begun ballot) (behind plan (due_audit plan ballot) (part.Ballots ballot)))
after_block plan last (Voided ballot) = if_then (plan.version == 2 && is_later plan last ballot) (took (Begun ballot) (behind plan [] (part.Ballots ballot)))
after_block plan last said = first_taken plan (results plan) said

-- the column is of a race of the ballot
abbrev pub is_column : Plan → ℕ → ℕ → ℕ → Bool
is_column plan ballot race column = ballot_has plan ballot race && nat_lt column (candidates_of plan race)

-- races don't fall, and in one race columns rise
abbrev pub follows_in_order : ℕ → ℕ → ℕ → ℕ → Bool
follows_in_order race column next_race next_column = nat_lt race next_race || (race == next_race && nat_le column next_column)

-- the race is of the ballot, and is not one of those behind which the block has gone on
abbrev pub is_race_left : Plan → ℕ → ℕ → ℕ → Bool
is_race_left plan ballot race next_race = (nat_lt next_race (length plan.races) && ballot_has plan ballot next_race) && nat_le race next_race

-- in the block of a cast ballot: a code of a later column; that a race is over, behind which no line of that race
-- comes; or what may follow the block
abbrev pub in_cast : Plan → ℕ → ℕ → ℕ → Said → Option Taken
in_cast plan ballot race column (Code code) = if_then (is_column plan ballot code.race code.column && follows_in_order race column code.race code.column) (took (CodeAt block.Cast ballot code.race code.column code) (behind plan [] (part.Cast ballot code.race (code.column + 1))))
in_cast plan ballot race column (Over next_race) = if_then (is_race_left plan ballot race next_race) (took (OverAt ballot next_race) (behind plan [] (part.Cast ballot (next_race + 1) 0)))
in_cast plan ballot race column said = after_block plan ballot said

-- a further dispute, of a ballot in one of its races: behind it its codes in that race are due
abbrev pub after_dispute : Plan → ℕ → Said → Option Taken
after_dispute plan count (Dispute ballot race code word) = if_then (nat_lt count most_claims && (nat_lt race (length plan.races) && ballot_has plan ballot race)) (took (Disputed ballot race code word) (behind plan (race_codes plan block.Dispute ballot race) (part.Disputes (count + 1))))
after_dispute plan count said = None

abbrev pub begins : Plan → Part → Said → Option Taken
begins plan (part.Ballots last) said = after_block plan last said
begins plan (part.Cast ballot race column) said = in_cast plan ballot race column said
begins plan (part.Disputes count) said = after_dispute plan count said

-- THE WALK

-- a line behind the plan
abbrev pub body_line : Plan → List Slot → Part → Said → Option Taken
body_line plan (slot ∷ due) may_begin said = taking plan due may_begin (place slot said)
body_line plan [] may_begin said = begins plan may_begin said

-- a line of the plan in its place
abbrev pub headed : Said → Making → Taken
headed said making = took (OfPlan said) (record { plan = making.plan; head = making.head; due = []; part = part.Ballots 0 })

abbrev pub in_head : Plan → Head → Said → Option Taken
in_head plan stage said = option_map (headed said) (head_line plan stage said)

-- behind a run: a further run, or the first commitment
abbrev pub after_run : Plan → Said → Option Taken
after_run plan (Ballots style count) = in_head plan head.Runs (Ballots style count)
after_run plan said = body_line plan (commits plan) (part.Ballots 0) said

-- the line in its place and what may stand behind it, where it may stand next
abbrev pub take_at : Plan → Head → List Slot → Part → Said → Option Taken
take_at plan head.Whole due may_begin said = body_line plan due may_begin said
take_at plan head.Runs due may_begin said = after_run plan said
take_at plan stage due may_begin said = in_head plan stage said

unfoldable pub take_line : Next → Said → Option Taken
take_line next said = take_at next.plan next.head next.due next.part said

-- the bytes are the one spelling of a line that may stand next: this line
unfoldable pub read_next : Next → List ℕ → Option Said
read_next next bytes = option_and_then (λ said. (if is_some (take_line next said) then Some said else None)) (line_of next.plan.version bytes)

-- the same with its place and what may stand behind it
unfoldable pub take_bytes : Next → List ℕ → Option Taken
take_bytes next bytes = option_and_then (take_line next) (line_of next.plan.version bytes)

-- a line's bytes, and the line in its place
pub record Posted : Type 0 where
  pub bytes : List ℕ
  pub line : Placed

-- lines in their places, and what may stand behind them
pub record Walked : Type 0 where
  pub posted : List Posted
  pub next : Next

abbrev pub walked_on : List ℕ → Taken → Walked → Walked
walked_on bytes taken rest = record { posted = record { bytes = bytes; line = taken.placed } ∷ rest.posted; next = rest.next }

-- each of the lines is the one spelling of a line that may stand after the lines before it
unfoldable pub walk : Next → List (List ℕ) → Option Walked
walk next [] = Some (record { posted = []; next = next })
walk next (bytes ∷ lines) = option_and_then (λ taken. option_map (walked_on bytes taken) (walk taken.next lines)) (take_bytes next bytes)

-- no line is due, and all sections stand: the record is whole, and behind each whole block of a dispute it is so again
abbrev pub is_whole_at : Head → List Slot → Part → Bool
is_whole_at head.Whole [] (part.Disputes count) = true
is_whole_at stage due may_begin = false

abbrev pub is_whole : Next → Bool
is_whole next = is_whole_at next.head next.due next.part
