-- The record that an office posts, and how much of its text at each stage (this project's rules for the record).
use Rattle.std.specs.Prelude.{ℕ, ◌==◌, if◌then◌else◌, List, [], ◌∷◌, ◌++◌, length, map}
use Rattle.std.specs.List.{flat_map}
use Rattle.sha2.specs.Sha256.{sha256}
use Rattle.sg_plan.specs.Ballots.{ballot_has, ballot_row, candidates_of, entries_of}
use Rattle.sg_plan.specs.declared.plan.Draw.{Draw}
use Rattle.sg_plan.specs.declared.plan.Draw.TheVariants as drawn
use Rattle.sg_plan.specs.declared.plan.Fate.{Fate}
use Rattle.sg_plan.specs.declared.plan.Fate.TheVariants as fate
use Rattle.sg_plan.specs.declared.plan.Plan.{Plan}
use Rattle.sg_plan.specs.declared.plan.Side.{Side}
use Rattle.sg_plan.specs.declared.plan.Side.TheVariants as side
use Rattle.sg_plan.specs.declared.plan.Stage.{Stage}
use Rattle.sg_plan.specs.declared.plan.Stage.TheVariants as stage
use Rattle.sg_commit.specs.Commitments.{commit_input}
use Rattle.sg_commit.specs.declared.CommitKind.{CommitKind}
use Rattle.sg_commit.specs.declared.CommitKind.TheVariants as commit
use Rattle.sg_commit.specs.declared.Digest.{Digest}
use Rattle.sg_commit.specs.declared.Opening.{Opening}
use Rattle.sg_streams.specs.CoinSides.{coin_of, coin_seed}
use Rattle.sg_streams.specs.Numbers.{numbers_below}
use Rattle.sg_tables.specs.Posts.{is_void, marked_columns, row_entry}
use Rattle.sg_tables.specs.Tables.{left_of, left_opening_of, q_opening_of, right_opening_of}
use Rattle.sg_forms.specs.Said.{Said}
use Rattle.sg_forms.specs.declared.line.CodeLine.{CodeLine}
use Rattle.sg_forms.specs.declared.line.RowOpening.{RowOpening}
use Rattle.sg_forms.specs.declared.line.RowOpening.TheVariants as row
use Rattle.sg_record.specs.Lines.{first_lines, lines_in, second_lines, third_lines}
use Rattle.sg_record.specs.Writing.{text_in}
use Rattle.sg_record.specs.declared.record.BallotBlock.{BallotBlock}
use Rattle.sg_record.specs.declared.record.BlockFate.{BlockFate}
use Rattle.sg_record.specs.declared.record.BlockFate.TheVariants as block
use Rattle.sg_record.specs.declared.record.CastLine.{CastLine}
use Rattle.sg_record.specs.declared.record.CastLine.TheVariants as cast
use Rattle.sg_record.specs.declared.record.DisputeBlock.{DisputeBlock}
use Rattle.sg_record.specs.declared.record.Record.{Record}
use Rattle.sg_record.specs.declared.record.RowCommit.{RowCommit}
use Rattle.sg_post.specs.Marks.{flag_of, is_entry_audited, is_place_set, total_of}
use Rattle.sg_post.specs.declared.story.Claimed.{Claimed}
use Rattle.sg_post.specs.declared.story.Story.{Story}
use Rattle.sg_post.specs.declared.story.Told.{Told}

-- SECTION 1: THE COMMITMENTS

abbrev pub committed : CommitKind → ℕ → ℕ → ℕ → Opening → Digest
committed kind race instance place opening = record { 0 = sha256 (commit_input kind race instance place opening) }

-- the commitment of an entry's code
unfoldable pub code_commit_of : Plan → List ℕ → ℕ → ℕ → Digest
code_commit_of plan seed race entry = committed commit.Q race 0 entry (q_opening_of plan seed race entry)

-- the commitments of a row's pointers
unfoldable pub row_commit_of : Plan → List ℕ → ℕ → ℕ → ℕ → RowCommit
row_commit_of plan seed race instance row = record {
  left = committed commit.L race instance row (left_opening_of plan seed race instance row);
  right = committed commit.R race instance row (right_opening_of plan seed race instance row);
}

-- SECTION 2: THE BALLOTS

-- the code line of the entry in a column of a ballot row
unfoldable pub code_in_row : Plan → List ℕ → ℕ → ℕ → ℕ → CodeLine
code_in_row plan seed race row column =
    let opening = q_opening_of plan seed race (row_entry plan race row column) in
    record { race = race; column = column; key = opening.key; code = opening.value }

-- the code line of the entry in a column of the ballot
abbrev pub code_line_of : Plan → List ℕ → ℕ → ℕ → ℕ → CodeLine
code_line_of plan seed ballot race column = code_in_row plan seed race (ballot_row plan race ballot) column

-- the ballot's codes in a race, column by column
abbrev pub race_codes_of : Plan → List ℕ → ℕ → ℕ → List CodeLine
race_codes_of plan seed ballot race = map (code_line_of plan seed ballot race) (numbers_below (candidates_of plan race))

-- the codes that a ballot with this fate marks in a race, column by column
abbrev pub marked_codes : Plan → List ℕ → ℕ → Fate → ℕ → List CodeLine
marked_codes plan seed ballot what race = map (code_line_of plan seed ballot race) (marked_columns plan seed race (ballot_row plan race ballot) what)

-- what is noted of a race on a ballot with this fate: that it is over, where it is
unfoldable pub race_notes : Plan → ℕ → Fate → ℕ → List CastLine
race_notes plan ballot what race = (if is_void plan what race then cast.Over race ∷ [] else [])

-- the lines of its block, if it is cast, in a race: the codes that it marks, and what is noted
abbrev pub race_cast_lines : Plan → List ℕ → ℕ → Fate → ℕ → List CastLine
race_cast_lines plan seed ballot what race = map cast.Code (marked_codes plan seed ballot what race) ++ race_notes plan ballot what race

-- race by race
unfoldable pub cast_lines : Plan → List ℕ → ℕ → Fate → List CastLine
cast_lines plan seed ballot what = flat_map (race_cast_lines plan seed ballot what) (numbers_below (length plan.races))

-- the codes of an audited ballot, in each race that it has
abbrev pub audited_race_codes : Plan → List ℕ → ℕ → ℕ → List CodeLine
audited_race_codes plan seed ballot race = (if ballot_has plan ballot race then race_codes_of plan seed ballot race else [])

unfoldable pub audited_codes : Plan → List ℕ → ℕ → List CodeLine
audited_codes plan seed ballot = flat_map (audited_race_codes plan seed ballot) (numbers_below (length plan.races))

-- the block of a ballot with this fate: none, where it is unused. A voided ballot's is named so in version 2 alone
abbrev pub fate_blocks : Plan → List ℕ → ℕ → Fate → List BlockFate
fate_blocks plan seed ballot fate.Unused = []
fate_blocks plan seed ballot (fate.Cast marks) = block.Cast (cast_lines plan seed ballot (fate.Cast marks)) ∷ []
fate_blocks plan seed ballot fate.Spoiled = block.Spoiled ∷ []
fate_blocks plan seed ballot (fate.Audited paper) = block.Audited paper (audited_codes plan seed ballot) ∷ []
fate_blocks plan seed ballot fate.Voided = (if plan.version == 2 then block.Voided else block.Spoiled) ∷ []

abbrev pub told_blocks : Plan → List ℕ → Told → List BallotBlock
told_blocks plan seed told = map (λ (what : BlockFate). let one : BallotBlock = record { ballot = told.ballot; fate = what } in one) (fate_blocks plan seed told.ballot told.fate)

-- SECTION 3: THE OPENINGS

-- the left side of a row, the right side, or both
abbrev pub both_sides : Plan → List ℕ → ℕ → ℕ → ℕ → RowOpening
both_sides plan seed race instance number = row.Both (left_opening_of plan seed race instance number) (right_opening_of plan seed race instance number)

abbrev pub one_side : Plan → List ℕ → ℕ → ℕ → ℕ → Side → RowOpening
one_side plan seed race instance number side.Left = row.Left (left_opening_of plan seed race instance number)
one_side plan seed race instance number side.Right = row.Right (right_opening_of plan seed race instance number)

-- what is opened of a row: with public bytes both sides where its entry is of an audited ballot, else the coin's side
unfoldable pub opened_row : Plan → List ℕ → List Told → Draw → ℕ → ℕ → ℕ → RowOpening
opened_row plan seed fates drawn.Full race instance number = both_sides plan seed race instance number
opened_row plan seed fates (drawn.Public bytes) race instance number =
    (if is_entry_audited plan fates race (left_of plan seed race instance number) then both_sides plan seed race instance number
    else one_side plan seed race instance number (coin_of (coin_seed bytes) race instance number))

-- SECTION 4: THE DISPUTES

-- a claim with its answer, and the ballot's codes in the race
abbrev pub dispute_of : Plan → List ℕ → Claimed → DisputeBlock
dispute_of plan seed claimed = record {
  ballot = claimed.ballot;
  race = claimed.race;
  code = claimed.code;
  word = claimed.word;
  codes = race_codes_of plan seed claimed.ballot claimed.race;
}

-- THE RECORD

-- a value for each race, for each entry, place or row of a race, and for each row of its instances
abbrev pub by_race : {A : Type 0} → Plan → (ℕ → A) → List A
by_race plan value = map value (numbers_below (length plan.races))

abbrev pub by_entry : {A : Type 0} → Plan → (ℕ → ℕ → A) → List (List A)
by_entry plan value = by_race plan (λ race. map (value race) (numbers_below (entries_of plan race)))

abbrev pub by_row : {A : Type 0} → Plan → (ℕ → ℕ → ℕ → A) → List (List (List A))
by_row plan value = by_race plan (λ race. map (λ instance. map (value race instance) (numbers_below (entries_of plan race))) (numbers_below plan.instances))

abbrev pub by_candidate : {A : Type 0} → Plan → (ℕ → ℕ → A) → List (List A)
by_candidate plan value = by_race plan (λ race. map (value race) (numbers_below (candidates_of plan race)))

-- the record of these fates, this draw and these claims, with these seals
abbrev pub record_with : Plan → List ℕ → List Told → Draw → List Claimed → List Digest → Record
record_with plan seed fates draw claims seals = record {
  plan = plan;
  code_commits = by_entry plan (code_commit_of plan seed);
  row_commits = by_row plan (row_commit_of plan seed);
  seals = seals;
  ballots = flat_map (told_blocks plan seed) fates;
  flags = by_row plan (flag_of plan seed fates);
  places = by_entry plan (is_place_set plan seed fates);
  totals = by_candidate plan (total_of plan seed fates);
  draw = draw;
  rows = by_row plan (opened_row plan seed fates draw);
  disputes = map (dispute_of plan seed) claims;
}

-- SEALS: each is over all lines before it. A record without a seal has none of its section's lines behind these.

-- the seal of these lines
abbrev pub seal_over : Plan → List Said → Digest
seal_over plan lines = record { 0 = sha256 (text_in plan.version lines) }

-- the first depends on the tables alone, the second on the fates too, and the third also on the draw
unfoldable pub seal_1 : Plan → List ℕ → Digest
seal_1 plan seed = seal_over plan (first_lines (record_with plan seed [] drawn.Full [] []))

unfoldable pub seal_2 : Plan → List ℕ → List Told → Digest
seal_2 plan seed fates = seal_over plan (second_lines (record_with plan seed fates drawn.Full [] (seal_1 plan seed ∷ [])))

unfoldable pub seal_3 : Plan → List ℕ → List Told → Draw → Digest
seal_3 plan seed fates draw = seal_over plan (third_lines (record_with plan seed fates draw [] (seal_1 plan seed ∷ seal_2 plan seed fates ∷ [])))

-- the whole record of these fates, this draw and these claims
abbrev pub posted_record : Plan → List ℕ → List Told → Draw → List Claimed → Record
posted_record plan seed fates draw claims =
    record_with plan seed fates draw claims (seal_1 plan seed ∷ seal_2 plan seed fates ∷ seal_3 plan seed fates draw ∷ [])

-- THE TEXT SO FAR

-- section 1 while the ballots are voted on; with section 2 once they are closed; and all of it once sides are drawn.
-- Before the draw, what stands for it in the record comes in no line.
abbrev pub lines_at : Plan → List ℕ → List Told → List Claimed → Stage → List Said
lines_at plan seed fates claims stage.Voting = first_lines (posted_record plan seed fates drawn.Full claims)
lines_at plan seed fates claims stage.Closed = second_lines (posted_record plan seed fates drawn.Full claims)
lines_at plan seed fates claims (stage.Drawn draw) = lines_in (posted_record plan seed fates draw claims)

unfoldable pub posted_text : Plan → List ℕ → Story → List ℕ
posted_text plan seed story = text_in plan.version (lines_at plan seed story.fates story.claims story.stage)
