-- The lines of a record, put together section by section from its lists: race by race, instance by instance, row by row
-- (this project's rules for the record).
--
-- A leaf of this tree is a line: what it says, and its place. `Lines` takes what the leaves say, and `Places` where they stand.
use Rattle.std.specs.Prelude.{ℕ, ◌+◌, ◌-◌, ◌*◌, if◌then◌else◌, Bool, ◌&&◌, List, [], ◌∷◌, ◌++◌, length, map, take, drop, slice_index_or, Option, Some, None}
use Rattle.std.specs.List.{flat_map, zip}
use Rattle.sg_commit.specs.declared.Digest.{Digest}
use Rattle.sg_plan.specs.Ballots.{races_of_ballot}
use Rattle.sg_plan.specs.Codes.{is_code}
use Rattle.sg_plan.specs.declared.plan.Draw.{Draw}
use Rattle.sg_plan.specs.declared.plan.Draw.TheVariants as drawn
use Rattle.sg_plan.specs.declared.plan.Plan.{Plan}
use Rattle.sg_lines.specs.Words.{encode_lower}
use Rattle.sg_forms.specs.declared.line.CodeLine.{CodeLine}
use Rattle.sg_forms.specs.declared.line.RowOpening.{RowOpening}
use Rattle.sg_forms.specs.Said.{Said}
use Rattle.sg_forms.specs.Said.Said.{CodeCommit, RowCommit, Seal, Cast, Spoiled, Audited, Code, Over, Paper, Flags, Places, Total, DrawFull, DrawPublic, Row, Dispute, Voided}
use Rattle.sg_grammar.specs.Due.{each, lines_for}
use Rattle.sg_grammar.specs.Head.{if_then}
use Rattle.sg_grammar.specs.Placed.{Placed}
use Rattle.sg_grammar.specs.Placed.Placed.{CodeCommitAt, RowCommitAt, SealAt, Begun, CodeAt, OverAt, PaperAt, FlagsAt, PlacesAt, TotalAt, DrawnFull, DrawnPublic, RowAt, Disputed}
use Rattle.sg_grammar.specs.Walk.{follows_in_order, is_column, is_race_left}
use Rattle.sg_grammar.specs.declared.state.Block.{Block}
use Rattle.sg_grammar.specs.declared.state.Block.TheVariants as block
use Rattle.sg_record.specs.declared.record.BallotBlock.{BallotBlock}
use Rattle.sg_record.specs.declared.record.BlockFate.{BlockFate}
use Rattle.sg_record.specs.declared.record.BlockFate.TheVariants as fate
use Rattle.sg_record.specs.declared.record.CastLine.{CastLine}
use Rattle.sg_record.specs.declared.record.CastLine.TheVariants as cast
use Rattle.sg_record.specs.declared.record.DisputeBlock.{DisputeBlock}
use Rattle.sg_record.specs.declared.record.Record.{Record}
use Rattle.sg_record.specs.declared.record.RowCommit.{RowCommit as RowDigests}

-- what is made of a line: of what it says, and of its place
abbrev pub Leaf : Type 0 → Type 0
Leaf A = Said → Placed → A

abbrev pub as_line : Leaf Said
as_line said placed = said

abbrev pub as_place : Leaf Placed
as_place said placed = placed

-- the lists that the items give, one after another, each with its number from `at` on
unfoldable pub indexed : {A B : Type 0} → (ℕ → A → List B) → ℕ → List A → List B
indexed f at [] = []
indexed f at (x ∷ xs) = f at x ++ indexed f (at + 1) xs

-- SECTION 1: THE COMMITMENTS

-- the seal that ends the section with this number
abbrev pub seal_tree : {A : Type 0} → Leaf A → ℕ → List Digest → List A
seal_tree leaf number seals = map (λ digest. leaf (Seal number digest) (SealAt number digest)) (take 1 (drop (number - 1) seals))

abbrev pub code_commit_leaf : {A : Type 0} → Leaf A → ℕ → ℕ → Digest → List A
code_commit_leaf leaf race entry digest = leaf (CodeCommit race digest) (CodeCommitAt race entry digest) ∷ []

abbrev pub race_code_commit_tree : {A : Type 0} → Leaf A → ℕ → List Digest → List A
race_code_commit_tree leaf race digests = indexed (code_commit_leaf leaf race) 0 digests

abbrev pub row_commit_leaf : {A : Type 0} → Leaf A → ℕ → ℕ → ℕ → RowDigests → List A
row_commit_leaf leaf race instance row digests =
    leaf (RowCommit race instance digests.left digests.right) (RowCommitAt race instance row digests.left digests.right) ∷ []

abbrev pub instance_row_commit_tree : {A : Type 0} → Leaf A → ℕ → ℕ → List RowDigests → List A
instance_row_commit_tree leaf race instance rows = indexed (row_commit_leaf leaf race instance) 0 rows

abbrev pub race_row_commit_tree : {A : Type 0} → Leaf A → ℕ → List (List RowDigests) → List A
race_row_commit_tree leaf race instances = indexed (instance_row_commit_tree leaf race) 0 instances

abbrev pub commit_tree : {A : Type 0} → Leaf A → Record → List A
commit_tree leaf posted = indexed (race_code_commit_tree leaf) 0 posted.code_commits ++ (indexed (race_row_commit_tree leaf) 0 posted.row_commits ++ seal_tree leaf 1 posted.seals)

-- SECTION 2: THE BALLOTS

-- a code of a block
abbrev pub code_leaf : {A : Type 0} → Leaf A → Block → ℕ → CodeLine → A
code_leaf leaf kind ballot code = leaf (Code code) (CodeAt kind ballot code.race code.column code)

-- a line of a cast ballot: what it says
abbrev pub cast_said : CastLine → Said
cast_said (cast.Code code) = Code code
cast_said (cast.Over race) = Over race

-- its place
abbrev pub cast_place : ℕ → CastLine → Placed
cast_place ballot (cast.Code code) = CodeAt block.Cast ballot code.race code.column code
cast_place ballot (cast.Over race) = OverAt ballot race

-- the line that stands in a place, if the place is one of a cast ballot
abbrev pub cast_at : Placed → Option CastLine
cast_at (CodeAt block.Cast ballot race column code) = Some (cast.Code code)
cast_at (OverAt ballot race) = Some (cast.Over race)
cast_at placed = None

-- the race and the column from which on the next line of a cast ballot is, behind a line that may stand from this race and
-- column on: races don't fall, in one race columns rise, and behind a race that is over no line is of it
abbrev pub behind_cast : Plan → ℕ → ℕ → ℕ → CastLine → Option (ℕ × ℕ)
behind_cast plan ballot race column (cast.Code code) =
    if_then ((is_column plan ballot code.race code.column && follows_in_order race column code.race code.column) && is_code plan code.code) (code.race, code.column + 1)
behind_cast plan ballot race column (cast.Over over) = if_then (is_race_left plan ballot race over) (over + 1, 0)

abbrev pub cast_leaf : {A : Type 0} → Leaf A → ℕ → CastLine → A
cast_leaf leaf ballot line = leaf (cast_said line) (cast_place ballot line)

-- a paper's codes, race by race
abbrev pub paper_tree : {A : Type 0} → Leaf A → ℕ → List ℕ → List (List ℕ) → List A
paper_tree leaf ballot races papers = map (λ one. leaf (Paper one.0 one.1) (PaperAt ballot one.0 one.1)) (zip races papers)

abbrev pub fate_tree : {A : Type 0} → Leaf A → Plan → ℕ → BlockFate → List A
fate_tree leaf plan ballot (fate.Cast lines) = leaf (Cast ballot) (Begun ballot) ∷ map (cast_leaf leaf ballot) lines
fate_tree leaf plan ballot fate.Spoiled = leaf (Spoiled ballot) (Begun ballot) ∷ []
fate_tree leaf plan ballot (fate.Audited papers codes) =
    leaf (Audited ballot) (Begun ballot) ∷ (paper_tree leaf ballot (races_of_ballot plan ballot) papers ++ map (code_leaf leaf block.Audited ballot) codes)
fate_tree leaf plan ballot fate.Voided = leaf (Voided ballot) (Begun ballot) ∷ []

abbrev pub block_tree : {A : Type 0} → Leaf A → Plan → BallotBlock → List A
block_tree leaf plan one = fate_tree leaf plan one.ballot one.fate

-- SECTION 2: THE RESULTS

abbrev pub bit_sign : Bool → ℕ
bit_sign bit = (if bit then 0x31 else 0x30)

-- the signs of the bits on a line: 64 on each, and the rest on the last
abbrev pub signs_on : List Bool → ℕ → List ℕ
signs_on bits line = map bit_sign (take 64 (drop (64 * line) bits))

abbrev pub flag_leaf : {A : Type 0} → Leaf A → ℕ → ℕ → List Bool → ℕ → List A
flag_leaf leaf race instance bits line = leaf (Flags race instance (signs_on bits line)) (FlagsAt race instance (64 * line) (signs_on bits line)) ∷ []

abbrev pub flag_tree : {A : Type 0} → Leaf A → ℕ → ℕ → List Bool → List A
flag_tree leaf race instance bits = each (flag_leaf leaf race instance bits) 0 (lines_for (length bits))

abbrev pub place_leaf : {A : Type 0} → Leaf A → ℕ → List Bool → ℕ → List A
place_leaf leaf race bits line = leaf (Places race (signs_on bits line)) (PlacesAt race (64 * line) (signs_on bits line)) ∷ []

abbrev pub place_tree : {A : Type 0} → Leaf A → ℕ → List Bool → List A
place_tree leaf race bits = each (place_leaf leaf race bits) 0 (lines_for (length bits))

abbrev pub total_leaf : {A : Type 0} → Leaf A → ℕ → ℕ → ℕ → List A
total_leaf leaf race candidate count = leaf (Total race candidate count) (TotalAt race candidate count) ∷ []

-- a race: the flags of each instance, the places, and the total of each candidate
abbrev pub race_results_tree : {A : Type 0} → Leaf A → Record → ℕ → List A
race_results_tree leaf posted race =
    indexed (flag_tree leaf race) 0 (slice_index_or posted.flags race [])
    ++ (place_tree leaf race (slice_index_or posted.places race []) ++ indexed (total_leaf leaf race) 0 (slice_index_or posted.totals race []))

abbrev pub result_tree : {A : Type 0} → Leaf A → Record → List A
result_tree leaf posted = each (race_results_tree leaf posted) 0 (length posted.plan.races) ++ seal_tree leaf 2 posted.seals

-- SECTION 3: THE DRAW AND THE OPENINGS

abbrev pub draw_leaf : {A : Type 0} → Leaf A → Draw → A
draw_leaf leaf drawn.Full = leaf DrawFull DrawnFull
draw_leaf leaf (drawn.Public bytes) = leaf (DrawPublic (encode_lower bytes)) (DrawnPublic (encode_lower bytes))

abbrev pub row_leaf : {A : Type 0} → Leaf A → ℕ → ℕ → ℕ → RowOpening → List A
row_leaf leaf race instance row opening = leaf (Row opening) (RowAt race instance row opening) ∷ []

abbrev pub instance_row_tree : {A : Type 0} → Leaf A → ℕ → ℕ → List RowOpening → List A
instance_row_tree leaf race instance rows = indexed (row_leaf leaf race instance) 0 rows

abbrev pub race_row_tree : {A : Type 0} → Leaf A → ℕ → List (List RowOpening) → List A
race_row_tree leaf race instances = indexed (instance_row_tree leaf race) 0 instances

abbrev pub opening_tree : {A : Type 0} → Leaf A → Record → List A
opening_tree leaf posted = draw_leaf leaf posted.draw ∷ (indexed (race_row_tree leaf) 0 posted.rows ++ seal_tree leaf 3 posted.seals)

-- SECTION 4: THE DISPUTES

abbrev pub dispute_tree : {A : Type 0} → Leaf A → DisputeBlock → List A
dispute_tree leaf one = leaf (Dispute one.ballot one.race one.code one.word) (Disputed one.ballot one.race one.code one.word) ∷ map (code_leaf leaf block.Dispute one.ballot) one.codes

-- THE WHOLE

-- behind the lines of the plan
abbrev pub tree : {A : Type 0} → Leaf A → List A → Record → List A
tree leaf of_plan posted =
    of_plan
    ++ (commit_tree leaf posted
    ++ (flat_map (block_tree leaf posted.plan) posted.ballots ++ (result_tree leaf posted ++ (opening_tree leaf posted ++ flat_map (dispute_tree leaf) posted.disputes))))
