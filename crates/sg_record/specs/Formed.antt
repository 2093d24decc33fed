-- Which records have a text: their lists are as long as the plan says, and their codes, blocks and disputes stand in
-- the order of the rules (this project's rules for the record).
use Rattle.std.specs.Prelude.{ℕ, ◌+◌, ◌==◌, nat_lt, nat_le, Bool, true, ◌&&◌, List, [], ◌∷◌, length, take, drop, false}
use Rattle.std.specs.List.{list_all}
use Rattle.std.specs.Option.{option_map_or}
use Rattle.sg_plan.specs.Ballots.{ballot_has, candidates_of, entries_of, races_of_ballot}
use Rattle.sg_plan.specs.Codes.{is_code}
use Rattle.sg_plan.specs.Fates.{paper_fits}
use Rattle.sg_plan.specs.Limits.{most_claims, most_public_bytes, plan_keeps}
use Rattle.sg_plan.specs.declared.plan.Draw.{Draw}
use Rattle.sg_plan.specs.declared.plan.Draw.TheVariants as drawn
use Rattle.sg_plan.specs.declared.plan.Plan.{Plan}
use Rattle.sg_forms.specs.declared.line.CodeLine.{CodeLine}
use Rattle.sg_grammar.specs.Walk.{is_later}
use Rattle.sg_record.specs.Tree.{behind_cast}
use Rattle.sg_record.specs.declared.record.BallotBlock.{BallotBlock}
use Rattle.sg_record.specs.declared.record.BlockFate.{BlockFate}
use Rattle.sg_record.specs.declared.record.BlockFate.TheVariants as fate
use Rattle.sg_record.specs.declared.record.CastLine.{CastLine}
use Rattle.sg_record.specs.declared.record.DisputeBlock.{DisputeBlock}
use Rattle.sg_record.specs.declared.record.Record.{Record}

-- LENGTHS

-- the test holds of each item and its number, from `at` on
abbrev pub each_passes : {A : Type 0} → (ℕ → A → Bool) → ℕ → List A → Bool
each_passes test at [] = true
each_passes test at (x ∷ xs) = test at x && each_passes test (at + 1) xs

-- an item for each entry of each race
abbrev pub has_entries : {A : Type 0} → Plan → List (List A) → Bool
has_entries plan lists = length lists == length plan.races && each_passes (λ race items. length items == entries_of plan race) 0 lists

-- an item for each row of each instance of each race
abbrev pub has_rows : {A : Type 0} → Plan → List (List (List A)) → Bool
has_rows plan lists =
    length lists == length plan.races
    && each_passes (λ race instances. length instances == plan.instances && list_all (λ items. length items == entries_of plan race) instances) 0 lists

-- an item for each candidate of each race
abbrev pub has_candidates : {A : Type 0} → Plan → List (List A) → Bool
has_candidates plan lists = length lists == length plan.races && each_passes (λ race items. length items == candidates_of plan race) 0 lists

-- CODES

-- lines of a cast ballot from this race and column on, one after another
abbrev pub are_cast : Plan → ℕ → ℕ → ℕ → List CastLine → Bool
are_cast plan ballot race column [] = true
are_cast plan ballot race column (line ∷ lines) = option_map_or (λ next. are_cast plan ballot next.0 next.1 lines) (behind_cast plan ballot race column line) false

-- a code for each column of the race
abbrev pub has_columns : Plan → ℕ → List CodeLine → Bool
has_columns plan race codes =
    length codes == candidates_of plan race && each_passes (λ column code. (code.race == race && code.column == column) && is_code plan code.code) 0 codes

-- such codes for each of these races, one race after another
abbrev pub are_columns : Plan → List ℕ → List CodeLine → Bool
are_columns plan [] codes = length codes == 0
are_columns plan (race ∷ races) codes = has_columns plan race (take (candidates_of plan race) codes) && are_columns plan races (drop (candidates_of plan race) codes)

-- BLOCKS

abbrev pub is_fate : Plan → ℕ → BlockFate → Bool
is_fate plan ballot (fate.Cast lines) = are_cast plan ballot 0 0 lines
is_fate plan ballot fate.Spoiled = true
is_fate plan ballot (fate.Audited papers codes) = paper_fits plan (races_of_ballot plan ballot) papers && are_columns plan (races_of_ballot plan ballot) codes
is_fate plan ballot fate.Voided = plan.version == 2

-- blocks of rising ballots behind this one
abbrev pub are_blocks : Plan → ℕ → List BallotBlock → Bool
are_blocks plan last [] = true
are_blocks plan last (one ∷ blocks) = (is_later plan last one.ballot && is_fate plan one.ballot one.fate) && are_blocks plan one.ballot blocks

-- a claim on a ballot in one of its races, and the ballot's codes there
abbrev pub is_dispute : Plan → DisputeBlock → Bool
is_dispute plan one =
    ((nat_lt one.race (length plan.races) && ballot_has plan one.ballot one.race) && is_code plan one.code) && has_columns plan one.race one.codes

-- the public bytes are 1 to 4,096
abbrev pub is_draw : Draw → Bool
is_draw drawn.Full = true
is_draw (drawn.Public bytes) = nat_le 1 (length bytes) && nat_le (length bytes) most_public_bytes

-- THE WHOLE

-- the record has a text
unfoldable pub is_formed : Record → Bool
is_formed posted =
    (plan_keeps posted.plan && length posted.seals == 3)
    && (has_entries posted.plan posted.code_commits
    && (has_rows posted.plan posted.row_commits
    && (are_blocks posted.plan 0 posted.ballots
    && (has_rows posted.plan posted.flags
    && (has_entries posted.plan posted.places
    && (has_candidates posted.plan posted.totals
    && (is_draw posted.draw
    && (has_rows posted.plan posted.rows
    && (nat_le (length posted.disputes) most_claims && list_all (is_dispute posted.plan) posted.disputes)))))))))
