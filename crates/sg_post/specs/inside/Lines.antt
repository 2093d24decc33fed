-- The lines that are posted, number by number, as they are written.
use Rattle.std.specs.Prelude.{ℕ, if◌then◌else◌, List, [], ◌∷◌, ◌++◌, length, map}
use Rattle.std.specs.List.{flat_map}
use Rattle.sg_plan.specs.Ballots.{ballot_row, candidates_of, entries_of, races_of_ballot}
use Rattle.sg_plan.specs.declared.plan.Draw.{Draw}
use Rattle.sg_plan.specs.declared.plan.Fate.{Fate}
use Rattle.sg_plan.specs.declared.plan.Plan.{Plan}
use Rattle.sg_tables.specs.Posts.{column_marked}
use Rattle.sg_forms.specs.Said.{Said}
use Rattle.sg_forms.specs.Said.Said.{Audited, Cast, Code, CodeCommit, Dispute, Row, RowCommit}
use Rattle.sg_grammar.specs.Due.{each}
use Rattle.sg_record.specs.Tree.{as_line, block_tree, cast_leaf}
use Rattle.sg_record.specs.inside.Parts.{paper_lines}
use Rattle.sg_post.specs.Marks.{is_audit_fate}
use Rattle.sg_post.specs.Posted.{audited_race_codes, code_commit_of, code_in_row, opened_row, race_notes, row_commit_of, told_blocks}
use Rattle.sg_post.specs.declared.story.Claimed.{Claimed}
use Rattle.sg_post.specs.declared.story.Told.{Told}

-- SECTION 1

abbrev pub entry_commit : Plan → List ℕ → ℕ → ℕ → List Said
entry_commit plan seed race entry = CodeCommit race (code_commit_of plan seed race entry) ∷ []

abbrev pub race_commits : Plan → List ℕ → ℕ → List Said
race_commits plan seed race = each (entry_commit plan seed race) 0 (entries_of plan race)

abbrev pub row_commit : Plan → List ℕ → ℕ → ℕ → ℕ → List Said
row_commit plan seed race instance row = RowCommit race instance (row_commit_of plan seed race instance row).left (row_commit_of plan seed race instance row).right ∷ []

abbrev pub instance_row_commits : Plan → List ℕ → ℕ → ℕ → List Said
instance_row_commits plan seed race instance = each (row_commit plan seed race instance) 0 (entries_of plan race)

-- SECTION 2: THE BALLOTS

abbrev pub row_code : Plan → List ℕ → ℕ → ℕ → ℕ → List Said
row_code plan seed race row column = Code (code_in_row plan seed race row column) ∷ []

abbrev pub row_codes : Plan → List ℕ → ℕ → ℕ → List Said
row_codes plan seed race row = each (row_code plan seed race row) 0 (candidates_of plan race)

abbrev pub marked_code : Plan → List ℕ → ℕ → ℕ → Fate → ℕ → List Said
marked_code plan seed race row what column = (if column_marked plan seed race row what column then row_code plan seed race row column else [])

abbrev pub marked_row_codes : Plan → List ℕ → ℕ → ℕ → Fate → List Said
marked_row_codes plan seed race row what = each (marked_code plan seed race row what) 0 (candidates_of plan race)

abbrev pub note_lines : Plan → ℕ → Fate → ℕ → List Said
note_lines plan ballot what race = map (cast_leaf as_line ballot) (race_notes plan ballot what race)

abbrev pub cast_race : Plan → List ℕ → ℕ → Fate → ℕ → List Said
cast_race plan seed ballot what race = marked_row_codes plan seed race (ballot_row plan race ballot) what ++ note_lines plan ballot what race

abbrev pub audited_race : Plan → List ℕ → ℕ → ℕ → List Said
audited_race plan seed ballot race = map Code (audited_race_codes plan seed ballot race)

-- in a race, by the ballot's fate: all codes where it was audited
abbrev pub fate_race : Plan → List ℕ → ℕ → Fate → ℕ → List Said
fate_race plan seed ballot what race = (if is_audit_fate what then audited_race plan seed ballot race else cast_race plan seed ballot what race)

abbrev pub fate_races : Plan → List ℕ → ℕ → Fate → List Said
fate_races plan seed ballot what = each (fate_race plan seed ballot what) 0 (length plan.races)

abbrev pub cast_block : Plan → List ℕ → ℕ → Fate → List Said
cast_block plan seed ballot what = Cast ballot ∷ fate_races plan seed ballot what

abbrev pub audited_block : Plan → List ℕ → ℕ → Fate → List (List ℕ) → List Said
audited_block plan seed ballot what paper = Audited ballot ∷ (paper_lines (races_of_ballot plan ballot) paper ++ fate_races plan seed ballot what)

unfoldable pub told_lines : Plan → List ℕ → Told → List Said
told_lines plan seed told = flat_map (block_tree as_line plan) (told_blocks plan seed told)

-- SECTION 3

abbrev pub row_opening : Plan → List ℕ → List Told → Draw → ℕ → ℕ → ℕ → List Said
row_opening plan seed fates draw race instance row = Row (opened_row plan seed fates draw race instance row) ∷ []

abbrev pub instance_openings : Plan → List ℕ → List Told → Draw → ℕ → ℕ → List Said
instance_openings plan seed fates draw race instance = each (row_opening plan seed fates draw race instance) 0 (entries_of plan race)

-- SECTION 4

abbrev pub claim_lines : Plan → List ℕ → Claimed → List Said
claim_lines plan seed claimed = Dispute claimed.ballot claimed.race claimed.code claimed.word ∷ row_codes plan seed claimed.race (ballot_row plan claimed.race claimed.ballot)
