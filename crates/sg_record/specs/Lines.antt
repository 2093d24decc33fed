-- The lines of a record and its text (this project's rules for the record).
use Rattle.std.specs.Prelude.{ℕ, ◌==◌, if◌then◌else◌, List, ◌∷◌, ◌++◌, length, map}
use Rattle.std.specs.List.{concat, flat_map}
use Rattle.sg_plan.specs.declared.plan.Plan.{Plan}
use Rattle.sg_plan.specs.declared.plan.Race.{Race as PlanRace}
use Rattle.sg_plan.specs.declared.plan.Run.{Run}
use Rattle.sg_plan.specs.declared.plan.Stage.{Stage}
use Rattle.sg_plan.specs.declared.plan.Stage.TheVariants as stage
use Rattle.sg_plan.specs.declared.plan.Style.{Style as PlanStyle}
use Rattle.sg_forms.specs.Said.{Said}
use Rattle.sg_forms.specs.Said.Said.{Version, Election, Instances, Race, Cand, Style, Ballots}
use Rattle.sg_forms.specs.Spelling.{spelling}
use Rattle.sg_grammar.specs.Due.{each}
use Rattle.sg_record.specs.Tree.{as_line, block_tree, commit_tree, draw_leaf, indexed, opening_tree, race_code_commit_tree, race_results_tree, race_row_commit_tree, race_row_tree, result_tree, tree}
use Rattle.sg_record.specs.declared.record.Record.{Record}

-- THE PLAN

-- a race and its candidates
abbrev pub race_lines : PlanRace → List Said
race_lines race = Race race.name (length race.candidates) race.votes ∷ map Cand race.candidates

abbrev pub style_line : PlanStyle → Said
style_line style = Style style.name style.races

abbrev pub run_line : Run → Said
run_line run = Ballots run.style run.count

abbrev pub plan_lines : Plan → List Said
plan_lines plan = Version plan.version ∷ Election plan.name ∷ Instances plan.instances ∷ (flat_map race_lines plan.races ++ (map style_line plan.styles ++ map run_line plan.runs))

-- THE WHOLE

abbrev pub lines_in : Record → List Said
lines_in posted = tree as_line (plan_lines posted.plan) posted

-- the lines up to the end of the first, the second and the third section
abbrev pub first_lines : Record → List Said
first_lines posted = plan_lines posted.plan ++ commit_tree as_line posted

abbrev pub second_lines : Record → List Said
second_lines posted = first_lines posted ++ (flat_map (block_tree as_line posted.plan) posted.ballots ++ result_tree as_line posted)

abbrev pub third_lines : Record → List Said
third_lines posted = second_lines posted ++ opening_tree as_line posted

-- as much as is posted at a stage: section 1 while ballots are voted on, section 2 too once they are closed, and all of
-- it once sides are drawn
abbrev pub stage_lines : Stage → Record → List Said
stage_lines stage.Voting posted = first_lines posted
stage_lines stage.Closed posted = second_lines posted
stage_lines (stage.Drawn draw) posted = lines_in posted

-- what the seal of a section stands behind: all lines before it
abbrev pub lines_before : ℕ → Record → List Said
lines_before section posted =
    (if section == 1 then plan_lines posted.plan ++ (indexed (race_code_commit_tree as_line) 0 posted.code_commits ++ indexed (race_row_commit_tree as_line) 0 posted.row_commits)
    else (if section == 2 then first_lines posted ++ (flat_map (block_tree as_line posted.plan) posted.ballots ++ each (race_results_tree as_line posted) 0 (length posted.plan.races))
    else second_lines posted ++ (draw_leaf as_line posted.draw ∷ indexed (race_row_tree as_line) 0 posted.rows)))

-- the text of each line
abbrev pub texts_in : Record → List (List ℕ)
texts_in posted = map (spelling posted.plan.version) (lines_in posted)

-- the text of the record
unfoldable pub text_of : Record → List ℕ
text_of posted = concat (texts_in posted)
