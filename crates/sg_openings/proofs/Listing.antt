-- The lines that are written row by row are those of the text.
use Rattle.std.proofs.Common.{◌≡◌, ℕ, ◌≤◌, List, [], ◌∷◌, ◌++◌, length, map, Option, Result, Ok, Err, refl, ap, ◌∙◌, arith}
use Rattle.std.specs.Io.KnownBytes.{Appends}
use Rattle.std.specs.List.{concat}
use Rattle.sg_lists.proofs.Lists.{flat_map-same, map-flat_map, map-map, map-single}
use Rattle.sg_outside.specs.Faults.{HasCause}
use Rattle.sg_outside.specs.Streams.{PutAppends}
use Rattle.sg_outside.proofs.StreamLemmas.{Appends-trans, AppendsFront-trans}
use Rattle.sg_plan.specs.Ballots.{entries_of}
use Rattle.sg_plan.specs.declared.plan.Plan.{Plan}
use Rattle.sg_streams.specs.Numbers.{numbers_below}
use Rattle.sg_forms.specs.Said.Said.{Row}
use Rattle.sg_forms.specs.Spelling.{spelling}
use Rattle.sg_forms.specs.declared.line.RowOpening.{RowOpening}
use Rattle.sg_post.specs.Posted.{both_sides}
use Rattle.sg_post.proofs.Numbered.{flat-numbers}
use Rattle.sg_record.specs.Writing.{text_in}
use Rattle.sg_openings.specs.Openings.{all_rows, completion_line, instance_rows, openings_text, race_rows, row_text}
use Rattle.sg_openings.specs.inside.Lines.{all_lines, instance_lines, race_lines, row_line}

-- THE ROWS

instance-is : (plan : Plan) (seed : List ℕ) (race instance : ℕ) → map Row (instance_rows plan seed race instance) ≡ instance_lines plan seed race instance
instance-is plan seed race instance =
    map-map Row (both_sides plan seed race instance) (numbers_below (entries_of plan race))
    ∙ map-single (λ row. Row (both_sides plan seed race instance row)) (numbers_below (entries_of plan race))
    ∙ flat-numbers (row_line plan seed race instance) (entries_of plan race)

race-is : (plan : Plan) (seed : List ℕ) (race : ℕ) → map Row (race_rows plan seed race) ≡ race_lines plan seed race
race-is plan seed race =
    map-flat_map Row (instance_rows plan seed race) (numbers_below plan.instances)
    ∙ flat_map-same (λ instance. map Row (instance_rows plan seed race instance)) (instance_lines plan seed race) (numbers_below plan.instances) (instance-is plan seed race)
    ∙ flat-numbers (instance_lines plan seed race) plan.instances

pub rows-are : (plan : Plan) (seed : List ℕ) → map Row (all_rows plan seed) ≡ all_lines plan seed
rows-are plan seed =
    map-flat_map Row (race_rows plan seed) (numbers_below (length plan.races))
    ∙ flat_map-same (λ race. map Row (race_rows plan seed race)) (race_lines plan seed) (numbers_below (length plan.races)) (race-is plan seed)
    ∙ flat-numbers (race_lines plan seed) (length plan.races)

-- THE TEXT

texts-are : (plan : Plan) (rows : List RowOpening) → map (row_text plan) rows ≡ map (spelling plan.version) (map Row rows)
texts-are plan [] = refl
texts-are plan (row ∷ rows) = ap (λ l. row_text plan row ∷ l) (texts-are plan rows)

pub text-is : (plan : Plan) (seed : List ℕ) → openings_text plan seed ≡ completion_line ++ text_in plan.version (all_lines plan seed)
unfolding openings_text
text-is plan seed =
    ap (λ l. completion_line ++ concat l)
    (texts-are plan (all_rows plan seed) ∙ ap (map (spelling plan.version)) (rows-are plan seed))

-- WHAT IS WRITTEN

-- a piece, and then what is done with the next, is what is done with both
pub put_after : {T E : Type 0} (before now next : Option (List ℕ)) (result : Result T E) (bs cs : List ℕ)
    → Appends before now bs → PutAppends now next result cs → PutAppends before next result (bs ++ cs)
put_after before now next (Ok value) bs cs first more = Appends-trans before now next bs cs first more
put_after before now next (Err error) bs cs first more = AppendsFront-trans before now next bs cs first more

-- a cause that came behind other calls came behind what was before them
pub cause_after : {T E : Type 0} (before now next : ℕ) (result : Result T E) → before ≤ now → HasCause now next result → HasCause before next result
cause_after before now next (Ok value) first more = record { later = omega (arith, first, more.later); failed = tt }
cause_after before now next (Err error) first more = record { later = omega (arith, first, more.later); failed = omega (arith, first, more.failed) }
