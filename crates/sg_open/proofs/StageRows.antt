-- The rows of stages, by how many they are.
use Rattle.std.proofs.Common.{◌≡◌, ℕ, ◌<◌, ◌≤◌, ◌==◌, Bool, true, false, ◌&&◌, cond, List, [], ◌∷◌, ◌++◌, length, drop, Some, None, refl, ap, sym, ◌∙◌, arith}
use Rattle.std.specs.Prelude.{pos, codes, is_some, map}
use Rattle.std.specs.List.{list_all}
use Rattle.std.specs.Ordering.{int_eq}
use Rattle.std.specs.Str.{is_utf8}
use Rattle.std.proofs.lemmas.List.{append_assoc}
use Rattle.sg_plan.specs.Limits.{first_bad}
use Rattle.sg_plan.specs.declared.plan.Plan.{Plan}
use Rattle.sg_desks.specs.ActReading.{act_in}
use Rattle.sg_desks.specs.ActTexts.{act_text}
use Rattle.sg_acts.specs.declared.asks.Act.TheVariants as act
use Rattle.sg_keeper.specs.declared.rows.StageRow.{StageRow}
use Rattle.sg_histories.specs.ValidRows.{stage_keeps, stage_text}
use Rattle.sg_open.specs.declared.stages.DrawTold.{DrawTold}
use Rattle.sg_open.specs.inside.Telling.{draw_line, draw_told}
use Rattle.sg_open.proofs.TellingRows.{act_utf8, draw_is, draw_tells, draw_utf8}
use Rattle.sg_open.proofs.Walking.{utf8_push}

-- the row is of the close
abbrev pub is_close : StageRow → Bool
is_close row = int_eq row.step (pos 1) && length row.detail == 0

-- where the first two rows were got from
pub two_rows : (rows : List StageRow) (a b : StageRow) → rows ≡ a ∷ drop 1 rows → drop 1 rows ≡ b ∷ drop 2 rows → rows ≡ a ∷ b ∷ drop 2 rows
two_rows rows a b first second = first ∙ ap (λ (l : List StageRow). a ∷ l) second

-- FIRST BAD ROWS

-- the first row is good, and then on
second_next : (plan : Plan) (a b : StageRow) (more : List StageRow) → is_close a ≡ true
    → first_bad (stage_keeps plan (act_in plan.version)) [] (a ∷ b ∷ more) ≡ first_bad (stage_keeps plan (act_in plan.version)) (a ∷ []) (b ∷ more)
second_next plan a b more close = ap (λ (t : Bool). cond t (first_bad (stage_keeps plan (act_in plan.version)) (a ∷ []) (b ∷ more)) (Some 0)) close

-- and by what the second row tells
second_by : (plan : Plan) (a b : StageRow) (more : List StageRow) (t : Bool) → is_some (draw_told plan.version b) ≡ t
    → first_bad (stage_keeps plan (act_in plan.version)) (a ∷ []) (b ∷ more) ≡ cond t (first_bad (stage_keeps plan (act_in plan.version)) (a ∷ b ∷ []) more) (Some 1)
second_by plan a b more t e =
    ap (λ (s : Bool). cond s (first_bad (stage_keeps plan (act_in plan.version)) (a ∷ b ∷ []) more) (Some 1)) (sym (draw_tells plan b) ∙ e)

pub second_bad : (plan : Plan) (rows : List StageRow) (a b : StageRow) (more : List StageRow)
    → rows ≡ a ∷ b ∷ more → is_close a ≡ true → draw_told plan.version b ≡ None
    → first_bad (stage_keeps plan (act_in plan.version)) [] rows ≡ Some 1
second_bad plan rows a b more are close none =
    ap (first_bad (stage_keeps plan (act_in plan.version)) []) are ∙ (second_next plan a b more close ∙ second_by plan a b more false (ap is_some none))

third_here : (plan : Plan) (a b : StageRow) (more : List StageRow) → 2 < length (a ∷ b ∷ more)
    → first_bad (stage_keeps plan (act_in plan.version)) (a ∷ b ∷ []) more ≡ Some 2
third_here plan a b [] many = absurd (omega (arith, many))
third_here plan a b (c ∷ more) many = refl

pub third_bad : (plan : Plan) (rows : List StageRow) (a b : StageRow) (more : List StageRow) (told : DrawTold)
    → rows ≡ a ∷ b ∷ more → is_close a ≡ true → draw_told plan.version b ≡ Some told → 2 < length rows
    → first_bad (stage_keeps plan (act_in plan.version)) [] rows ≡ Some 2
third_bad plan rows a b more told are close draws many =
    let long : length rows ≡ length (a ∷ b ∷ more) = ap length are in
    let past : 2 < length (a ∷ b ∷ more) = omega (arith, long, many) in
    ap (first_bad (stage_keeps plan (act_in plan.version)) []) are
    ∙ (second_next plan a b more close ∙ (second_by plan a b more true (ap is_some draws) ∙ third_here plan a b more past))

-- TEXTS

-- the text of the first row
close_is : (row : StageRow) → is_close row ≡ true → stage_text row ≡ codes "close"
close_is row close = by_step (int_eq row.step (pos 1)) refl close
  where
    by_step : (one : Bool) → int_eq row.step (pos 1) ≡ one → (one && length row.detail == 0) ≡ true → stage_text row ≡ codes "close"
    by_step true e k = ap (λ (one : Bool). cond one (codes "close") (draw_line row.detail)) e
    by_step false e k = cc

-- the texts of two rows
texts_are : (version : ℕ) (a b : StageRow) (more : List StageRow) (told : DrawTold) → is_close a ≡ true → draw_told version b ≡ Some told → length (a ∷ b ∷ more) ≤ 2
    → map stage_text (a ∷ b ∷ more) ≡ codes "close" ∷ told.text ∷ []
texts_are version a b (c ∷ more) told close draws few = absurd (omega (arith, few))
texts_are version a b [] told close draws few =
    ap (λ (t : List ℕ). t ∷ stage_text b ∷ []) (close_is a close) ∙ ap (λ (t : List ℕ). codes "close" ∷ t ∷ []) (draw_is version b told draws).text

pub both_told : (version : ℕ) (rows : List StageRow) (a b : StageRow) (more : List StageRow) (told : DrawTold) (before after whole : List (List ℕ))
    → rows ≡ a ∷ b ∷ more → is_close a ≡ true → draw_told version b ≡ Some told → length rows ≤ 2
    → after ≡ before ++ codes "close" ∷ [] → whole ≡ after ++ told.text ∷ []
    → whole ≡ before ++ map stage_text rows
both_told version rows a b more told before after whole are close draws few first second =
    let long : length rows ≡ length (a ∷ b ∷ more) = ap length are in
    let short : length (a ∷ b ∷ more) ≤ 2 = omega (arith, long, few) in
    let texts : map stage_text rows ≡ codes "close" ∷ told.text ∷ [] = ap (map stage_text) are ∙ texts_are version a b more told close draws short in
    second
    ∙ (ap (λ (l : List (List ℕ)). l ++ told.text ∷ []) first
    ∙ (append_assoc before (codes "close" ∷ []) (told.text ∷ []) ∙ ap (λ (l : List (List ℕ)). before ++ l) (sym texts)))

-- ALL ARE TEXTS

close_is_text : is_utf8 (codes "close") ≡ true
unfolding act_text
close_is_text = act_utf8 0 act.Close (record { numbers = tt; codes = tt })

pub close_utf8 : (before after : List (List ℕ)) → list_all is_utf8 before ≡ true → after ≡ before ++ codes "close" ∷ [] → list_all is_utf8 after ≡ true
close_utf8 before after all first = ap (list_all is_utf8) first ∙ utf8_push before (codes "close") all close_is_text

pub both_utf8 : (version : ℕ) (row : StageRow) (told : DrawTold) (before after whole : List (List ℕ))
    → list_all is_utf8 before ≡ true → draw_told version row ≡ Some told
    → after ≡ before ++ codes "close" ∷ [] → whole ≡ after ++ told.text ∷ [] → list_all is_utf8 whole ≡ true
both_utf8 version row told before after whole all draws first second =
    ap (list_all is_utf8) second ∙ utf8_push after told.text (close_utf8 before after all first) (draw_utf8 version row told draws)
