-- How a sheet is read.
use Rattle.std.proofs.Common.{◌≡◌, ℕ, zero, suc, ◌+◌, ◌<◌, true, false, List, [], ◌∷◌, ◌++◌, drop, length, map, Some, refl, sym, subst, ap, ◌∙◌, arith}
use Rattle.std.specs.Prelude.{slice_get, slice_index_or, slice_set}
use Rattle.std.proofs.lemmas.List.{length-set, set-set}
use Rattle.std.proofs.lemmas.Option.{get_or_from_slice_get}
use Rattle.sg_plan.specs.declared.plan.Plan.{Plan}
use Rattle.sg_sheet.specs.inside.Listed.{line_due}
use Rattle.sg_sheet.specs.declared.due.Due.{Due}
use Rattle.sg_sheet.specs.declared.due.Due.TheVariants as line
use Rattle.sg_parts.specs.Faults.{IsSheetLine, IsSheetOff, blank}
use Rattle.sg_parts.specs.inside.Filling.{Fills, Lists, TakesLine, with_list}

-- ONE LINE

pub list_put : (lists blank new : Lists) (race : ℕ) (rows rows' : List (List ℕ)) (list : List ℕ) → slice_get lists race ≡ Some rows → blank ≡ slice_set lists race [] → rows' ≡ rows ++ list ∷ []
    → new ≡ slice_set blank race rows' → new ≡ with_list lists race list
list_put lists bare new race rows rows' list is taken grown back =
    back
    ∙ (ap (λ (l : Lists). slice_set l race rows') taken
    ∙ (set-set lists race [] rows' ∙ ap (slice_set lists race) (grown ∙ ap (λ (r : List (List ℕ)). r ++ list ∷ []) (sym (get_or_from_slice_get lists race rows [] is)))))

-- ALL LINES

pub line_long : (plan : Plan) (one : Due) (text : List ℕ) (old new : Lists) → TakesLine plan one text old new true → length new ≡ length old
line_long plan (line.Ballot ballot style) text old new takes = ap length takes.1
line_long plan (line.Codes race row) text old new takes = ap length takes.3 ∙ length-set old race (slice_index_or old race [] ++ takes.0 ∷ [])

line_is : (plan : Plan) (one : Due) (text : List ℕ) (old new : Lists) → TakesLine plan one text old new true → IsSheetLine plan (line_due blank one) text
line_is plan (line.Ballot ballot style) text old new takes = takes.0
line_is plan (line.Codes race row) text old new takes = (takes.0, takes.1, takes.2)

pub line_not : (plan : Plan) (one : Due) (text : List ℕ) (old new : Lists) → TakesLine plan one text old new false → IsSheetLine plan (line_due blank one) text → ⊥
line_not plan (line.Ballot ballot style) text old new takes is = takes.1 is
line_not plan (line.Codes race row) text old new takes is = takes.1 is.0 is.1 is.2

pub line_same : (plan : Plan) (one : Due) (text : List ℕ) (old new : Lists) → TakesLine plan one text old new false → new ≡ old
line_same plan (line.Ballot ballot style) text old new takes = takes.0
line_same plan (line.Codes race row) text old new takes = takes.0

-- one more line was taken
pub fills_push : (plan : Plan) (due : List Due) (one : Due) (text : List ℕ) (lines : List (List ℕ)) (old mid new : Lists) → Fills plan due lines old [] mid → TakesLine plan one text mid new true
    → Fills plan (due ++ one ∷ []) (lines ++ text ∷ []) old [] new
fills_push plan [] one text lines old mid new fills takes =
    subst (λ (l : List (List ℕ)). Fills plan (one ∷ []) (l ++ text ∷ []) old [] new) (sym fills.0) (new, subst (λ (l : Lists). TakesLine plan one text l new true) (sym fills.1) takes, (refl, refl))
fills_push plan (d ∷ due) one text [] old mid new fills takes = absurd fills
fills_push plan (d ∷ due) one text (other ∷ lines) old mid new (next, first, rest) takes = (next, first, fills_push plan due one text lines next mid new rest takes)

-- a line that is off, or missing, behind those that were taken
pub off_behind : (plan : Plan) (due more : List Due) (lines rest : List (List ℕ)) (old new : Lists) → Fills plan due lines old [] new → IsSheetOff plan (map (line_due blank) more) rest 0
    → IsSheetOff plan (map (line_due blank) (due ++ more)) (lines ++ rest) (length due)
off_behind plan [] more lines rest old new fills off = subst (λ (l : List (List ℕ)). IsSheetOff plan (map (line_due blank) more) (l ++ rest) 0) (sym fills.0) off
off_behind plan (d ∷ due) more [] rest old new fills off = absurd fills
off_behind plan (d ∷ due) more (text ∷ lines) rest old new (next, first, fills) off = (line_is plan d text old next first, off_behind plan due more lines rest next new fills off)

-- as many lines were taken as were due
pub fills_long : (plan : Plan) (due : List Due) (lines : List (List ℕ)) (old new : Lists) → Fills plan due lines old [] new → length lines ≡ length due
fills_long plan [] lines old new fills = ap length fills.0
fills_long plan (d ∷ due) [] old new fills = absurd fills
fills_long plan (d ∷ due) (text ∷ lines) old new (next, first, fills) = ap suc (fills_long plan due lines next new fills)

-- some item is there
pub due_next : (due : List Due) (at : ℕ) → at < length due → (one : Due) × (drop at due ≡ one ∷ drop (at + 1) due)
due_next [] at less = absurd (omega (arith, less))
due_next (x ∷ due) zero less = (x, refl)
due_next (x ∷ due) (suc at) less =
    let found = due_next due at (omega (arith, less)) in
    let next : suc (at + 1) ≡ suc at + 1 = omega arith in
    (found.0, found.1 ∙ ap (λ n. found.0 ∷ drop n (x ∷ due)) next)
