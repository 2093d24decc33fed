-- How the lines of a sheet are listed.
use Rattle.std.proofs.Common.{◌≡◌, ℕ, zero, suc, ◌+◌, ◌-◌, ◌<◌, ◌≤◌, ◌==◌, Bool, true, false, cond, List, [], ◌∷◌, ◌++◌, drop, length, map, Option, Some, None, refl, sym, ap, subst, ◌∙◌, append_assoc, append-nil, arith}
use Rattle.std.specs.Prelude.{slice_get}
use Rattle.std.proofs.lemmas.Bool.{ne_eqb}
use Rattle.std.proofs.lemmas.List.{drop_all}
use Rattle.sg_lists.proofs.Lists.{drop_from_slice_get}
use Rattle.sg_plan.specs.Ballots.{ballot_styles, ballots_of, races_of_style, style_of_ballot}
use Rattle.sg_plan.specs.declared.plan.Plan.{Plan}
use Rattle.sg_sheet.specs.Sheet.{Printed, SheetLine, ballot_lines, codes_line, lines_from, sheet_lines}
use Rattle.sg_sheet.specs.inside.Listed.{ballot_due, codes_due, due_from, line_due, sheet_due}
use Rattle.sg_sheet.specs.declared.due.Due.{Due}
use Rattle.sg_sheet.specs.Sheet.SheetLine.{Ballot}

-- LISTS

-- THE LINES OF A BALLOT'S RACES

pub races_step : (plan : Plan) (ballot : ℕ) (due due' all : List Due) (races : List ℕ) (at race : ℕ) → slice_get races at ≡ Some race
    → due' ≡ due ++ codes_due plan ballot race ∷ [] → due ++ map (codes_due plan ballot) (drop at races) ≡ all
    → due' ++ map (codes_due plan ballot) (drop (at + 1) races) ≡ all
races_step plan ballot due due' all races at race is grown before =
    ap (λ (l : List Due). l ++ map (codes_due plan ballot) (drop (at + 1) races)) grown
    ∙ (append_assoc due (codes_due plan ballot race ∷ []) (map (codes_due plan ballot) (drop (at + 1) races))
    ∙ (ap (λ (l : List ℕ). due ++ map (codes_due plan ballot) l) (sym (drop_from_slice_get races at race is)) ∙ before))

-- THE LINES OF ALL BALLOTS

abbrev IsNothing : Option ℕ → Type 0
IsNothing None = Unit {0}
IsNothing (Some x) = ⊥

-- the style of a ballot by its place
pub style_place : (plan : Plan) (at style : ℕ) → style_of_ballot plan (at + 1) ≡ Some style → slice_get (ballot_styles plan.runs) at ≡ Some style
style_place plan at style is =
    let same : (at + 1) - 1 ≡ at = omega arith in
    let other : ((at + 1) == 0) ≡ false = ne_eqb (at + 1) 0 (λ e. absurd (omega (arith, e))) in
    subst (λ n. slice_get (ballot_styles plan.runs) n ≡ Some style) same (pick ((at + 1) == 0) (slice_get (ballot_styles plan.runs) ((at + 1) - 1)) other is)
  where
    pick : (b : Bool) (x : Option ℕ) → b ≡ false → cond b None x ≡ Some style → x ≡ Some style
    pick true x e found = absurd (subst IsNothing found tt)
    pick false x e found = found

pub place_style : (plan : Plan) (at style : ℕ) → slice_get (ballot_styles plan.runs) at ≡ Some style → style_of_ballot plan (at + 1) ≡ Some style
place_style plan at style is =
    let same : (at + 1) - 1 ≡ at = omega arith in
    let other : ((at + 1) == 0) ≡ false = ne_eqb (at + 1) 0 (λ e. absurd (omega (arith, e))) in
    rw (other, same) is

-- each ballot of the plan has a style
pub some_style : (plan : Plan) (at : ℕ) → at < ballots_of plan → (style : ℕ) × (style_of_ballot plan (at + 1) ≡ Some style)
some_style plan at less = let found = get (ballot_styles plan.runs) at less in (found.0, place_style plan at found.0 found.1)
  where
    get : (xs : List ℕ) (k : ℕ) → k < length xs → (x : ℕ) × (slice_get xs k ≡ Some x)
    get [] k below = absurd (omega (arith, below))
    get (x ∷ xs) zero below = (x, refl)
    get (x ∷ xs) (suc k) below = get xs k (omega (arith, below))

pub due_step : (plan : Plan) (due due' : List Due) (at : ℕ) → at < ballots_of plan
    → ((style : ℕ) → style_of_ballot plan (at + 1) ≡ Some style → due' ≡ due ++ ballot_due plan (at + 1) style)
    → due ++ due_from plan (at + 1) (drop at (ballot_styles plan.runs)) ≡ sheet_due plan
    → due' ++ due_from plan ((at + 1) + 1) (drop (at + 1) (ballot_styles plan.runs)) ≡ sheet_due plan
due_step plan due due' at less grows before =
    let found = some_style plan at less in
    let rest = due_from plan ((at + 1) + 1) (drop (at + 1) (ballot_styles plan.runs)) in
    ap (λ (l : List Due). l ++ rest) (grows found.0 found.1)
    ∙ (append_assoc due (ballot_due plan (at + 1) found.0) rest
    ∙ (ap (λ (l : List ℕ). due ++ due_from plan (at + 1) l) (sym (drop_from_slice_get (ballot_styles plan.runs) at found.0 (style_place plan at found.0 found.1))) ∙ before))

pub due_end : (plan : Plan) (due : List Due) (at : ℕ) → ballots_of plan ≤ at → due ++ due_from plan (at + 1) (drop at (ballot_styles plan.runs)) ≡ sheet_due plan → due ≡ sheet_due plan
due_end plan due at past before =
    sym (append-nil due) ∙ (ap (λ (l : List ℕ). due ++ due_from plan (at + 1) l) (sym (drop_all at (ballot_styles plan.runs) past)) ∙ before)

-- WHAT IS PRINTED

map_append : (f : Due → SheetLine) (xs ys : List Due) → map f (xs ++ ys) ≡ map f xs ++ map f ys
map_append f [] ys = refl
map_append f (x ∷ xs) ys = ap (λ (l : List SheetLine). f x ∷ l) (map_append f xs ys)

races_printed : (plan : Plan) (printed : Printed) (ballot : ℕ) (races : List ℕ) → map (line_due printed) (map (codes_due plan ballot) races) ≡ map (codes_line plan printed ballot) races
races_printed plan printed ballot [] = refl
races_printed plan printed ballot (race ∷ races) = ap (λ (l : List SheetLine). codes_line plan printed ballot race ∷ l) (races_printed plan printed ballot races)

due_printed : (plan : Plan) (printed : Printed) (ballot : ℕ) (styles : List ℕ) → map (line_due printed) (due_from plan ballot styles) ≡ lines_from plan printed ballot styles
due_printed plan printed ballot [] = refl
due_printed plan printed ballot (style ∷ styles) =
    map_append (line_due printed) (ballot_due plan ballot style) (due_from plan (ballot + 1) styles)
    ∙ (ap (λ (l : List SheetLine). l ++ map (line_due printed) (due_from plan (ballot + 1) styles)) (ap (λ (l : List SheetLine). Ballot ballot style ∷ l) (races_printed plan printed ballot (races_of_style plan style)))
    ∙ ap (λ (l : List SheetLine). ballot_lines plan printed ballot style ++ l) (due_printed plan printed (ballot + 1) styles))

-- the lines of a sheet with what is printed on them
pub sheet_printed : (plan : Plan) (printed : Printed) → map (line_due printed) (sheet_due plan) ≡ sheet_lines plan printed
sheet_printed plan printed = due_printed plan printed 1 (ballot_styles plan.runs)
