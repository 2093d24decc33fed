-- Lines are judged against the lines before them.
use Rattle.std.proofs.Common.{◌≡◌, Bool, true, false, ◌||◌, List, [], ◌∷◌, ◌++◌, refl, sym, ap, ◌∙◌, append_assoc}
use Rattle.std.proofs.Math.Bool.{or-false}
use Rattle.std.proofs.lemmas.Bool.{or_parts}
use Rattle.std.proofs.lemmas.List.{append-nil, map_push}
use Rattle.sg_plan.specs.declared.plan.Plan.{Plan}
use Rattle.sg_grammar.specs.Lines.{placed_of}
use Rattle.sg_grammar.specs.Placed.{Placed}
use Rattle.sg_grammar.specs.Walk.{Posted}
use Rattle.sg_check.specs.Kinds.{bad_placed, is_bad}
use Rattle.sg_check.specs.Verdict.{late}
use Rattle.sg_check.specs.declared.judged.Kind.{Kind}
use Rattle.sg_check.specs.declared.judged.Kind.TheVariants as kind

-- ONE MORE LINE

or_assoc : (a b c : Bool) → (a || (b || c)) ≡ ((a || b) || c)
or_assoc true b c = refl
or_assoc false b c = refl

-- with one more line, a line is bad where one was before, or where the new one is
pub late-push : {A : Type 0} (bad : List A → A → Bool) (before xs : List A) (y : A) → late bad before (xs ++ y ∷ []) ≡ (late bad before xs || bad (before ++ xs) y)
late-push {A} bad before [] y = or-false (bad before y) ∙ ap (λ (front : List A). bad front y) (sym (append-nil before))
late-push {A} bad before (x ∷ xs) y =
    ap (λ (b : Bool). bad before x || b) (late-push bad (before ++ x ∷ []) xs y)
    ∙ (or_assoc (bad before x) (late bad (before ++ x ∷ []) xs) (bad ((before ++ x ∷ []) ++ xs) y)
    ∙ ap (λ (front : List A). late bad before (x ∷ xs) || bad front y) (append_assoc before (x ∷ []) xs))

-- EACH LINE

-- where no line is bad, none of these is
late_at : {A : Type 0} (bad : List A → A → Bool) (before front rest : List A) (x : A) → late bad before (front ++ x ∷ rest) ≡ false → bad (before ++ front) x ≡ false
late_at {A} bad before [] rest x e = ap (λ (l : List A). bad l x) (append-nil before) ∙ (or_parts (bad before x) (late bad (before ++ x ∷ []) rest) e).0
late_at {A} bad before (y ∷ front) rest x e =
    ap (λ (l : List A). bad l x) (sym (append_assoc before (y ∷ []) front))
    ∙ late_at bad (before ++ y ∷ []) front rest x (or_parts (bad before y) (late bad (before ++ y ∷ []) (front ++ x ∷ rest)) e).1

-- KINDS

-- no line that stands in its place is bad in form
pub form_never : (plan : Plan) (before lines : List Posted) → late (is_bad kind.Form plan) before lines ≡ false
form_never plan before [] = refl
form_never plan before (line ∷ lines) = form_never plan (before ++ line ∷ []) lines

-- the kind is judged over the lines in their places alone
abbrev pub IsOfPlaces : Kind → Plan → Type 0
IsOfPlaces k plan = (before : List Posted) (line : Posted) → is_bad k plan before line ≡ bad_placed k plan (placed_of before) line.line

pub late_placed : (k : Kind) (plan : Plan) → IsOfPlaces k plan → (before posted : List Posted)
    → late (is_bad k plan) before posted ≡ late (bad_placed k plan) (placed_of before) (placed_of posted)
late_placed k plan same before [] = refl
late_placed k plan same before (line ∷ posted) =
    ap (λ (b : Bool). b || late (is_bad k plan) (before ++ line ∷ []) posted) (same before line)
    ∙ ap (λ (b : Bool). bad_placed k plan (placed_of before) line.line || b)
    (late_placed k plan same (before ++ line ∷ []) posted ∙ ap (λ (l : List Placed). late (bad_placed k plan) l (placed_of posted)) (map_push (λ (l : Posted). l.line) before line))

-- no line is bad in the kind
abbrev pub Fails : Kind → Plan → List Placed → Type 0
Fails k plan lines = (front rest : List Placed) (line : Placed) → lines ≡ front ++ line ∷ rest → bad_placed k plan front line ≡ false

pub fails_at : (k : Kind) (plan : Plan) (posted : List Posted) → IsOfPlaces k plan → late (is_bad k plan) [] posted ≡ false → Fails k plan (placed_of posted)
fails_at k plan posted same good front rest line is =
    late_at (bad_placed k plan) [] front rest line (sym (ap (λ (l : List Placed). late (bad_placed k plan) [] l) is) ∙ (sym (late_placed k plan same [] posted) ∙ good))
