-- Tests and looked up values over lists of lines, as one more line is added.
use Rattle.std.proofs.Common.{◌≡◌, ◌⊎◌, ℕ, Bool, true, false, ◌||◌, List, [], ◌∷◌, ◌++◌, append_assoc, append-nil, Option, Some, None, sum_by, inl, inr, refl, sym, ap, ◌∙◌, arith, rules}
use Rattle.std.proofs.lemmas.Bool.{or_cases, or_from, or_left, or_right}
use Rattle.std.proofs.lemmas.List.Folds.{list_any-append}
use Rattle.std.proofs.lemmas.List.Sums.{sum_by-cons}
use Rattle.std.specs.List.{list_any}
use Rattle.std.specs.Option.{option_map_or, option_or}
use Rattle.std.proofs.Math.Bool.{or-false}
use Rattle.sg_lists.proofs.Options.{option_map_or-Some}
use Rattle.sg_grammar.specs.Lines.{placed_of}
use Rattle.sg_check.specs.Facts.{first_given}
use Rattle.sg_check.specs.Verdict.{total_on, totals_in}
use Rattle.sg_check.specs.declared.judged.Total.{Total}
use Rattle.sg_check.specs.Judging.{AreOfPlan, IsOfPlan}
use Rattle.sg_ledger.specs.Tells.{ArePlacedIn, totals_placed}
use Rattle.sg_plan.specs.declared.plan.Plan.{Plan}
use Rattle.sg_grammar.specs.Placed.{Placed}
use Rattle.sg_grammar.specs.Placed.Placed.{OfPlan}
use Rattle.sg_grammar.specs.Coordinates.{IsPlacedIn}
use Rattle.sg_grammar.specs.Walk.{Posted}

pub option_or-none : {A : Type 0} (o : Option A) → option_or o None ≡ o
option_or-none None = refl
option_or-none (Some x) = refl

-- ONE MORE LINE

pub any-push : {A : Type 0} (p : A → Bool) (xs : List A) (y : A) → list_any p (xs ++ y ∷ []) ≡ (list_any p xs || p y)
any-push p xs y = list_any-append p xs (y ∷ []) ∙ ap (λ (b : Bool). list_any p xs || b) (or-false (p y))

pub any-skip : {A : Type 0} (p : A → Bool) (xs : List A) (y : A) → p y ≡ false → list_any p (xs ++ y ∷ []) ≡ list_any p xs
any-skip p xs y fails = any-push p xs y ∙ (ap (λ (b : Bool). list_any p xs || b) fails ∙ or-false (list_any p xs))

given-behind : {B : Type 0} (o : Option B) (later more : Option B) → option_map_or Some o (option_or later more) ≡ option_or (option_map_or Some o later) more
given-behind None later more = refl
given-behind (Some x) later more = refl

pub given-push : {A B : Type 0} (given : A → Option B) (xs : List A) (y : A) → first_given given (xs ++ y ∷ []) ≡ option_or (first_given given xs) (given y)
given-push given [] y = option_map_or-Some (given y)
given-push {A} {B} given (x ∷ xs) y = ap (λ (o : Option B). option_map_or Some (given x) o) (given-push given xs y) ∙ given-behind (given x) (first_given given xs) (given y)

pub given-skip : {A B : Type 0} (given : A → Option B) (xs : List A) (y : A) → given y ≡ None → first_given given (xs ++ y ∷ []) ≡ first_given given xs
given-skip {A} {B} given xs y none = given-push given xs y ∙ (ap (λ (o : Option B). option_or (first_given given xs) o) none ∙ option_or-none (first_given given xs))

pub totals-push : (lines : List Placed) (line : Placed) → totals_placed (lines ++ line ∷ []) ≡ totals_placed lines ++ total_on line
totals-push [] line = search (rules, append-nil)
totals-push (x ∷ xs) line = ap (λ totals. total_on x ++ totals) (totals-push xs line) ∙ sym (append_assoc (total_on x) (totals_placed xs) (total_on line))

-- the coordinates stay of the plan
pub placed-push : (plan : Plan) (lines : List Placed) (line : Placed) → ArePlacedIn plan lines → IsPlacedIn plan line → ArePlacedIn plan (lines ++ line ∷ [])
placed-push plan [] line placed here = (here, tt)
placed-push plan (x ∷ xs) line placed here = (placed.0, placed-push plan xs line placed.1 here)

-- LINES OF THE PLAN

pub of_plan-placed : (plan : Plan) (lines : List Placed) → AreOfPlan lines → ArePlacedIn plan lines
of_plan-placed plan [] are = tt
of_plan-placed plan (OfPlan said ∷ lines) are = (tt, of_plan-placed plan lines are.1)
of_plan-placed plan (line ∷ lines) are = absurd are.0

pub of_plan-any : (p : Placed → Bool) (lines : List Placed) → AreOfPlan lines → ((line : Placed) → IsOfPlan line → p line ≡ false) → list_any p lines ≡ false
of_plan-any p [] are fails = refl
of_plan-any p (line ∷ lines) are fails = or_from (p line) (list_any p lines) (fails line are.0) (of_plan-any p lines are.1 fails)

pub of_plan-given : {B : Type 0} (given : Placed → Option B) (lines : List Placed) → AreOfPlan lines → ((line : Placed) → IsOfPlan line → given line ≡ None) → first_given given lines ≡ None
of_plan-given given [] are none = refl
of_plan-given {B} given (line ∷ lines) are none = ap (λ (o : Option B). option_map_or Some o (first_given given lines)) (none line are.0) ∙ of_plan-given given lines are.1 none

pub of_plan-sum : (f : Placed → ℕ) (lines : List Placed) → AreOfPlan lines → ((line : Placed) → IsOfPlan line → f line ≡ 0) → sum_by f lines ≡ 0
of_plan-sum f [] are none = refl
of_plan-sum f (line ∷ lines) are none = sum_by-cons f line lines ∙ omega (arith, none line are.0, of_plan-sum f lines are.1 none)

pub of_plan-totals : (lines : List Placed) → AreOfPlan lines → totals_placed lines ≡ []
of_plan-totals [] are = refl
of_plan-totals (OfPlan said ∷ lines) are = of_plan-totals lines are.1
of_plan-totals (line ∷ lines) are = absurd are.0

-- SOME LINE

-- the first value is given, or a later one is
given_cases : {B : Type 0} (first later : Option B) (value : B) → option_map_or Some first later ≡ Some value → (first ≡ Some value) ⊎ (later ≡ Some value)
given_cases None later value found = inr found
given_cases (Some x) later value found = inl found

-- what passes one test passes another: so of lists
pub any-along : (plan : Plan) (p q : Placed → Bool) (lines : List Placed) → ArePlacedIn plan lines → ((line : Placed) → IsPlacedIn plan line → p line ≡ true → q line ≡ true)
    → list_any p lines ≡ true → list_any q lines ≡ true
any-along plan p q [] placed then passes = passes
any-along plan p q (line ∷ lines) placed then passes =
    elim (or_cases (p line) (list_any p lines) passes) [
      | inl here ↦ or_left (q line) (list_any q lines) (then line placed.0 here)
      | inr later ↦ or_right (q line) (list_any q lines) (any-along plan p q lines placed.1 then later)
    ]

-- what some of the lines pass, some of all lines pass
abbrev pub ArePartOf : List Placed → List Placed → Type 0
ArePartOf lines all = (p : Placed → Bool) → list_any p lines ≡ true → list_any p all ≡ true

-- a test that none of the lines passes, by what each of them is
pub any-none : (plan : Plan) (p : Placed → Bool) (all lines : List Placed) → ArePlacedIn plan lines → ArePartOf lines all
    → ((line : Placed) → IsPlacedIn plan line → ((f : Placed → Bool) → f line ≡ true → list_any f all ≡ true) → p line ≡ false)
    → list_any p lines ≡ false
any-none plan p all [] placed part fails = refl
any-none plan p all (line ∷ lines) placed part fails =
    or_from (p line) (list_any p lines)
    (fails line placed.0 (λ f passes. part f (or_left (f line) (list_any f lines) passes)))
    (any-none plan p all lines placed.1 (λ f passes. part f (or_right (f line) (list_any f lines) passes)) fails)

-- what passes one test passes another, by what each of them is: so of lists
pub any-by : (plan : Plan) (p q : Placed → Bool) (all lines : List Placed) → ArePlacedIn plan lines → ArePartOf lines all
    → ((line : Placed) → IsPlacedIn plan line → ((f : Placed → Bool) → f line ≡ true → list_any f all ≡ true) → p line ≡ true → q line ≡ true)
    → list_any p lines ≡ true → list_any q lines ≡ true
any-by plan p q all [] placed part then passes = passes
any-by plan p q all (line ∷ lines) placed part then passes =
    elim (or_cases (p line) (list_any p lines) passes) [
      | inl here ↦ or_left (q line) (list_any q lines) (then line placed.0 (λ f found. part f (or_left (f line) (list_any f lines) found)) here)
      | inr later ↦ or_right (q line) (list_any q lines) (any-by plan p q all lines placed.1 (λ f found. part f (or_right (f line) (list_any f lines) found)) then later)
    ]

-- the value that is first given passes a test that each line with it passes
pub given-any : {B : Type 0} (given : Placed → Option B) (test : Placed → Bool) (value : B) → ((line : Placed) → given line ≡ Some value → test line ≡ true)
    → (lines : List Placed) → first_given given lines ≡ Some value → list_any test lines ≡ true
given-any given test value then [] found = absurd (cc)
given-any given test value then (line ∷ lines) found =
    elim (given_cases (given line) (first_given given lines) value found) [
      | inl here ↦ or_left (test line) (list_any test lines) (then line here)
      | inr later ↦ or_right (test line) (list_any test lines) (given-any given test value then lines later)
    ]

-- TOTALS

-- the totals of lines with their bytes are those of the lines in their places
pub totals-placed : (posted : List Posted) → totals_in posted ≡ totals_placed (placed_of posted)
totals-placed [] = refl
totals-placed (line ∷ posted) = ap (λ (totals : List Total). total_on line.line ++ totals) (totals-placed posted)
