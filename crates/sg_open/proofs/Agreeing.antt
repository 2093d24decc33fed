-- An act of a ballot fits exactly where the fate that it gives the ballot fits the plan.
use Rattle.std.proofs.Common.{◌≡◌, ℕ, ◌<◌, ◌==◌, nat_lt, Bool, true, false, ◌&&◌, ◌||◌, not, cond, List, [], ◌∷◌, ◌++◌, length, Option, Some, None, refl, ap, sym, ◌∙◌, arith}
use Rattle.std.specs.Prelude.{is_none, All}
use Rattle.std.specs.List.{list_all}
use Rattle.std.specs.Option.{option_map}
use Rattle.std.proofs.lemmas.Bool.Decides.{nat_tests}
use Rattle.std.proofs.lemmas.List.Elements.{All-head, All-tail}
use Rattle.std.proofs.Math.Bool.{and-true}
use Rattle.sg_plan.specs.Ballots.{ballot_has, candidates_of, races_of_ballot}
use Rattle.sg_plan.specs.Codes.{codes_of, is_code}
use Rattle.sg_plan.specs.Fates.{fate_fits, has_mark, is_in, marks_differ, paper_fits}
use Rattle.sg_plan.specs.Limits.{each_keeps, first_bad, first_of}
use Rattle.sg_plan.specs.declared.plan.Fate.TheVariants as fate
use Rattle.sg_plan.specs.declared.plan.Mark.{Mark}
use Rattle.sg_plan.specs.declared.plan.Plan.{Plan}
use Rattle.sg_plan.proofs.FateLists.{has_among}
use Rattle.sg_plan.proofs.Lists.{first_bad-each}
use Rattle.sg_forms.specs.Spelling.{IsCode}
use Rattle.sg_acts.specs.declared.asks.Act.TheVariants as act
use Rattle.sg_acts.specs.declared.replies.Reply.{Reply}
use Rattle.sg_acts.specs.declared.replies.Reply.TheVariants as reply
use Rattle.sg_acts.specs.declared.replies.FateWord.TheVariants as word
use Rattle.sg_acts.specs.declared.replies.Phase.TheVariants as phase
use Rattle.sg_histories.specs.Answers.{early_refusal, fits_races, is_ballot}
use Rattle.sg_histories.specs.ValidRows.{fits}

-- TESTS

map_none : {A B : Type 0} (f : A → B) (o : Option A) → is_none (option_map f o) ≡ is_none o
map_none f None = refl
map_none f (Some x) = refl

four : (e a b c : Option Reply) → is_none (first_of (e ∷ a ∷ b ∷ c ∷ [])) ≡ (is_none e && (is_none a && (is_none b && is_none c)))
four (Some x) a b c = refl
four None (Some x) b c = refl
four None None (Some x) c = refl
four None None None (Some x) = refl
four None None None None = refl

two : (e a : Option Reply) → is_none (first_of (e ∷ a ∷ [])) ≡ (is_none e && is_none a)
two (Some x) a = refl
two None (Some x) = refl
two None None = refl

early_is : (test : Bool) → is_none (first_of (None ∷ cond test None (Some reply.Ballot) ∷ None ∷ [])) ≡ test
early_is true = refl
early_is false = refl

unless_is : (test : Bool) (refusal : Reply) → is_none (cond test None (Some refusal)) ≡ test
unless_is true refusal = refl
unless_is false refusal = refl

each_all : {A : Type 0} (p : A → Bool) (earlier xs : List A) → each_keeps (λ before x. p x) earlier xs ≡ list_all p xs
each_all p earlier [] = refl
each_all p earlier (x ∷ xs) = ap (λ b. p x && b) (each_all p (earlier ++ x ∷ []) xs)

passes_all : {A : Type 0} (p : A → Bool) (xs : List A) → is_none (first_bad (λ before x. p x) [] xs) ≡ list_all p xs
passes_all p xs = first_bad-each (λ before x. p x) [] xs ∙ each_all p [] xs

-- MARKS

mark_and : (a b c d : Bool) → ((a && b) && (c && d)) ≡ ((a && c) && (b && d))
mark_and true true c d = refl
mark_and true false true d = refl
mark_and true false false d = refl
mark_and false b c d = refl

both_all : {A : Type 0} (p q : A → Bool) (xs : List A) → (list_all p xs && list_all q xs) ≡ list_all (λ x. p x && q x) xs
both_all p q [] = refl
both_all p q (x ∷ xs) = mark_and (p x) (list_all p xs) (q x) (list_all q xs) ∙ ap (λ b. (p x && q x) && b) (both_all p q xs)

pub all_same : {A : Type 0} (p q : A → Bool) (xs : List A) → ((x : A) → p x ≡ q x) → list_all p xs ≡ list_all q xs
all_same p q [] same = refl
all_same p q (x ∷ xs) same = ap (λ b. b && list_all p xs) (same x) ∙ ap (λ b. q x && b) (all_same p q xs same)

-- none of the later marks is among the earlier ones
abbrev pub are_new : List Mark → List Mark → Bool
are_new earlier marks = list_all (λ (mark : Mark). not (has_mark earlier mark.race mark.candidate)) marks

one_more : (earlier : List Mark) (x y : Mark) → has_mark (earlier ++ x ∷ []) y.race y.candidate ≡ (has_mark earlier y.race y.candidate || (x.race == y.race && x.candidate == y.candidate))
one_more [] x y = or_false (x.race == y.race && x.candidate == y.candidate)
  where
    or_false : (a : Bool) → (a || false) ≡ (false || a)
    or_false true = refl
    or_false false = refl
one_more (z ∷ earlier) x y = ap (λ b. (z.race == y.race && z.candidate == y.candidate) || b) (one_more earlier x y) ∙ assoc (z.race == y.race && z.candidate == y.candidate) (has_mark earlier y.race y.candidate) (x.race == y.race && x.candidate == y.candidate)
  where
    assoc : (a b c : Bool) → (a || (b || c)) ≡ ((a || b) || c)
    assoc true b c = refl
    assoc false b c = refl

turned : (a b c d : ℕ) → (a == b && c == d) ≡ (b == a && d == c)
turned a b c d = grind (arith, nat_tests)

new_tests : (h s r n : Bool) → (not (h || s) && (r && n)) ≡ ((not h && r) && (not s && n))
new_tests true s true n = refl
new_tests true s false n = refl
new_tests false true true n = refl
new_tests false true false n = refl
new_tests false false r n = bool r n
  where
    bool : (r n : Bool) → (r && n) ≡ (r && n)
    bool r n = refl

not_or : (a b : Bool) → (not a && not b) ≡ not (a || b)
not_or true b = refl
not_or false b = refl

still_new : (earlier : List Mark) (x : Mark) (marks : List Mark) → are_new (earlier ++ x ∷ []) marks ≡ (are_new earlier marks && not (has_mark marks x.race x.candidate))
still_new earlier x [] = refl
still_new earlier x (y ∷ marks) =
    let here = one_more earlier x y in
    let later = still_new earlier x marks in
    let back = turned x.race y.race x.candidate y.candidate in
    ap (λ b. not b && are_new (earlier ++ x ∷ []) marks) here
    ∙ (ap (λ b. not (has_mark earlier y.race y.candidate || (x.race == y.race && x.candidate == y.candidate)) && b) later
    ∙ (new_tests (has_mark earlier y.race y.candidate) (x.race == y.race && x.candidate == y.candidate) (are_new earlier marks) (not (has_mark marks x.race x.candidate))
    ∙ ap (λ b. (not (has_mark earlier y.race y.candidate) && are_new earlier marks) && b)
    (ap (λ b. not b && not (has_mark marks x.race x.candidate)) back ∙ not_or (y.race == x.race && y.candidate == x.candidate) (has_mark marks x.race x.candidate))))

differ_tests : (h n k d : Bool) → (not h && ((n && not k) && d)) ≡ ((not h && n) && (not k && d))
differ_tests true n k d = refl
differ_tests false true k d = refl
differ_tests false false k d = refl

each_differs : (earlier marks : List Mark) → each_keeps (λ before mark. not (has_mark before mark.race mark.candidate)) earlier marks ≡ (are_new earlier marks && marks_differ marks)
each_differs earlier [] = refl
each_differs earlier (x ∷ marks) =
    ap (λ b. not (has_mark earlier x.race x.candidate) && b) (each_differs (earlier ++ x ∷ []) marks)
    ∙ (ap (λ b. not (has_mark earlier x.race x.candidate) && (b && marks_differ marks)) (still_new earlier x marks)
    ∙ differ_tests (has_mark earlier x.race x.candidate) (are_new earlier marks) (has_mark marks x.race x.candidate) (marks_differ marks))

nothing_earlier : (marks : List Mark) → are_new [] marks ≡ true
nothing_earlier [] = refl
nothing_earlier (x ∷ marks) = nothing_earlier marks

differ_is : (marks : List Mark) → is_none (first_bad (λ earlier mark. not (has_mark earlier mark.race mark.candidate)) [] marks) ≡ marks_differ marks
differ_is marks = first_bad-each (λ earlier mark. not (has_mark earlier mark.race mark.candidate)) [] marks
    ∙ (each_differs [] marks ∙ ap (λ b. b && marks_differ marks) (nothing_earlier marks))

three_tests : (e a b c : Bool) → (e && (a && (b && c))) ≡ (e && ((a && b) && c))
three_tests e true b c = refl
three_tests e false b c = refl

pub scan_agrees : (plan : Plan) (ballot : ℕ) (marks : List Mark) → fits plan (act.Scan ballot marks) ≡ fate_fits plan ballot (fate.Cast marks)
scan_agrees plan ballot marks =
    let races : is_none (option_map reply.Race (first_bad (λ earlier (mark : Mark). ballot_has plan ballot mark.race) [] marks)) ≡ list_all (λ (mark : Mark). is_in (races_of_ballot plan ballot) mark.race) marks
    = map_none reply.Race (first_bad (λ earlier (mark : Mark). ballot_has plan ballot mark.race) [] marks) ∙ (passes_all (λ (mark : Mark). ballot_has plan ballot mark.race) marks
    ∙ all_same (λ (mark : Mark). ballot_has plan ballot mark.race) (λ (mark : Mark). is_in (races_of_ballot plan ballot) mark.race) marks (λ mark. has_among plan ballot mark.race)) in
    let candidates : is_none (option_map reply.Candidate (first_bad (λ earlier (mark : Mark). nat_lt mark.candidate (candidates_of plan mark.race)) [] marks)) ≡ list_all (λ (mark : Mark). nat_lt mark.candidate (candidates_of plan mark.race)) marks
    = map_none reply.Candidate (first_bad (λ earlier (mark : Mark). nat_lt mark.candidate (candidates_of plan mark.race)) [] marks) ∙ passes_all (λ (mark : Mark). nat_lt mark.candidate (candidates_of plan mark.race)) marks in
    let twice : is_none (option_map reply.Twice (first_bad (λ earlier (mark : Mark). not (has_mark earlier mark.race mark.candidate)) [] marks)) ≡ marks_differ marks
    = map_none reply.Twice (first_bad (λ earlier (mark : Mark). not (has_mark earlier mark.race mark.candidate)) [] marks) ∙ differ_is marks in
    four (early_refusal plan phase.Voting word.Unused ballot) (option_map reply.Race (first_bad (λ earlier (mark : Mark). ballot_has plan ballot mark.race) [] marks))
    (option_map reply.Candidate (first_bad (λ earlier (mark : Mark). nat_lt mark.candidate (candidates_of plan mark.race)) [] marks))
    (option_map reply.Twice (first_bad (λ earlier (mark : Mark). not (has_mark earlier mark.race mark.candidate)) [] marks))
    ∙ (five (early_is (is_ballot plan ballot)) races candidates twice
    ∙ (three_tests (is_ballot plan ballot) (list_all (λ (mark : Mark). is_in (races_of_ballot plan ballot) mark.race) marks) (list_all (λ (mark : Mark). nat_lt mark.candidate (candidates_of plan mark.race)) marks) (marks_differ marks)
    ∙ ap (λ b. is_ballot plan ballot && (b && marks_differ marks)) (both_all (λ (mark : Mark). is_in (races_of_ballot plan ballot) mark.race) (λ (mark : Mark). nat_lt mark.candidate (candidates_of plan mark.race)) marks)))
  where
    five : {a b c d e f g h : Bool} → a ≡ b → c ≡ d → e ≡ f → g ≡ h → (a && (c && (e && g))) ≡ (b && (d && (f && h)))
    five p q r s = rw (p, q, r, s) refl

-- PAPERS

code_tests : (plan : Plan) (list : List ℕ) → All (IsCode plan.version) list → list_all (is_code plan) list ≡ true
code_tests plan [] all = refl
code_tests plan (code ∷ list) all =
    let low : code < codes_of plan.version = All-head (IsCode plan.version) code list all in
    let here : nat_lt code (codes_of plan.version) ≡ true = grind (arith, nat_tests, low) in
    rw here (code_tests plan list (All-tail (IsCode plan.version) code list all))

all_codes : (a b c : Bool) → b ≡ true → ((a && b) && c) ≡ (a && c)
all_codes true b c e = ap (λ t. t && c) e
all_codes false b c e = refl

paper_agrees : (plan : Plan) (races : List ℕ) (paper : List (List ℕ)) → All (All (IsCode plan.version)) paper → fits_races plan races paper ≡ paper_fits plan races paper
paper_agrees plan [] [] all = refl
paper_agrees plan [] (list ∷ paper) all = refl
paper_agrees plan (race ∷ races) [] all = refl
paper_agrees plan (race ∷ races) (list ∷ paper) all =
    ap (λ b. (length list == candidates_of plan race) && b) (paper_agrees plan races paper (All-tail (All (IsCode plan.version)) list paper all))
    ∙ sym (all_codes (length list == candidates_of plan race) (list_all (is_code plan) list) (paper_fits plan races paper) (code_tests plan list (All-head (All (IsCode plan.version)) list paper all)))

pub audit_agrees : (plan : Plan) (ballot : ℕ) (paper : List (List ℕ)) → All (All (IsCode plan.version)) paper → fits plan (act.Audit ballot paper) ≡ fate_fits plan ballot (fate.Audited paper)
audit_agrees plan ballot paper all =
    two (early_refusal plan phase.Voting word.Unused ballot) (cond (fits_races plan (races_of_ballot plan ballot) paper) None (Some reply.Paper))
    ∙ (ap (λ b. b && is_none (cond (fits_races plan (races_of_ballot plan ballot) paper) None (Some reply.Paper))) (early_is (is_ballot plan ballot))
    ∙ ap (λ b. is_ballot plan ballot && b) (unless_is (fits_races plan (races_of_ballot plan ballot) paper) reply.Paper ∙ paper_agrees plan (races_of_ballot plan ballot) paper all))

pub spoil_agrees : (plan : Plan) (ballot : ℕ) → fits plan (act.Spoil ballot) ≡ fate_fits plan ballot fate.Spoiled
spoil_agrees plan ballot = early_is (is_ballot plan ballot) ∙ sym (and-true (is_ballot plan ballot))
