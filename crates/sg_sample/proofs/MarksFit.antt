-- The marks of a ballot of a sample name candidates of its races, each once.
use Rattle.std.proofs.Common.{◌≡◌, ℕ, ◌+◌, ◌%◌, ◌≤◌, ◌==◌, nat_lt, Bool, true, false, not, if◌then◌else◌, List, [], ◌∷◌, length, None, refl, arith}
use Rattle.std.proofs.lemmas.Bool.{lt-ltb, ne_eqb}
use Rattle.sg_plan.specs.Ballots.{ballot_has, candidates_of}
use Rattle.sg_plan.specs.Fates.{has_mark}
use Rattle.sg_plan.specs.Limits.{first_bad}
use Rattle.sg_plan.specs.declared.plan.Mark.{Mark}
use Rattle.sg_plan.specs.declared.plan.Plan.{Plan}
use Rattle.sg_sample.specs.SampleRun.{mark, sample_marks}

-- the marks, with one more in the second race or without
abbrev pub marks_by : ℕ → Bool → List Mark
marks_by ballot more =
    mark 0 (ballot % 3) ∷ mark 1 (ballot % 4) ∷ mark 1 ((ballot + 1) % 4)
    ∷ (if more then mark 1 ((ballot + 2) % 4) ∷ [] else [])

pub marks_are : (ballot : ℕ) → sample_marks ballot ≡ marks_by ballot (ballot % 10 == 1)
unfolding sample_marks
marks_are ballot = refl

pub few_marks : (ballot : ℕ) (more : Bool) → length (marks_by ballot more) ≤ 4
few_marks ballot true = omega arith
few_marks ballot false = omega arith

-- each is of a race of the ballot
pub races_fit : (plan : Plan) (ballot : ℕ) (more : Bool) → ballot_has plan ballot 0 ≡ true → ballot_has plan ballot 1 ≡ true
    → first_bad (λ earlier mark. ballot_has plan ballot mark.race) [] (marks_by ballot more) ≡ None
races_fit plan ballot true zero_is one_is = rw (zero_is, one_is) refl
races_fit plan ballot false zero_is one_is = rw (zero_is, one_is) refl

-- each is of a candidate of its race
pub candidates_fit : (plan : Plan) (ballot : ℕ) (more : Bool) → candidates_of plan 0 ≡ 3 → candidates_of plan 1 ≡ 4
    → first_bad (λ earlier mark. nat_lt mark.candidate (candidates_of plan mark.race)) [] (marks_by ballot more) ≡ None
candidates_fit plan ballot true three four =
    let a = lt-ltb (ballot % 3) 3 (omega arith) in
    let b = lt-ltb (ballot % 4) 4 (omega arith) in
    let c = lt-ltb ((ballot + 1) % 4) 4 (omega arith) in
    let d = lt-ltb ((ballot + 2) % 4) 4 (omega arith) in
    rw (three, four, a, b, c, d) refl
candidates_fit plan ballot false three four =
    let a = lt-ltb (ballot % 3) 3 (omega arith) in
    let b = lt-ltb (ballot % 4) 4 (omega arith) in
    let c = lt-ltb ((ballot + 1) % 4) 4 (omega arith) in
    rw (three, four, a, b, c) refl

-- each next one is another one
next_apart : (n : ℕ) → (n % 4 == (n + 1) % 4) ≡ false
next_apart n = ne_eqb (n % 4) ((n + 1) % 4) (λ e. omega (arith, e))

second_apart : (n : ℕ) → (n % 4 == (n + 2) % 4) ≡ false
second_apart n = ne_eqb (n % 4) ((n + 2) % 4) (λ e. omega (arith, e))

last_apart : (n : ℕ) → ((n + 1) % 4 == (n + 2) % 4) ≡ false
last_apart n = ne_eqb ((n + 1) % 4) ((n + 2) % 4) (λ e. omega (arith, e))

-- none stands twice
pub marks_apart : (ballot : ℕ) (more : Bool) → first_bad (λ earlier mark. not (has_mark earlier mark.race mark.candidate)) [] (marks_by ballot more) ≡ None
marks_apart ballot true = rw (next_apart ballot, second_apart ballot, last_apart ballot) refl
marks_apart ballot false = rw (next_apart ballot) refl
