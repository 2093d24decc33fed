-- The paper of a ballot of a sample has the form of the ballot's, and codes of its version.
use Rattle.std.proofs.Common.{◌≡◌, ℕ, ◌<◌, true, List, [], ◌∷◌, length, map, None, refl, sym, subst, ap, arith}
use Rattle.std.specs.Prelude.{All}
use Rattle.std.proofs.lemmas.Bool.{eq-eqb}
use Rattle.std.proofs.lemmas.List.Elements.{All-cons, All-nil}
use Rattle.std.proofs.lemmas.Option.{get_or_from_slice_get}
use Rattle.sg_plan.specs.Ballots.{ballot_row, candidates_of, races_of_ballot}
use Rattle.sg_plan.specs.Codes.{codes_of}
use Rattle.sg_plan.specs.Limits.{fault_of}
use Rattle.sg_plan.specs.declared.plan.Plan.{Plan}
use Rattle.sg_forms.specs.Spelling.{IsCode}
use Rattle.sg_tables.specs.Laws.{CodesDiffer}
use Rattle.sg_tables.specs.Tables.{code_beside, codes_of_row, paper_of}
use Rattle.sg_tables.proofs.TableLaws.{code_laws}
use Rattle.sg_histories.specs.Answers.{fits_races}

-- the list of a race
abbrev pub list_of : Plan → List ℕ → ℕ → ℕ → List ℕ
list_of plan seed ballot race = codes_of_row plan seed race (ballot_row plan race ballot)

-- the paper, list by list
pub paper_is : (plan : Plan) (seed : List ℕ) (ballot : ℕ) → races_of_ballot plan ballot ≡ 0 ∷ 1 ∷ []
    → paper_of plan seed ballot ≡ list_of plan seed ballot 0 ∷ list_of plan seed ballot 1 ∷ []
unfolding paper_of
paper_is plan seed ballot races = ap (map (list_of plan seed ballot)) races

pub list_codes : (plan : Plan) (seed : List ℕ) (ballot race : ℕ) → fault_of plan ≡ None → race < length plan.races → All (IsCode plan.version) (list_of plan seed ballot race)
list_codes plan seed ballot race fine within =
    let differ : CodesDiffer plan seed race (ballot_row plan race ballot) = code_laws.differ plan seed race (ballot_row plan race ballot) fine within in
    λ k d below.
    let inside : k < candidates_of plan race = omega (arith, below, differ.many) in
    subst (λ (code : ℕ). code < codes_of plan.version)
    (sym (get_or_from_slice_get (list_of plan seed ballot race) k (code_beside plan seed race (ballot_row plan race ballot) k) d (differ.listed k inside)))
    (differ.below k inside)

pub list_many : (plan : Plan) (seed : List ℕ) (ballot race : ℕ) → fault_of plan ≡ None → race < length plan.races → length (list_of plan seed ballot race) ≡ candidates_of plan race
list_many plan seed ballot race fine within = (code_laws.differ plan seed race (ballot_row plan race ballot) fine within).many

both_fit : (plan : Plan) (one two : List ℕ) → length one ≡ candidates_of plan 0 → length two ≡ candidates_of plan 1 → fits_races plan (0 ∷ 1 ∷ []) (one ∷ two ∷ []) ≡ true
both_fit plan one two a b = rw (eq-eqb _ _ a, eq-eqb _ _ b) refl

pub paper_fits : (plan : Plan) (seed : List ℕ) (ballot : ℕ) → fault_of plan ≡ None → length plan.races ≡ 2 → races_of_ballot plan ballot ≡ 0 ∷ 1 ∷ []
    → fits_races plan (races_of_ballot plan ballot) (paper_of plan seed ballot) ≡ true
paper_fits plan seed ballot fine two races =
    rw (races, paper_is plan seed ballot races)
    (both_fit plan (list_of plan seed ballot 0) (list_of plan seed ballot 1)
    (list_many plan seed ballot 0 fine (omega (arith, two))) (list_many plan seed ballot 1 fine (omega (arith, two))))

pub paper_codes : (plan : Plan) (seed : List ℕ) (ballot : ℕ) → fault_of plan ≡ None → length plan.races ≡ 2 → races_of_ballot plan ballot ≡ 0 ∷ 1 ∷ []
    → All (All (IsCode plan.version)) (paper_of plan seed ballot)
paper_codes plan seed ballot fine two races =
    rw (paper_is plan seed ballot races)
    (All-cons (All (IsCode plan.version)) (list_of plan seed ballot 0) (list_of plan seed ballot 1 ∷ [])
    (list_codes plan seed ballot 0 fine (omega (arith, two)))
    (All-cons (All (IsCode plan.version)) (list_of plan seed ballot 1) [] (list_codes plan seed ballot 1 fine (omega (arith, two))) (All-nil (All (IsCode plan.version)))))
