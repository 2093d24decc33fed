-- Papers, list by list; and what it means that two papers have the same codes.
use Rattle.std.proofs.Common.{◌≡◌, ℕ, zero, suc, ◌+◌, ◌<◌, Bool, true, false, ◌&&◌, List, [], ◌∷◌, ◌++◌, length, map, take, slice_get, slice_index, bytes_eq, Some, refl, sym, ap, ◌∙◌, arith}
use Rattle.std.specs.Prelude.{IsTrue, ◌↔◌}
use Rattle.std.proofs.lemmas.Slice.Eq.{bytes_eq-Decides}
use Rattle.sg_plan.specs.Ballots.{races_of_ballot}
use Rattle.sg_plan.specs.declared.plan.Plan.{Plan}
use Rattle.sg_tables.specs.Tables.{paper_of}
use Rattle.sg_desks.specs.Papers.{same_paper}
use Rattle.sg_desks.specs.inside.Races.{lists_of}

-- one item more
pub map_take : {B : Type 0} (f : ℕ → B) (xs : List ℕ) (at : ℕ) → at < length xs → take (at + 1) (map f xs) ≡ take at (map f xs) ++ f (slice_index xs at) ∷ []
map_take f [] at within = absurd (omega (arith, within))
map_take f (x ∷ xs) zero within = refl
map_take f (x ∷ xs) (suc at) within =
    let more : suc at + 1 ≡ suc (at + 1) = omega arith in
    rw more (ap (λ l. f x ∷ l) (map_take f xs at (omega (arith, within))))

-- an item of such a list
pub item_same : (f : ℕ → List ℕ) (races : List ℕ) (paper : List (List ℕ)) (at : ℕ) (item : List ℕ) → at < length races → slice_get paper at ≡ Some item → paper ≡ map f races
    → item ≡ f (slice_index races at)
item_same f [] paper at item within here same = absurd (omega (arith, within))
item_same f (x ∷ xs) paper zero item within here same = let first : slice_get (map f (x ∷ xs)) zero ≡ Some item = rw same at here in cc
item_same f (x ∷ xs) [] (suc at) item within here same = cc
item_same f (x ∷ xs) (list ∷ paper) (suc at) item within here same =
    let rest : paper ≡ map f xs = cc in
    item_same f xs paper at item (omega (arith, within)) here rest

pub paper_is : (plan : Plan) (seed : List ℕ) (ballot : ℕ) → lists_of plan seed ballot (races_of_ballot plan ballot) ≡ paper_of plan seed ballot
unfolding paper_of
paper_is plan seed ballot = refl

-- papers with the same codes are the same
both_at : (list other : List ℕ) (paper more : List (List ℕ)) (first rest : Bool) → bytes_eq list other ≡ first → (rest ≡ true → paper ≡ more)
    → (first && rest) ≡ true → list ∷ paper ≡ other ∷ more
both_at list other paper more true rest is later e = ap (λ l. l ∷ paper) ((bytes_eq-Decides list other).0 is) ∙ ap (λ (p : List (List ℕ)). other ∷ p) (later e)
both_at list other paper more false rest is later e = cc

pub one_paper : (a b : List (List ℕ)) → same_paper a b ≡ true → a ≡ b
one_paper [] [] e = refl
one_paper [] (list ∷ paper) e = cc
one_paper (list ∷ paper) [] e = cc
one_paper (list ∷ paper) (other ∷ more) e = both_at list other paper more (bytes_eq list other) (same_paper paper more) refl (one_paper paper more) e

-- a paper has the codes that it has
itself : (a : List (List ℕ)) → same_paper a a ≡ true
itself [] = refl
itself (list ∷ paper) = rw ((bytes_eq-Decides list list).1 refl, itself paper) refl

-- the test is true exactly where the papers are the same
pub papers_decide : (a b : List (List ℕ)) → IsTrue (same_paper a b) ↔ (a ≡ b)
papers_decide a b = (one_paper a b, λ (e : a ≡ b). rw e (itself b))

-- a test that is true exactly where the papers are the same is this test
pub same_test : (a b : List (List ℕ)) (test : Bool) → IsTrue test ↔ (a ≡ b) → test ≡ same_paper a b
same_test a b test decides = at test (same_paper a b) refl refl
  where
    at : (t s : Bool) → test ≡ t → same_paper a b ≡ s → t ≡ s
    at true true is same = refl
    at false false is same = refl
    at true false is same = sym ((papers_decide a b).1 (decides.0 is)) ∙ same
    at false true is same = sym is ∙ decides.1 ((papers_decide a b).0 same)
