-- Lines have one answer.
use Rattle.std.proofs.Common.{◌≡◌, ℕ, inl, inr, List, [], ◌∷◌, ◌++◌, refl, sym, subst, ap, ◌∙◌, arith}
use Rattle.sg_record.specs.declared.record.Record.{Record}
use Rattle.sg_check.proofs.Verdicts.{one_verdict}
use Rattle.sg_check.specs.declared.judged.Judged.TheVariants as judged
use Rattle.sg_check.specs.declared.judged.Kind.{Kind}
use Rattle.sg_fronts.proofs.ByRecords.{verdicts_say}
use Rattle.sg_fronts.proofs.Promised.{right_verdict}
use Rattle.sg_fronts.specs.ByRecords.{IsWholeAndAgrees, Says, totals_on}
use Rattle.sg_county.proofs.PartLists.{AllParts}
use Rattle.sg_county.proofs.PartRecords.{one_record}
use Rattle.sg_county.specs.County.{Counts, HasTheRaces, IsFirstSettled, Settles, first_sealed, parts_of}
use Rattle.sg_county.specs.Laws.{OneCounty}
use Rattle.sg_county.specs.declared.verdict.CountyVerdict.{CountyVerdict}
use Rattle.sg_county.specs.declared.verdict.CountyVerdict.TheVariants.{Yes, No, Differs, Repeats, Parts}

-- a good part is not bad
good_bad : (part : List (List ℕ)) (posted : Record) (line : ℕ) (kind : Kind) → IsWholeAndAgrees part posted → Says (judged.No line kind) part → ⊥
good_bad part posted line kind good bad =
    let same : judged.Yes (totals_on posted) ≡ judged.No line kind = one_verdict part (judged.Yes (totals_on posted)) (judged.No line kind) (right_verdict part posted good) ((verdicts_say part (judged.No line kind)).1 bad) in cc

-- it is one record
good_one : (part : List (List ℕ)) (a b : Record) → IsWholeAndAgrees part a → IsWholeAndAgrees part b → a ≡ b
good_one part a b one other = one_record part a b one.whole other.whole

-- a part that counts settles nothing
pub counts_settles : (before : List Record) (part : List (List ℕ)) (posted : Record) (verdict : CountyVerdict) → Counts before part posted → Settles before part verdict → ⊥
counts_settles before part posted (Yes totals) counts settles = settles
counts_settles before part posted Parts counts settles = let few = counts.few in omega (arith, few, settles)
counts_settles before part posted (No number line kind) counts (next, bad) = good_bad part posted line kind counts.good bad
counts_settles before part posted (Differs number) counts (next, other, good, differs) = differs (subst (HasTheRaces before) (good_one part posted other counts.good good) counts.races)
counts_settles before part posted (Repeats number first) counts (next, other, good, races, seal) =
    let same = sym counts.seal ∙ (ap (first_sealed before) (good_one part posted other counts.good good) ∙ seal) in cc

-- a part settles one answer
settles_one : (before : List Record) (part : List (List ℕ)) (one other : CountyVerdict) → Settles before part one → Settles before part other → one ≡ other
settles_one before part (Yes totals) other a b = absurd a
settles_one before part one (Yes totals) a b = absurd b
settles_one before part Parts Parts a b = refl
settles_one before part Parts (No n l k) a b = absurd (let few = b.0.few in omega (arith, few, a))
settles_one before part Parts (Differs n) a b = absurd (let few = b.0.few in omega (arith, few, a))
settles_one before part Parts (Repeats n o) a b = absurd (let few = b.0.few in omega (arith, few, a))
settles_one before part (No n l k) Parts a b = absurd (let few = a.0.few in omega (arith, few, b))
settles_one before part (No n l k) (No m j i) a b =
    let same : judged.No l k ≡ judged.No j i =
    one_verdict part (judged.No l k) (judged.No j i) ((verdicts_say part (judged.No l k)).1 a.1) ((verdicts_say part (judged.No j i)).1 b.1) in
    let number : n ≡ m = a.0.number_is ∙ sym b.0.number_is in
    cc
settles_one before part (No n l k) (Differs m) a b = absurd (good_bad part b.1 l k b.2 a.1)
settles_one before part (No n l k) (Repeats m o) a b = absurd (good_bad part b.1 l k b.2 a.1)
settles_one before part (Differs n) Parts a b = absurd (let few = a.0.few in omega (arith, few, b))
settles_one before part (Differs m) (No n l k) a b = absurd (good_bad part a.1 l k a.2 b.1)
settles_one before part (Differs n) (Differs m) a b = ap Differs (a.0.number_is ∙ sym b.0.number_is)
settles_one before part (Differs n) (Repeats m o) a b = absurd (a.3 (subst (HasTheRaces before) (good_one part b.1 a.1 b.2 a.2) b.3))
settles_one before part (Repeats n o) Parts a b = absurd (let few = a.0.few in omega (arith, few, b))
settles_one before part (Repeats m o) (No n l k) a b = absurd (good_bad part a.1 l k a.2 b.1)
settles_one before part (Repeats n o) (Differs m) a b = absurd (b.3 (subst (HasTheRaces before) (good_one part a.1 b.1 a.2 b.2) a.3))
settles_one before part (Repeats n o) (Repeats m p) a b =
    let number : n ≡ m = a.0.number_is ∙ sym b.0.number_is in
    let seal = sym a.4 ∙ (ap (first_sealed before) (good_one part a.1 b.1 a.2 b.2) ∙ b.4) in
    cc

first_settled_one : (before : List Record) (parts : AllParts) (one other : CountyVerdict) → IsFirstSettled before parts one → IsFirstSettled before parts other → one ≡ other
first_settled_one before [] (Yes a) (Yes b) x y = ap Yes (x ∙ sym y)
first_settled_one before [] (Yes a) other x y = absurd y
first_settled_one before [] one other x y = absurd x
first_settled_one before (part ∷ parts) one other (inl x) (inl y) = settles_one before part one other x y
first_settled_one before (part ∷ parts) one other (inl x) (inr (posted, counts, y)) = absurd (counts_settles before part posted one counts x)
first_settled_one before (part ∷ parts) one other (inr (posted, counts, x)) (inl y) = absurd (counts_settles before part posted other counts y)
first_settled_one before (part ∷ parts) one other (inr (a, counts, x)) (inr (b, more, y)) =
    first_settled_one (before ++ b ∷ []) parts one other (subst (λ (r : Record). IsFirstSettled (before ++ r ∷ []) parts one) (good_one part a b counts.good more.good) x) y

pub one_county : OneCounty
one_county lines one other x y = first_settled_one [] (parts_of lines) one other x y
