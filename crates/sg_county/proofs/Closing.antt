-- The table, applied to a part that ends.
use Rattle.std.proofs.Common.{◌≡◌, ℕ, ◌+◌, ◌<◌, ◌==◌, Bool, true, false, List, [], ◌∷◌, length, Option, Some, None, refl, sym, ap, ◌∙◌, arith}
use Rattle.std.proofs.lemmas.Bool.{ne_eqb}
use Rattle.std.proofs.lemmas.List.{length-map}
use Rattle.sg_commit.specs.declared.Digest.{Digest}
use Rattle.sg_record.specs.Laws.{AreLinesOf}
use Rattle.sg_record.specs.declared.record.Record.{Record}
use Rattle.sg_check.specs.Verdict.{IsVerdict}
use Rattle.sg_check.specs.declared.judged.Judged.{Judged}
use Rattle.sg_check.specs.declared.judged.Judged.TheVariants as judged
use Rattle.sg_check.specs.declared.judged.Total.{Total}
use Rattle.sg_fronts.proofs.ByRecords.{verdicts_say}
use Rattle.sg_fronts.specs.ByRecords.{IsWholeAndAgrees, totals_on}
use Rattle.sg_judge.specs.FirstSeal.{first_seal}
use Rattle.sg_judge.specs.Pass.{is_behind_plan}
use Rattle.sg_county.proofs.PartRecords.{good_record, record_behind, record_races, record_seal}
use Rattle.sg_county.specs.County.{HasTheRaces, IsNext, first_equal, first_seal_of, most_parts}
use Rattle.sg_county.specs.inside.Keeping.{Closes, FirstRaces, IsFound, Keeps, close_good, close_of, races_of}
use Rattle.sg_county.specs.declared.ending.Found.{Found}
use Rattle.sg_county.specs.declared.kept.Kept.{Kept}

-- WHAT IS FOUND

-- so many seals are kept as there are records
pub kept_count : (kept : Kept) (before : List Record) → Keeps kept before → length kept.seals ≡ length before
kept_count kept before keeps = ap length keeps.seals ∙ length-map before first_seal_of

-- what is found of a record's part in the pass
pub found_is : (kept : Kept) (before : List Record) (part : List (List ℕ)) (posted : Record) (number : ℕ) (same : Bool) (other : Option ℕ) (seal : Option Digest) → Keeps kept before → AreLinesOf part posted
    → number ≡ length kept.seals + 1
    → (number ≡ 1 → same ≡ true)
    → ((number == 1) ≡ false → is_behind_plan part ≡ true → same ≡ true → races_of part ≡ kept.races)
    → ((number == 1) ≡ false → is_behind_plan part ≡ true → same ≡ false → races_of part ≡ kept.races → ⊥)
    → seal ≡ first_seal part → other ≡ first_equal seal 1 kept.seals
    → IsFound (record { number = number; same = same; other = other }) before posted
found_is kept before part posted number same other seal keeps are number_is first is_same is_other sealed found = record {
  same = same_at before (kept_count kept before keeps) keeps.races;
  differs = differs_at before (kept_count kept before keeps) keeps.races;
  other = found ∙ (ap (λ (s : Option Digest). first_equal s 1 kept.seals) (sealed ∙ record_seal part posted are) ∙ ap (λ (l : List (Option Digest)). first_equal (first_seal_of posted) 1 l) keeps.seals);
}
  where
    behind : is_behind_plan part ≡ true
    behind = record_behind part posted are

    races_are : races_of part ≡ posted.plan.races
    races_are = record_races part posted are

    behind_first : (x : Record) (others : List Record) → length kept.seals ≡ length (x ∷ others) → (number == 1) ≡ false
    behind_first x others count = ne_eqb number 1 (λ one. omega (arith, number_is, count, one))

    same_at : (records : List Record) → length kept.seals ≡ length records → FirstRaces kept.races records → same ≡ true → HasTheRaces records posted
    same_at [] count races e = tt
    same_at (x ∷ others) count races e = sym races_are ∙ (is_same (behind_first x others count) behind e ∙ races)

    differs_at : (records : List Record) → length kept.seals ≡ length records → FirstRaces kept.races records → same ≡ false → HasTheRaces records posted → ⊥
    differs_at [] count races e has =
        let on : same ≡ true = first (omega (arith, number_is, count)) in
        let both : true ≡ false = sym on ∙ e in
        let none : ⊥ = cc in none
    differs_at (x ∷ others) count races e has = is_other (behind_first x others count) behind e (races_are ∙ (has ∙ sym races))

-- THE TABLE

abbrev pub IsYes : Judged → Type 0
IsYes (judged.Yes totals) = Unit {0}
IsYes (judged.No line kind) = ⊥

close_good-is : (found : Found) (totals : List Total) (before : List Record) (part : List (List ℕ)) (posted : Record) (same : Bool) (other : Option ℕ) → found.same ≡ same → found.other ≡ other
    → IsNext before found.number → IsFound found before posted → IsWholeAndAgrees part posted → totals ≡ totals_on posted → Closes before part (close_good found.number totals same other)
close_good-is found totals before part posted false other same_is other_is next is good totals_are = (next, posted, good, is.differs same_is)
close_good-is found totals before part posted true None same_is other_is next is good totals_are =
    (posted, record { few = next.few; good = good; races = is.same same_is; seal = sym is.other ∙ other_is }, totals_are)
close_good-is found totals before part posted true (Some other) same_is other_is next is good totals_are = (next, posted, good, is.same same_is, sym is.other ∙ other_is)

pub closes : (found : Found) (answer : Judged) (before : List Record) (part : List (List ℕ)) → length before < most_parts → found.number ≡ length before + 1
    → (IsYes answer → (posted : Record) → AreLinesOf part posted → IsFound found before posted) → IsVerdict part answer → Closes before part (close_of found answer)
closes found (judged.No line kind) before part few number_is is bad = (record { few = few; number_is = number_is }, (verdicts_say part (judged.No line kind)).0 bad)
closes found (judged.Yes totals) before part few number_is is good =
    let of = good_record part totals good in
    close_good-is found totals before part of.0 found.same found.other refl refl (record { few = few; number_is = number_is }) (is tt of.0 of.1.whole) of.1 of.2
