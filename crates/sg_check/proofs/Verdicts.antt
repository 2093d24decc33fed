-- Lines have one verdict.
use Rattle.std.proofs.Common.{◌≡◌, ℕ, zero, suc, ◌+◌, ◌<◌, ◌≤◌, ◌⊎◌, inl, inr, true, false, List, length, take, Option, Some, None, refl, sym, ap, ◌∙◌, arith, subst}
use Rattle.std.proofs.lemmas.Bool.{cases_Bool, cases_lt, cases_order}
use Rattle.std.proofs.lemmas.List.{take_all}
use Rattle.std.proofs.lemmas.Option.{none-some, same_Some}
use Rattle.sg_check.specs.Laws.{EndsAreJudged, FirstBadStays, FrontsAreFine, OneVerdict, SomeVerdict}
use Rattle.sg_check.specs.Verdict.{AreFine, IsFirstBad, IsGood, IsVerdict, are_whole, least_broken, totals_of}
use Rattle.sg_check.specs.declared.judged.Judged.{Judged}
use Rattle.sg_check.specs.declared.judged.Judged.TheVariants as judged
use Rattle.sg_check.specs.declared.judged.Kind.{Kind}
use Rattle.sg_check.specs.declared.judged.Kind.TheVariants as kind
use Rattle.sg_check.specs.declared.judged.Total.{Total}
use Rattle.sg_check.proofs.OneMore.{fine-front, verdict-more}

-- AT THE END

-- fine lines that are a whole record are good
pub good_end : (lines : List (List ℕ)) (totals : List Total) → AreFine lines → are_whole lines ≡ true → totals ≡ totals_of lines → IsVerdict lines (judged.Yes totals)
good_end lines totals fine whole same = record { fine = fine; whole = whole; totals_are = same }

-- fine lines that are none are cut
pub cut_end : (lines : List (List ℕ)) → AreFine lines → are_whole lines ≡ false → IsVerdict lines (judged.No (length lines + 1) kind.Form)
cut_end lines fine cut = inr (record { fine = fine; cut = cut; one_more = refl; form = refl })

-- ONE VERDICT

fine-broken : (lines : List (List ℕ)) (number : ℕ) (k : Kind) → AreFine lines → IsFirstBad lines number k → ⊥
fine-broken lines number k fine bad = none-some k (sym (fine number) ∙ bad.broken)

good-no : (lines : List (List ℕ)) (totals : List Total) (number : ℕ) (k : Kind) → IsGood lines totals → IsVerdict lines (judged.No number k) → ⊥
good-no lines totals number k good (inl bad) = fine-broken lines number k good.fine bad
good-no lines totals number k good (inr cut) = let same : true ≡ false = sym good.whole ∙ cut.cut in cc

same_number : (lines : List (List ℕ)) (n m : ℕ) (k j : Kind) → IsFirstBad lines n k → IsFirstBad lines m j → n ≡ m
same_number lines n m k j a b =
    elim (cases_order n m) [
      | inl same ↦ same
      | inr other ↦ elim other [
        | inl less ↦ absurd (none-some k (sym (b.before n less) ∙ a.broken))
        | inr more ↦ absurd (none-some j (sym (a.before m more) ∙ b.broken))
      ]
    ]

same_no : (n m : ℕ) (k j : Kind) → n ≡ m → k ≡ j → ◌≡◌ {A = Judged} (judged.No n k) (judged.No m j)
same_no n m k j a b = cc

no-no : (lines : List (List ℕ)) (n m : ℕ) (k j : Kind) → IsVerdict lines (judged.No n k) → IsVerdict lines (judged.No m j) → ◌≡◌ {A = Judged} (judged.No n k) (judged.No m j)
no-no lines n m k j (inl a) (inl b) =
    let same = same_number lines n m k j a b in
    same_no n m k j same (same_Some k j (sym a.broken ∙ (ap (λ (count : ℕ). least_broken (take count lines)) same ∙ b.broken)))
no-no lines n m k j (inl a) (inr b) = absurd (fine-broken lines n k b.fine a)
no-no lines n m k j (inr a) (inl b) = absurd (fine-broken lines m j a.fine b)
no-no lines n m k j (inr a) (inr b) = same_no n m k j (a.one_more ∙ sym b.one_more) (a.form ∙ sym b.form)

-- two verdicts on the same lines are the same
pub one_verdict : OneVerdict
one_verdict lines (judged.Yes a) (judged.Yes b) x y = ap judged.Yes (x.totals_are ∙ sym y.totals_are)
one_verdict lines (judged.Yes a) (judged.No m j) x y = absurd (good-no lines a m j x y)
one_verdict lines (judged.No n k) (judged.Yes b) x y = absurd (good-no lines b n k y x)
one_verdict lines (judged.No n k) (judged.No m j) x y = no-no lines n m k j x y

-- SOME VERDICT

-- none of the lists of so few first lines breaks a kind; or one of them is the shortest that does
abbrev Searched : List (List ℕ) → ℕ → Type 0
Searched lines most = ((count : ℕ) → count < most → least_broken (take count lines) ≡ None) ⊎ ((number : ℕ) × (k : Kind) × IsFirstBad lines number k)

none_below : (lines : List (List ℕ)) (most : ℕ) → ((count : ℕ) → count < most → least_broken (take count lines) ≡ None) → least_broken (take most lines) ≡ None
    → (count : ℕ) → count < most + 1 → least_broken (take count lines) ≡ None
none_below lines most below here count less =
    elim (cases_lt count most) [ inl before ↦ below count before | inr after ↦ let same : count ≡ most = omega arith in ap (λ (n : ℕ). least_broken (take n lines)) same ∙ here ]

searched-at : (lines : List (List ℕ)) (most : ℕ) (found : Option Kind) → most ≤ length lines → ((count : ℕ) → count < most → least_broken (take count lines) ≡ None)
    → least_broken (take most lines) ≡ found → Searched lines (most + 1)
searched-at lines most None within below here = inl (none_below lines most below here)
searched-at lines most (Some k) within below here = inr (most, k, record { within = within; before = below; broken = here })

searched-on : (lines : List (List ℕ)) (most : ℕ) → most ≤ length lines → Searched lines most → Searched lines (most + 1)
searched-on lines most within (inl below) = searched-at lines most (least_broken (take most lines)) within below refl
searched-on lines most within (inr found) = inr found

searched : (lines : List (List ℕ)) (most : ℕ) → most ≤ length lines + 1 → Searched lines most
searched lines zero within = inl (λ count less. absurd (omega arith))
searched lines (suc most) within = subst (λ (n : ℕ). Searched lines n) (omega arith) (searched-on lines most (omega arith) (searched lines most (omega arith)))

fine_so_far : (lines : List (List ℕ)) → ((count : ℕ) → count < length lines + 1 → least_broken (take count lines) ≡ None) → AreFine lines
fine_so_far lines below count =
    elim (cases_lt count (length lines + 1)) [
      | inl less ↦ below count less
      | inr more ↦ ap least_broken (take_all count lines (omega arith) ∙ sym (take_all (length lines) lines (omega arith))) ∙ below (length lines) (omega arith)
    ]

judged_fine : (lines : List (List ℕ)) → AreFine lines → (judged : Judged) × IsVerdict lines judged
judged_fine lines fine =
    elim (cases_Bool (are_whole lines)) [
      | inl whole ↦ (judged.Yes (totals_of lines), good_end lines (totals_of lines) fine whole refl)
      | inr cut ↦ (judged.No (length lines + 1) kind.Form, cut_end lines fine cut)
    ]

-- each list of lines has a verdict
pub some_verdict : SomeVerdict
some_verdict lines =
    elim (searched lines (length lines + 1) (omega arith)) [
      | inl below ↦ judged_fine lines (fine_so_far lines below)
      | inr found ↦ (judged.No found.0 found.1, inl found.2)
    ]

pub first_bad_stays : FirstBadStays
first_bad_stays lines more number k bad = verdict-more lines more number k bad

pub fronts_are_fine : FrontsAreFine
fronts_are_fine lines more fine = fine-front lines more fine

pub ends_are_judged : EndsAreJudged
ends_are_judged lines fine = record {
  good = λ whole. good_end lines (totals_of lines) fine whole refl;
  cut = λ short. cut_end lines fine short;
}
