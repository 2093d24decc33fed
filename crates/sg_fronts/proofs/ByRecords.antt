-- The verdict on lines is what it says of whole records.
use Rattle.std.proofs.Common.{◌≡◌, ◌≢◌, ℕ, inl, inr, true, false, List, [], ◌++◌, length, take, Option, Some, None, refl, sym, subst, ap, ◌∙◌, arith}
use Rattle.std.proofs.lemmas.Bool.{cases_Bool}
use Rattle.std.proofs.lemmas.List.{take-append-le, take_all}
use Rattle.std.proofs.lemmas.Option.{none-some}
use Rattle.std.specs.Prelude.{IsSome}
use Rattle.std.specs.Option.{option_map_or}
use Rattle.sg_lists.proofs.Finding.{find-none, find-passes}
use Rattle.sg_plan.specs.declared.plan.Plan.{Plan}
use Rattle.sg_grammar.specs.Laws.{IsFront}
use Rattle.sg_grammar.specs.Walk.{Posted, Walked, start, walk}
use Rattle.sg_record.proofs.PlacesLaw.{formed_are_walked, formed_are_whole}
use Rattle.sg_record.proofs.WholeLaw.{whole_are_formed}
use Rattle.sg_record.specs.Laws.{AreLinesOf, AreWhole}
use Rattle.sg_record.specs.Lines.{texts_in}
use Rattle.sg_record.specs.Places.{walk_of}
use Rattle.sg_record.specs.declared.record.Record.{Record}
use Rattle.sg_check.proofs.AllKinds.{none_late}
use Rattle.sg_check.proofs.Fine.{FrontWalk, all_good-fine, front-walk, none_bad_are_fine}
use Rattle.sg_check.proofs.Judging.{unwalked-least, walked-least}
use Rattle.sg_check.proofs.Late.{form_never}
use Rattle.sg_check.proofs.OfPlan.{plan_lines-none}
use Rattle.sg_check.proofs.OneMore.{fine-all}
use Rattle.sg_check.specs.Judging.{first_late, later_kinds}
use Rattle.sg_check.specs.Kinds.{is_bad}
use Rattle.sg_check.specs.Verdict.{IsCut, IsFirstBad, IsGood, IsVerdict, are_whole, late, least_broken, totals_in}
use Rattle.sg_check.specs.declared.judged.Judged.TheVariants as judged
use Rattle.sg_check.specs.declared.judged.Kind.{Kind}
use Rattle.sg_check.specs.declared.judged.Kind.TheVariants as kind
use Rattle.sg_check.specs.declared.judged.Total.{Total}
use Rattle.sg_fronts.proofs.Fronts.{fronts_go_on}
use Rattle.sg_fronts.specs.ByRecords.{BeginsWith, Breaks, IsFirstBroken, IsGoodFront, IsUnended, IsWholeAndAgrees, IsYes, Says, VerdictsSay, breaks_in, broken_in, posted_of}

-- FRONTS OF RECORDS

-- the walk over lines that a record begins with
pub begun : (lines : List (List ℕ)) (posted : Record) → BeginsWith lines posted → FrontWalk start (texts_in posted) (walk_of posted) (length lines) × (take (length lines) (texts_in posted) ≡ lines)
begun lines posted begins = (
  front-walk start (texts_in posted) (walk_of posted) (length lines) (formed_are_walked posted begins.1.words begins.1.formed),
  ap (take (length lines)) (sym begins.1.text) ∙ (take-append-le (length lines) lines begins.0 (omega arith) ∙ take_all (length lines) lines (omega arith)),
)

-- they may stand one after another
begun-walks : (lines : List (List ℕ)) (posted : Record) → BeginsWith lines posted → (w : Walked) × (walk start lines ≡ Some w)
begun-walks lines posted begins =
    let all = begun lines posted begins in
    (all.0.front, ap (walk start) (sym all.1) ∙ all.0.goes)

-- and the first kind that they break is that of the record's first lines
pub begun-least : (lines : List (List ℕ)) (posted : Record) → BeginsWith lines posted → least_broken lines ≡ broken_in posted (length lines)
begun-least lines posted begins =
    let all = begun lines posted begins in
    let front = all.0 in
    walked-least lines front.front (ap (walk start) (sym all.1) ∙ front.goes)
    ∙ elim front.plan [
      | inl same ↦ ap (λ (p : Plan). first_late p front.front.posted) same ∙ ap (first_late posted.plan) front.posted
      | inr of_plan ↦
          plan_lines-none front.front.next.plan front.front.posted of_plan
          ∙ (sym (plan_lines-none posted.plan front.front.posted of_plan) ∙ ap (first_late posted.plan) front.posted)
    ]

-- a record begins with lines that may stand one after another
begin : (lines : List (List ℕ)) → IsFront lines → (posted : Record) × BeginsWith lines posted
begin lines front =
    let on = fronts_go_on lines front in
    let found = whole_are_formed (lines ++ on.0) on.1 in
    (found.0, (on.0, record { words = found.1; formed = found.2; text = found.3 }))

is_front : (lines : List (List ℕ)) (w : Walked) → walk start lines ≡ Some w → IsFront lines
is_front lines w e = subst (λ (o : Option Walked). IsSome o) (sym e) refl

-- GOOD FRONTS

good-least : (lines : List (List ℕ)) → IsGoodFront lines → least_broken lines ≡ None
good-least lines good = begun-least lines good.posted good.begins ∙ good.none_bad

pub least-good : (lines : List (List ℕ)) → least_broken lines ≡ None → IsGoodFront lines
least-good lines none = at_walk (walk start lines) refl
  where
    at_walk : (o : Option Walked) → walk start lines ≡ o → IsGoodFront lines
    at_walk None e = absurd (none-some kind.Form (sym none ∙ unwalked-least lines e))
    at_walk (Some w) e =
        let found = begin lines (is_front lines w e) in
        record { posted = found.0; begins = found.1; none_bad = sym (begun-least lines found.0 found.1) ∙ none }

-- WHAT LINES BREAK

-- no kind but those behind form is found among them
found-later : (plan : Plan) (lines : List Posted) → first_late plan lines ≢ Some kind.Form
found-later plan lines found =
    let both : true ≡ false = sym (find-passes (λ k. late (is_bad k plan) [] lines) later_kinds kind.Form found) ∙ form_never plan [] lines in
    cc

-- another kind than form
breaks-later : (lines : List (List ℕ)) (posted : Record) (k : Kind) → BeginsWith lines posted → broken_in posted (length lines) ≡ Some k → Breaks lines k
breaks-later lines posted kind.Form begins broken = absurd (found-later posted.plan (take (length lines) (posted_of posted)) broken)
breaks-later lines posted k begins broken = (posted, begins, broken)

least-breaks : (lines : List (List ℕ)) (k : Kind) → least_broken lines ≡ Some k → Breaks lines k
least-breaks lines k broken = at_walk (walk start lines) refl
  where
    at_walk : (o : Option Walked) → walk start lines ≡ o → Breaks lines k
    at_walk None e =
        let same : kind.Form ≡ k = let both : Some kind.Form ≡ Some k = sym (unwalked-least lines e) ∙ broken in cc in
        subst (Breaks lines) same (λ posted begins. let there = begun-walks lines posted begins in none-some there.0 (sym e ∙ there.1))
    at_walk (Some w) e =
        let found = begin lines (is_front lines w e) in
        breaks-later lines found.0 k found.1 (sym (begun-least lines found.0 found.1) ∙ broken)

-- lines with which no record begins
none-begins : (lines : List (List ℕ)) → ((posted : Record) → BeginsWith lines posted → ⊥) → least_broken lines ≡ Some kind.Form
none-begins lines none = at_walk (walk start lines) refl
  where
    at_walk : (o : Option Walked) → walk start lines ≡ o → least_broken lines ≡ Some kind.Form
    at_walk None e = unwalked-least lines e
    at_walk (Some w) e = let found = begin lines (is_front lines w e) in absurd (none found.0 found.1)

breaks-least : (lines : List (List ℕ)) (k : Kind) → Breaks lines k → least_broken lines ≡ Some k
breaks-least lines kind.Form broken = none-begins lines broken
breaks-least lines k broken = begun-least lines broken.0 broken.1 ∙ broken.2

-- WHOLE RECORDS

pub whole-walk : (posted : Record) (lines : List (List ℕ)) → AreLinesOf lines posted → walk start lines ≡ Some (walk_of posted)
whole-walk posted lines are = ap (walk start) are.text ∙ formed_are_walked posted are.words are.formed

whole-are : (posted : Record) (lines : List (List ℕ)) → AreLinesOf lines posted → are_whole lines ≡ true
whole-are posted lines are = subst (λ (l : List (List ℕ)). AreWhole l) (sym are.text) (formed_are_whole posted are.words are.formed)

-- the record of lines that are whole
pub record_of : (lines : List (List ℕ)) → are_whole lines ≡ true → (posted : Record) × AreLinesOf lines posted
record_of lines whole = let found = whole_are_formed lines whole in (found.0, record { words = found.1; formed = found.2; text = found.3 })

good-yes : (lines : List (List ℕ)) (totals : List Total) → IsGood lines totals → IsYes lines totals
good-yes lines totals good =
    let found = record_of lines good.whole in
    let walks = whole-walk found.0 lines found.1 in
    let agree = none_late found.0.plan (posted_of found.0) (sym (walked-least lines (walk_of found.0) walks) ∙ fine-all lines good.fine) in (
      found.0,
      record { whole = found.1; openings = agree kind.Opening; agree = agree },
      good.totals_are ∙ ap (λ (o : Option Walked). option_map_or (λ (w : Walked). totals_in w.posted) o []) walks,
    )

yes-good : (lines : List (List ℕ)) (totals : List Total) → IsYes lines totals → IsGood lines totals
yes-good lines totals answer =
    let right : IsWholeAndAgrees lines answer.0 = answer.1 in
    let walks = whole-walk answer.0 lines right.whole in
    record {
      fine = all_good-fine lines (walk_of answer.0) walks (find-none (breaks_in answer.0) later_kinds right.agree);
      whole = whole-are answer.0 lines right.whole;
      totals_are = answer.2 ∙ ap (λ (o : Option Walked). option_map_or (λ (w : Walked). totals_in w.posted) o []) (sym walks);
    }

-- NO

bad-broken : (lines : List (List ℕ)) (number : ℕ) (k : Kind) → IsFirstBad lines number k → IsFirstBroken lines number k
bad-broken lines number k bad = record {
  within = bad.within;
  before = λ count less. least-good (take count lines) (bad.before count less);
  broken = least-breaks (take number lines) k bad.broken;
}

broken-bad : (lines : List (List ℕ)) (number : ℕ) (k : Kind) → IsFirstBroken lines number k → IsFirstBad lines number k
broken-bad lines number k broken = record {
  within = broken.within;
  before = λ count less. good-least (take count lines) (broken.before count less);
  broken = breaks-least (take number lines) k broken.broken;
}

cut-unended : (lines : List (List ℕ)) (number : ℕ) (k : Kind) → IsCut lines number k → IsUnended lines number k
cut-unended lines number k cut = record {
  good = least-good lines (fine-all lines cut.fine);
  unended = λ posted are. let both : true ≡ false = sym (whole-are posted lines are) ∙ cut.cut in cc;
  one_more = cut.one_more;
  form = cut.form;
}

unended-cut : (lines : List (List ℕ)) (number : ℕ) (k : Kind) → IsUnended lines number k → IsCut lines number k
unended-cut lines number k unended = record {
  fine = none_bad_are_fine lines (good-least lines unended.good);
  cut = elim (cases_Bool (are_whole lines)) [
    | inl whole ↦ let found = record_of lines whole in absurd (unended.unended found.0 found.1)
    | inr cut ↦ cut
  ];
  one_more = unended.one_more;
  form = unended.form;
}

pub verdicts_say : VerdictsSay
verdicts_say lines (judged.Yes totals) = (good-yes lines totals, yes-good lines totals)
verdicts_say lines (judged.No number k) = (to, from)
  where
    to : IsVerdict lines (judged.No number k) → Says (judged.No number k) lines
    to (inl bad) = inl (bad-broken lines number k bad)
    to (inr cut) = inr (cut-unended lines number k cut)

    from : Says (judged.No number k) lines → IsVerdict lines (judged.No number k)
    from (inl broken) = inl (broken-bad lines number k broken)
    from (inr unended) = inr (unended-cut lines number k unended)
