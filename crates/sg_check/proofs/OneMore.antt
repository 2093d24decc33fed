-- What one more line does to lines that are fine.
use Rattle.std.proofs.Common.{◌≡◌, ℕ, ◌+◌, ◌≤◌, ◌⊎◌, inl, inr, List, [], ◌∷◌, ◌++◌, length, Some, None, sym, ap, ◌∙◌, append_assoc, arith, subst}
use Rattle.std.proofs.lemmas.Bool.{cases_lt}
use Rattle.std.proofs.lemmas.List.{length-append, length_push, take-append-le, take_all}
use Rattle.sg_plan.specs.declared.plan.Plan.{Plan}
use Rattle.sg_grammar.specs.Lines.{placed_of}
use Rattle.sg_forms.specs.Reading.{line_of}
use Rattle.sg_grammar.proofs.Walking.{read_next-no_line, take_bytes-not_read, walk-empty, walk-push, walk-push_none}
use Rattle.sg_grammar.specs.Walk.{Taken, Walked, start, take_bytes, walk}
use Rattle.sg_check.proofs.Judging.{first_late-push, unwalked-least, walked-least}
use Rattle.sg_check.proofs.OfPlan.{plan_lines-none}
use Rattle.sg_check.specs.Judging.{AreOfPlan, bad_in, first_late}
use Rattle.sg_check.specs.Laws.{FormIsJudged, IsPlanKnown, LineIsJudged}
use Rattle.sg_check.specs.Verdict.{AreFine, IsFirstBad, IsVerdict, least_broken}
use Rattle.sg_check.specs.declared.judged.Judged.TheVariants as judged
use Rattle.sg_check.specs.declared.judged.Kind.{Kind}
use Rattle.sg_check.specs.declared.judged.Kind.TheVariants as kind

-- FRONTS

-- fine lines break no kind themselves
pub fine-all : (lines : List (List ℕ)) → AreFine lines → least_broken lines ≡ None
fine-all lines fine = ap least_broken (sym (take_all (length lines) lines (omega arith))) ∙ fine (length lines)

-- no lines are fine
pub fine-empty : AreFine []
fine-empty count =
    ap least_broken (take_all count [] (omega arith)) ∙ walked-least [] (record { posted = []; next = start }) (walk-empty start)

-- the first of fine lines are fine
pub fine-front : (lines more : List (List ℕ)) → AreFine (lines ++ more) → AreFine lines
fine-front lines more fine count =
    elim (cases_lt (length lines) count) [
      | inl above ↦
          ap least_broken (take_all count lines (omega arith) ∙ sym (take_all (length lines) lines (omega arith)) ∙ sym (take-append-le (length lines) lines more (omega arith))) ∙ fine (length lines)
      | inr below ↦ ap least_broken (sym (take-append-le count lines more below)) ∙ fine count
    ]

-- fine lines and one more that breaks nothing are fine
pub fine-push : (lines : List (List ℕ)) (bytes : List ℕ) → AreFine lines → least_broken (lines ++ bytes ∷ []) ≡ None → AreFine (lines ++ bytes ∷ [])
fine-push lines bytes fine good count =
    elim (cases_lt (length lines) count) [
      | inl above ↦ ap least_broken (take_all count (lines ++ bytes ∷ []) (omega (arith, length_push lines bytes))) ∙ good
      | inr below ↦ ap least_broken (take-append-le count lines (bytes ∷ []) below) ∙ fine count
    ]

-- behind fine lines one that breaks a kind is the first bad
pub first_bad-push : (lines : List (List ℕ)) (bytes : List ℕ) (k : Kind) → AreFine lines → least_broken (lines ++ bytes ∷ []) ≡ Some k → IsFirstBad (lines ++ bytes ∷ []) (length lines + 1) k
first_bad-push lines bytes k fine broken = record {
  within = omega (arith, length_push lines bytes);
  before = λ count below. ap least_broken (take-append-le count lines (bytes ∷ []) (omega arith)) ∙ fine count;
  broken = ap least_broken (take_all (length lines + 1) (lines ++ bytes ∷ []) (omega (arith, length_push lines bytes))) ∙ broken;
}

-- the lines behind the first bad one change nothing
pub first_bad-more : (lines more : List (List ℕ)) (number : ℕ) (k : Kind) → IsFirstBad lines number k → IsFirstBad (lines ++ more) number k
first_bad-more lines more number k bad =
    let within : number ≤ length lines = bad.within in
    record {
      within = omega (arith, length-append lines more);
      before = λ count below. ap least_broken (take-append-le count lines more (omega arith)) ∙ bad.before count below;
      broken = ap least_broken (take-append-le number lines more within) ∙ bad.broken;
    }

-- and so they don't change the verdict
pub verdict-more : (lines more : List (List ℕ)) (number : ℕ) (k : Kind) → IsFirstBad lines number k → IsVerdict (lines ++ more) (judged.No number k)
verdict-more lines more number k bad = inl (first_bad-more lines more number k bad)

-- ONE MORE LINE

-- a line that may not stand is the first bad, in form
pub form_over : (lines : List (List ℕ)) (w : Walked) (bytes : List ℕ) → walk start lines ≡ Some w → AreFine lines → take_bytes w.next bytes ≡ None → IsFirstBad (lines ++ bytes ∷ []) (length lines + 1) kind.Form
form_over lines w bytes walks fine stops =
    first_bad-push lines bytes kind.Form fine (unwalked-least (lines ++ bytes ∷ []) (walk-push_none start lines w bytes walks stops))

-- none of the lines is bad by the plan that stands behind one more
pub good_by : (lines : List (List ℕ)) (w : Walked) (plan : Plan) → walk start lines ≡ Some w → AreFine lines → ((plan ≡ w.next.plan) ⊎ AreOfPlan (placed_of w.posted)) → first_late plan w.posted ≡ None
good_by lines w plan walks fine (inl same) = ap (λ (p : Plan). first_late p w.posted) same ∙ (sym (walked-least lines w walks) ∙ fine-all lines fine)
good_by lines w plan walks fine (inr of_plan) = plan_lines-none plan w.posted of_plan

-- lines with one more that may stand break the first kind in which that one is bad
pub one_more : (lines : List (List ℕ)) (w : Walked) (bytes : List ℕ) (t : Taken) → walk start lines ≡ Some w → AreFine lines → take_bytes w.next bytes ≡ Some t
    → IsPlanKnown w t
    → least_broken (lines ++ bytes ∷ []) ≡ bad_in t.next.plan w.posted (record { bytes = bytes; line = t.placed })
one_more lines w bytes t walks fine taken by =
    walked-least (lines ++ bytes ∷ []) (record { posted = w.posted ++ record { bytes = bytes; line = t.placed } ∷ []; next = t.next }) (walk-push start lines w bytes t walks taken)
    ∙ first_late-push t.next.plan w.posted (record { bytes = bytes; line = t.placed }) (good_by lines w t.next.plan walks fine by)

-- a line that may stand and is bad in a kind is the first bad, in that kind
pub kind_over : (lines : List (List ℕ)) (w : Walked) (bytes : List ℕ) (t : Taken) (k : Kind) → walk start lines ≡ Some w → AreFine lines → take_bytes w.next bytes ≡ Some t
    → IsPlanKnown w t
    → bad_in t.next.plan w.posted (record { bytes = bytes; line = t.placed }) ≡ Some k → IsFirstBad (lines ++ bytes ∷ []) (length lines + 1) k
kind_over lines w bytes t k walks fine taken by bad = first_bad-push lines bytes k fine (one_more lines w bytes t walks fine taken by ∙ bad)

-- a line that may stand and is bad in no kind leaves the lines fine
pub still_fine : (lines : List (List ℕ)) (w : Walked) (bytes : List ℕ) (t : Taken) → walk start lines ≡ Some w → AreFine lines → take_bytes w.next bytes ≡ Some t
    → IsPlanKnown w t
    → bad_in t.next.plan w.posted (record { bytes = bytes; line = t.placed }) ≡ None → AreFine (lines ++ bytes ∷ [])
still_fine lines w bytes t walks fine taken by good = fine-push lines bytes fine (one_more lines w bytes t walks fine taken by ∙ good)

-- LINES THAT ARE NONE

-- bytes that are no line in any version are the first bad line, in form, whatever follows
pub no_line_over : (lines : List (List ℕ)) (w : Walked) (text : List ℕ) (more : List (List ℕ)) → walk start lines ≡ Some w → AreFine lines → ((version : ℕ) → line_of version text ≡ None)
    → IsVerdict (lines ++ text ∷ more) (judged.No (length lines + 1) kind.Form)
no_line_over lines w text more walks fine none =
    let bad = form_over lines w text walks fine (take_bytes-not_read w.next text (read_next-no_line w.next text (none w.next.plan.version))) in
    subst (λ (l : List (List ℕ)). IsVerdict l (judged.No (length lines + 1) kind.Form)) (append_assoc lines (text ∷ []) more)
    (verdict-more (lines ++ text ∷ []) more (length lines + 1) kind.Form bad)

pub form_is_judged : FormIsJudged
form_is_judged lines w bytes walks fine stops = form_over lines w bytes walks fine stops

pub line_is_judged : LineIsJudged
line_is_judged lines w bytes t walks fine taken by = one_more lines w bytes t walks fine taken by
