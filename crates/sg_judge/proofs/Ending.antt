-- The end of a pass.
use Rattle.std.proofs.Common.{◌≡◌, ℕ, ◌+◌, ◌-◌, ◌^◌, min, true, false, List, [], ◌∷◌, ◌++◌, length, Option, None, refl, sym, subst, ap, ◌∙◌, arith}
use Rattle.std.specs.Option.{option_map_or}
use Rattle.sg_grammar.specs.Lines.{placed_of}
use Rattle.sg_check.proofs.OneMore.{fine-empty, no_line_over}
use Rattle.sg_check.proofs.Verdicts.{cut_end, good_end}
use Rattle.sg_check.specs.Verdict.{IsVerdict, total_on, totals_in}
use Rattle.sg_check.specs.declared.judged.Judged.TheVariants as judged
use Rattle.sg_check.specs.declared.judged.Kind.{Kind}
use Rattle.sg_check.specs.declared.judged.Kind.TheVariants as kind
use Rattle.sg_check.specs.declared.judged.Total.{Total}
use Rattle.sg_commit.specs.Seals.{StandsFor as HasTaken}
use Rattle.sg_commit.specs.declared.Sealer.{Sealer}
use Rattle.sg_forms.specs.Reading.{line_of}
use Rattle.sg_check.specs.Judging.{AreOfPlan, IsOfPlan}
use Rattle.sg_ledger.specs.Tells.{totals_placed}
use Rattle.sg_ledger.specs.declared.ledger.Ledger.{Ledger}
use Rattle.sg_judge.proofs.Advancing.{few_stand}
use Rattle.sg_judge.specs.Pass.{AreKept, Judges}
use Rattle.sg_judge.specs.inside.Taking.{Keeps, Stands}
use Rattle.sg_plan.specs.declared.plan.Plan.{Plan}
use Rattle.sg_grammar.proofs.Walking.{walk-empty}
use Rattle.sg_grammar.specs.Placed.{Placed}
use Rattle.sg_grammar.specs.Placed.Placed.{OfPlan}
use Rattle.sg_grammar.specs.Walk.{Next, Posted, Walked, is_whole, start}

-- TOTALS

total_on-plan : (line : Placed) → IsOfPlan line → total_on line ≡ []
total_on-plan (OfPlan said) of_plan = refl
total_on-plan line of_plan = absurd of_plan

-- lines of the plan say no totals
pub totals-plan : (lines : List Placed) → AreOfPlan lines → [] ≡ totals_placed lines
totals-plan [] of_plan = refl
totals-plan (line ∷ lines) of_plan = totals-plan lines of_plan.1 ∙ ap (λ (front : List Total). front ++ totals_placed lines) (sym (total_on-plan line of_plan.0))

pub totals-placed : (lines : List Posted) → totals_placed (placed_of lines) ≡ totals_in lines
totals-placed [] = refl
totals-placed (line ∷ lines) = ap (λ (rest : List Total). total_on line.line ++ rest) (totals-placed lines)

-- NO LINES

-- what is kept of no lines
stands-empty : (sealer : Sealer) → HasTaken sealer [] → Stands start sealer None []
stands-empty sealer sealed = record {
  posted = [];
  walks = walk-empty start;
  fine = fine-empty;
  sealed = sealed;
  kept = tt;
}

-- and what a pass over no lines stands for
pub kept-empty : (sealer : Sealer) → HasTaken sealer [] → AreKept start sealer None 0 []
kept-empty sealer sealed = record { count = refl; opened = refl; stands = stands-empty sealer sealed }

pub ruleset ends = (kept-empty, totals-plan)

-- THE VERDICT

-- fine lines that are a whole record are good, with the totals that were kept
pub whole_end : (expect : Next) (sealer : Sealer) (ledger : Option Ledger) (number : ℕ) (lines : List (List ℕ)) (totals : List Total) → Judges None expect sealer ledger number lines
    → is_whole expect ≡ true → ((plan : Plan) (placed : List Placed) → Keeps plan ledger placed → totals ≡ totals_placed placed) → IsVerdict lines (judged.Yes totals)
whole_end expect sealer ledger number lines totals judges whole told =
    let stands = judges.stands in
    good_end lines totals stands.fine (ap (λ (o : Option Walked). option_map_or (λ (w : Walked). is_whole w.next) o false) stands.walks ∙ whole)
    (told expect.plan (placed_of stands.posted) stands.kept ∙ (totals-placed stands.posted
    ∙ sym (ap (λ (o : Option Walked). option_map_or (λ (w : Walked). totals_in w.posted) o []) stands.walks)))

-- the number behind the last line
pub next_number : (expect : Next) (sealer : Sealer) (ledger : Option Ledger) (number next : ℕ) (lines : List (List ℕ)) → Judges None expect sealer ledger number lines
    → next ≡ min (number + 1) (2 ^ 32 - 1) → next ≡ length lines + 1
next_number expect sealer ledger number next lines judges is = omega (arith, is, judges.count, few_stand expect sealer ledger lines judges.stands)

-- fine lines that are none are cut
pub cut_short : (expect : Next) (sealer : Sealer) (ledger : Option Ledger) (number next : ℕ) (lines : List (List ℕ)) → Judges None expect sealer ledger number lines
    → is_whole expect ≡ false → next ≡ min (number + 1) (2 ^ 32 - 1) → IsVerdict lines (judged.No next kind.Form)
cut_short expect sealer ledger number next lines judges cut is =
    let stands = judges.stands in
    subst (λ (n : ℕ). IsVerdict lines (judged.No n kind.Form)) (sym (next_number expect sealer ledger number next lines judges is))
    (cut_end lines stands.fine (ap (λ (o : Option Walked). option_map_or (λ (w : Walked). is_whole w.next) o false) stands.walks ∙ cut))

-- bytes that are no line end the record, whatever follows
pub no_line_end : (expect : Next) (sealer : Sealer) (ledger : Option Ledger) (number next : ℕ) (lines more : List (List ℕ)) (text : List ℕ) → Judges None expect sealer ledger number lines
    → next ≡ min (number + 1) (2 ^ 32 - 1) → ((version : ℕ) → line_of version text ≡ None) → IsVerdict (lines ++ text ∷ more) (judged.No next kind.Form)
no_line_end expect sealer ledger number next lines more text judges is none =
    let stands = judges.stands in
    subst (λ (n : ℕ). IsVerdict (lines ++ text ∷ more) (judged.No n kind.Form)) (sym (next_number expect sealer ledger number next lines judges is))
    (no_line_over lines (record { posted = stands.posted; next = expect }) text more stands.walks stands.fine none)

-- an open pass has found no line bad
pub open_judges : (broken : Option Kind) (expect : Next) (sealer : Sealer) (ledger : Option Ledger) (number : ℕ) (lines : List (List ℕ)) → Judges broken expect sealer ledger number lines
    → broken ≡ None → Judges None expect sealer ledger number lines
open_judges broken expect sealer ledger number lines judges is = subst (λ (b : Option Kind). Judges b expect sealer ledger number lines) is judges
