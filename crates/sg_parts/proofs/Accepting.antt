-- An accepted record: the verdict on its lines is yes, and they are fine.
use Rattle.std.proofs.Common.{◌≡◌, List, ℕ, false, None, refl, subst}
use Rattle.sg_lists.proofs.Finding.{find-none}
use Rattle.sg_plan.specs.Limits.{fault_of}
use Rattle.sg_grammar.specs.Placed.{Placed}
use Rattle.sg_record.proofs.FormedLaw.{has_form}
use Rattle.sg_record.specs.Laws.{AreLinesOf}
use Rattle.sg_record.specs.Lines.{texts_in}
use Rattle.sg_record.specs.Places.{places_in, walk_of}
use Rattle.sg_record.specs.declared.record.Record.{Record}
use Rattle.sg_check.proofs.Accepted.{yes_is_sound}
use Rattle.sg_check.proofs.AllKinds.{none_late}
use Rattle.sg_check.proofs.FineLines.{codes_are_known, pointers_stand_once}
use Rattle.sg_check.specs.Bounds.{IsSound}
use Rattle.sg_check.specs.Judging.{later_kinds}
use Rattle.sg_check.specs.Laws.{AreCodesKnown, ArePointersOnce, IsFineWalk}
use Rattle.sg_check.specs.Verdict.{IsGood, IsVerdict}
use Rattle.sg_check.specs.declared.judged.Judged.TheVariants.{Yes}
use Rattle.sg_check.specs.declared.judged.Kind.{Kind}
use Rattle.sg_check.specs.declared.judged.Kind.TheVariants as kind
use Rattle.sg_check.specs.declared.judged.Total.{Total}
use Rattle.sg_fronts.proofs.ByRecords.{verdicts_say}
use Rattle.sg_fronts.proofs.OfRecord.{placed, walks}
use Rattle.sg_fronts.proofs.Promised.{bound_on, right_on}
use Rattle.sg_fronts.specs.ByRecords.{IsWholeAndAgrees, IsYes, breaks_in, posted_of, totals_on}
use Rattle.sg_fronts.specs.Promised.{IsBound}
use Rattle.sg_parts.specs.Faults.{IsAccepting}
use Rattle.sg_parts.specs.Given.{IsAccepted}

-- so it is where the verdict on lines is yes
pub yes_accepts : (lines : List (List ℕ)) (totals : List Total) → IsVerdict lines (Yes totals) → IsAccepting lines
yes_accepts lines totals verdict =
    let says : IsYes lines totals = (verdicts_say lines (Yes totals)).0 verdict in
    let right : IsWholeAndAgrees lines says.0 = says.1 in
    (says.0, record { words = right.whole.words; formed = right.whole.formed; none_bad = find-none (breaks_in says.0) later_kinds right.agree }, right.whole.text)

module _ (posted : Record) (accepted : IsAccepted posted) where
  are_lines : AreLinesOf (texts_in posted) posted
  are_lines = record { words = accepted.words; formed = accepted.formed; text = refl }

  good : IsGood (texts_in posted) (totals_on posted)
  good =
      let agree = none_late posted.plan (posted_of posted) accepted.none_bad in
      (verdicts_say (texts_in posted) (Yes (totals_on posted))).1 (posted, record { whole = are_lines; openings = agree kind.Opening; agree = agree }, refl)

  pub good_plan : fault_of posted.plan ≡ None
  good_plan = (has_form posted accepted.words accepted.formed).is.fine

  pub fine : IsFineWalk (texts_in posted) (walk_of posted)
  fine = record { walks = walks posted accepted.words accepted.formed; fine = good.fine }

  sound : IsSound (texts_in posted) (totals_on posted)
  sound = yes_is_sound (texts_in posted) (totals_on posted) good

  pub bound : IsBound posted (totals_on posted)
  bound = bound_on (texts_in posted) (totals_on posted) sound posted are_lines

  pub agree : (k : Kind) → breaks_in posted k ≡ false
  agree k = (right_on (texts_in posted) (totals_on posted) sound posted are_lines).agree k

  pub known_once : AreCodesKnown posted.plan (places_in posted)
  known_once = subst (λ (l : List Placed). AreCodesKnown posted.plan l) (placed posted accepted.words accepted.formed) (codes_are_known (texts_in posted) (walk_of posted) fine)

  pub pointers_once : ArePointersOnce posted.plan (places_in posted)
  pointers_once = subst (λ (l : List Placed). ArePointersOnce posted.plan l) (placed posted accepted.words accepted.formed) (pointers_stand_once (texts_in posted) (walk_of posted) fine)
