-- What a yes promises of lines by their walk is promised of their record.
use Rattle.std.proofs.Common.{◌≡◌, ℕ, true, false, List, [], Option, Some, refl, sym, subst, ap, ◌∙◌}
use Rattle.std.proofs.lemmas.Option.{same_Some}
use Rattle.std.specs.Option.{option_map_or}
use Rattle.sg_plan.specs.declared.plan.Plan.{Plan}
use Rattle.sg_grammar.specs.Lines.{placed_of}
use Rattle.sg_grammar.specs.Placed.{Placed}
use Rattle.sg_grammar.specs.Walk.{Walked, is_whole, start, walk}
use Rattle.sg_record.specs.Laws.{AreLinesOf}
use Rattle.sg_record.specs.Places.{places_in, walk_of}
use Rattle.sg_record.specs.declared.record.Record.{Record}
use Rattle.sg_check.proofs.Late.{form_never}
use Rattle.sg_check.specs.Bounds.{AreAllTotalled, AreTotalsBound, AreTotalsEqual, HasCompletion, HasPrinting, IsSound}
use Rattle.sg_check.specs.Facts.{is_full_draw}
use Rattle.sg_check.specs.Verdict.{IsVerdict, breaks, breaks_walked}
use Rattle.sg_check.specs.declared.judged.Judged.TheVariants.{Yes}
use Rattle.sg_check.specs.declared.judged.Kind.{Kind}
use Rattle.sg_check.specs.declared.judged.Kind.TheVariants as kind
use Rattle.sg_check.specs.declared.judged.Total.{Total}
use Rattle.sg_fronts.proofs.ByRecords.{record_of, verdicts_say, whole-walk}
use Rattle.sg_fronts.proofs.OfRecord.{placed}
use Rattle.sg_fronts.specs.ByRecords.{IsWholeAndAgrees, breaks_in, posted_of, totals_on}
use Rattle.sg_fronts.specs.Promised.{IsBound, SoundIsPromised}

-- KINDS

-- what lines break by their walk is what the record breaks
broken-in : (lines : List (List ℕ)) (posted : Record) → walk start lines ≡ Some (walk_of posted) → (k : Kind) → breaks k lines ≡ false → breaks_in posted k ≡ false
broken-in lines posted walks kind.Form none = form_never posted.plan [] (posted_of posted)
broken-in lines posted walks k none = sym (ap (λ (o : Option Walked). option_map_or (breaks_walked k) o false) walks) ∙ none

-- a record that agrees has the verdict yes, with its totals
pub right_verdict : (lines : List (List ℕ)) (posted : Record) → IsWholeAndAgrees lines posted → IsVerdict lines (Yes (totals_on posted))
right_verdict lines posted right =
    (verdicts_say lines (Yes (totals_on posted))).1 (posted, right, refl)

-- THE BOUND

-- what holds of the plan and the places of the walk holds of those of the record
module _ (lines : List (List ℕ)) (totals : List Total) (sound : IsSound lines totals) (posted : Record) (are : AreLinesOf lines posted) where
  walks : walk start lines ≡ Some (walk_of posted)
  walks = whole-walk posted lines are

  same : sound.walked ≡ walk_of posted
  same = same_Some sound.walked (walk_of posted) (sym sound.walks ∙ walks)

  places_are : placed_of sound.walked.posted ≡ places_in posted
  places_are = ap (λ (w : Walked). placed_of w.posted) same ∙ placed posted are.words are.formed

  on_record : (P : Plan → List Placed → Type 0) → P sound.walked.next.plan (placed_of sound.walked.posted) → P posted.plan (places_in posted)
  on_record P holds =
      subst (λ (l : List Placed). P posted.plan l) places_are (subst (λ (p : Plan). P p (placed_of sound.walked.posted)) (ap (λ (w : Walked). w.next.plan) same) holds)

  pub bound_on : IsBound posted totals
  bound_on = record {
    bound = on_record (λ plan places. AreTotalsBound plan places totals) sound.bound;
    totalled = on_record (λ plan places. AreAllTotalled plan totals) sound.totalled;
    printing = on_record HasPrinting sound.printing;
    completion = on_record HasCompletion sound.completion;
    full = on_record (λ plan places. is_full_draw places ≡ true → AreTotalsEqual plan places totals) sound.full;
  }

  pub right_on : IsWholeAndAgrees lines posted
  right_on = record {
    whole = are;
    openings = broken-in lines posted walks kind.Opening sound.openings;
    agree = λ k. broken-in lines posted walks k (sound.agree k);
  }

-- sound lines are a whole record's
sound_record : (lines : List (List ℕ)) (totals : List Total) → IsSound lines totals → (posted : Record) × AreLinesOf lines posted
sound_record lines totals sound = record_of lines (ap (λ (o : Option Walked). option_map_or (λ (w : Walked). is_whole w.next) o false) sound.walks ∙ sound.whole)

pub sound_is_promised : SoundIsPromised
sound_is_promised lines totals sound =
    let found = sound_record lines totals sound in
    (found.0, right_on lines totals sound found.0 found.1, bound_on lines totals sound found.0 found.1)
