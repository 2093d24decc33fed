-- A yes is sound: each law of the bound holds of what it accepts.
use Rattle.std.proofs.Common.{◌≡◌, ℕ, true, false, List, length, Option, None, Some, refl, sym, subst, ap, ◌∙◌, arith}
use Rattle.std.specs.Option.{option_map_or}
use Rattle.std.specs.Prelude.{IfOk, IfSome, Result, Ok, Err}
use Rattle.std.proofs.lemmas.List.{take_all}
use Rattle.sg_lists.proofs.Finding.{fails-each}
use Rattle.sg_outside.specs.TextLines.{lines_of}
use Rattle.sg_grammar.specs.Lines.{placed_of}
use Rattle.sg_grammar.specs.Walk.{Walked, is_whole, start, walk}
use Rattle.sg_check.proofs.AllKinds.{each_kind}
use Rattle.sg_check.proofs.BoundLaws.{are_in_plan, fine, full_draw_equals, sizes, totals_bound, totals_stand, version_is, whole_is}
use Rattle.sg_check.proofs.FineLines.{codes_are_known, do_paths_agree}
use Rattle.sg_check.proofs.Posting.{completion_exists}
use Rattle.sg_check.proofs.PrintingLaw.{has_printing, version_room}
use Rattle.sg_check.specs.Bounds.{IsSound, IsSoundIfYes}
use Rattle.sg_check.specs.Kinds.{kinds}
use Rattle.sg_check.specs.Laws.{IsAccepted, PrintingExists}
use Rattle.sg_check.specs.Verdict.{AreFine, IsGood, IsVerdict, breaks, least_broken}
use Rattle.sg_check.specs.declared.judged.Judged.{Judged}
use Rattle.sg_check.specs.declared.judged.Judged.TheVariants as judged
use Rattle.sg_check.specs.declared.judged.Kind.{Kind}
use Rattle.sg_check.specs.declared.judged.Kind.TheVariants as kind
use Rattle.sg_check.specs.declared.judged.Total.{Total}

pub printing_exists : PrintingExists
printing_exists lines totals walked accepted =
    let is_fine = fine lines totals walked accepted in
    has_printing walked.next.plan (placed_of walked.posted) (codes_are_known lines walked is_fine) (do_paths_agree lines walked is_fine) (are_in_plan lines totals walked accepted)
    (λ race. version_room walked.next.plan.version _ (version_is lines totals walked accepted) ((sizes lines totals walked accepted).most_candidates race))

-- fine lines break no kind
none_broken : (lines : List (List ℕ)) → AreFine lines → (k : Kind) → breaks k lines ≡ false
none_broken lines fine k =
    fails-each (λ j. breaks j lines) kinds k (subst (λ (l : List (List ℕ)). least_broken l ≡ None) (take_all (length lines) lines (omega arith)) (fine (length lines))) (each_kind k)

-- lines that are good have a walk
has_walk : (lines : List (List ℕ)) (totals : List Total) → IsGood lines totals → (w : Walked) × (walk start lines ≡ Some w)
has_walk lines totals good = at_walk (walk start lines) refl
  where
    at_walk : (o : Option Walked) → walk start lines ≡ o → (w : Walked) × (walk start lines ≡ Some w)
    at_walk (Some w) e = (w, e)
    at_walk None e =
        let both : false ≡ true = sym (ap (λ (o : Option Walked). option_map_or (λ (w : Walked). is_whole w.next) o false) e) ∙ good.whole in
        cc

-- so each verdict is sound
pub yes_is_sound : (lines : List (List ℕ)) (totals : List Total) → IsVerdict lines (judged.Yes totals) → IsSound lines totals
yes_is_sound lines totals good =
    let has = has_walk lines totals good in
    let accepted : IsAccepted lines totals has.0 = record { walks = has.1; yes = good } in
    record {
      walked = has.0;
      walks = has.1;
      whole = whole_is lines totals has.0 accepted;
      openings = none_broken lines good.fine kind.Opening;
      agree = none_broken lines good.fine;
      bound = totals_bound lines totals has.0 accepted;
      totalled = totals_stand lines totals has.0 accepted;
      printing = printing_exists lines totals has.0 accepted;
      completion = completion_exists lines totals has.0 accepted;
      full = full_draw_equals lines totals has.0 accepted;
    }

pub verdict_is_sound : (lines : List (List ℕ)) (found : Judged) → IsVerdict lines found → IsSoundIfYes lines found
verdict_is_sound lines (judged.Yes totals) accepted = yes_is_sound lines totals accepted
verdict_is_sound lines (judged.No number broken) refused = tt

-- and one on the bytes of a source, where it tells them
pub told_is_sound : (known : Option (List ℕ)) (totals : List Total) → IfSome known (λ bytes. IsVerdict (lines_of bytes) (judged.Yes totals)) → IfSome known (λ bytes. IsSound (lines_of bytes) totals)
told_is_sound None totals told = tt
told_is_sound (Some bytes) totals told = yes_is_sound (lines_of bytes) totals told

-- and one that comes where memory is found
pub result_is_sound : {E : Type 0} (lines : List (List ℕ)) (result : Result Judged E) → IfOk result (λ found. IsVerdict lines found) → IfOk result (λ found. IsSoundIfYes lines found)
result_is_sound lines (Ok found) is = verdict_is_sound lines found is
result_is_sound lines (Err e) is = tt
