-- A verdict on lines, told by its status and its report.
use Rattle.std.proofs.Common.{◌≡◌, ℕ, true, false, List, None, refl, sym, subst, ap, ◌∙◌}
use Rattle.sg_lists.proofs.Finding.{find-none}
use Rattle.sg_check.proofs.Accepted.{verdict_is_sound}
use Rattle.sg_check.proofs.Fine.{none_bad_are_fine}
use Rattle.sg_check.proofs.Verdicts.{good_end, one_verdict}
use Rattle.sg_check.specs.Bounds.{IsSoundIfYes}
use Rattle.sg_check.specs.Kinds.{kinds}
use Rattle.sg_check.specs.Verdict.{IsVerdict, are_whole, breaks, totals_of}
use Rattle.sg_check.specs.declared.judged.Judged.{Judged}
use Rattle.sg_check.specs.declared.judged.Judged.TheVariants.{Yes, No}
use Rattle.sg_check.specs.declared.judged.Kind.{Kind}
use Rattle.sg_report.specs.Report.{report_of}
use Rattle.sg_outside.specs.TextLines.{lines_of}
use Rattle.sg_plan.specs.Limits.{fault_of}
use Rattle.sg_plan.specs.declared.plan.Plan.{Plan}
use Rattle.sg_post.specs.Posted.{posted_text}
use Rattle.sg_post.specs.declared.story.Story.{Story}
use Rattle.sg_histories.specs.Stories.{story_of}
use Rattle.sg_accepted.proofs.RecordTotals.{unaltered_is_never_no}
use Rattle.sg_accepted.specs.Unaltered.{IsUnaltered}
use Rattle.sg_unaltered.proofs.UnalteredStories.{unaltered_tell_so}
use Rattle.sg_page.specs.Page.{TellsVerdict, status_of}

-- a whole record that breaks no kind has the status of a yes
good_is_yes : (lines : List (List ℕ)) (judged : Judged) → IsVerdict lines judged → are_whole lines ≡ true → ((k : Kind) → breaks k lines ≡ false) → status_of judged ≡ 0
good_is_yes lines judged verdict whole agree =
    ap status_of (one_verdict lines judged (Yes (totals_of lines)) verdict
    (good_end lines (totals_of lines) (none_bad_are_fine lines (find-none (λ k. breaks k lines) kinds agree)) whole refl))

-- what is posted of an unaltered story has the status of a yes
unaltered_is_yes : (lines : List (List ℕ)) (judged : Judged) (plan : Plan) (seed : List ℕ) (story : Story) → IsVerdict lines judged → fault_of plan ≡ None → IsUnaltered plan seed story
    → lines ≡ lines_of (posted_text plan seed story) → status_of judged ≡ 0
unaltered_is_yes lines judged plan seed story verdict fine unaltered same =
    ap status_of (unaltered_is_never_no plan seed story judged fine unaltered (subst (λ (l : List (List ℕ)). IsVerdict l judged) same verdict))

-- a yes is of lines that break no kind
yes_agrees : (lines : List (List ℕ)) (judged : Judged) → IsSoundIfYes lines judged → status_of judged ≡ 0 → (k : Kind) → breaks k lines ≡ false
yes_agrees lines (Yes totals) sound is = sound.agree
yes_agrees lines (No number broken) sound is = cc

-- and are a whole record
yes_is_whole : (lines : List (List ℕ)) (judged : Judged) → IsVerdict lines judged → status_of judged ≡ 0 → are_whole lines ≡ true
yes_is_whole lines (Yes totals) verdict is = verdict.whole
yes_is_whole lines (No number broken) verdict is = cc

pub told : (lines : List (List ℕ)) (judged : Judged) (status : ℕ) (report : List ℕ) → IsVerdict lines judged → status ≡ status_of judged → report ≡ report_of judged
    → TellsVerdict lines status report
told lines judged status report verdict status_is report_is = record {
  judged = judged;
  verdict = verdict;
  status_is = status_is;
  report_is = report_is;
  yes = λ e. yes_agrees lines judged (verdict_is_sound lines judged verdict) (sym status_is ∙ e);
  whole = λ e. yes_is_whole lines judged verdict (sym status_is ∙ e);
  exactly = λ whole agree. status_is ∙ good_is_yes lines judged verdict whole agree;
  bound = verdict_is_sound lines judged verdict;
  unaltered = λ setup history fine unaltered same.
      status_is ∙ unaltered_is_yes lines judged setup.plan setup.seed.0 (story_of setup history) verdict fine (unaltered_tell_so setup history unaltered) same;
  unaltered_story = λ plan seed story fine unaltered same. status_is ∙ unaltered_is_yes lines judged plan seed story verdict fine unaltered same;
}
