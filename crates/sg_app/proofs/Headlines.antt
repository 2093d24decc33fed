-- How an audit ends says the headline.
use Rattle.std.proofs.Common.{◌≡◌, ℕ, List, Option, None, Some, true, refl, sym, subst}
use Rattle.std.specs.Prelude.{IfSome}
use Rattle.sg_outside.specs.Outcomes.{status_of}
use Rattle.sg_outside.specs.Streams.{Seen}
use Rattle.sg_outside.specs.declared.outcome.Outcome.{Outcome}
use Rattle.sg_outside.specs.TextLines.{lines_of}
use Rattle.sg_check.specs.Verdict.{IsVerdict}
use Rattle.sg_check.specs.declared.judged.Judged.TheVariants.{Yes}
use Rattle.sg_plan.proofs.KeptPlans.{keeps-faultless}
use Rattle.sg_plan.specs.Limits.{plan_keeps}
use Rattle.sg_plan.specs.declared.plan.Plan.{Plan}
use Rattle.sg_post.specs.Posted.{posted_text}
use Rattle.sg_post.specs.declared.story.Story.{Story}
use Rattle.sg_accepted.proofs.RecordTotals.{unaltered_has_totals}
use Rattle.sg_accepted.specs.Totals.{told_totals}
use Rattle.sg_accepted.specs.Unaltered.{IsUnaltered}
use Rattle.sg_histories.specs.Stories.{story_of}
use Rattle.sg_unaltered.proofs.UnalteredStories.{unaltered_tell_so}
use Rattle.sg_reports.specs.audit.Audit.{AuditSays}
use Rattle.sg_reports.specs.audit.Promise.{IsAnsweredYes}
use Rattle.sg_reports.proofs.Auditing.Promises.{answers_yes, promise_of}
use Rattle.sg_app.specs.Headline.{Headline, HistoriesGetYes}

-- what is posted of an unaltered story is answered yes
story_answers_yes : (bytes : List ℕ) (plan : Plan) (seed : List ℕ) (story : Story) (how : Outcome) (input input' out out' : Seen) → input.bytes ≡ Some bytes
    → AuditSays how input input' out out' → plan_keeps plan ≡ true → IsUnaltered plan seed story → lines_of bytes ≡ lines_of (posted_text plan seed story)
    → IsAnsweredYes (told_totals plan seed story.fates) (status_of how) input input' out out'
story_answers_yes bytes plan seed story how input input' out out' known says kept unaltered same =
    answers_yes (told_totals plan seed story.fates) bytes how input input' out out' known
    (subst (λ (l : List (List ℕ)). IsVerdict l (Yes (told_totals plan seed story.fates))) (sym same) (unaltered_has_totals plan seed story (keeps-faultless plan kept) unaltered)) says

-- how an audit ended says the headline, where its input told its bytes
headline_of : (known : Option (List ℕ)) (how : Outcome) (input input' out out' : Seen) → input.bytes ≡ known → AuditSays how input input' out out'
    → IfSome known (λ bytes. Headline (lines_of bytes) (status_of how) input input' out out')
headline_of None how input input' out out' known says = tt
headline_of (Some bytes) how input input' out out' known says = record {
  promise = promise_of (Some bytes) how input input' out out' known says;
  unaltered = λ plan seed story kept unaltered same. story_answers_yes bytes plan seed story how input input' out out' known says kept unaltered same;
}

pub audit_headline : (how : Outcome) (input input' out out' : Seen) → AuditSays how input input' out out' → IfSome input.bytes (λ bytes. Headline (lines_of bytes) (status_of how) input input' out out')
audit_headline how input input' out out' says = headline_of input.bytes how input input' out out' refl says

-- what the headline says of stories holds of histories
histories_of : (lines : List (List ℕ)) (status : ℕ) (input input' out out' : Seen) → Headline lines status input input' out out' → HistoriesGetYes lines status input input' out out'
histories_of lines status input input' out out' headline =
    λ setup history kept unaltered same. headline.unaltered setup.plan setup.seed.0 (story_of setup history) kept (unaltered_tell_so setup history unaltered) same

pub headline_histories : (known : Option (List ℕ)) (status : ℕ) (input input' out out' : Seen) → IfSome known (λ bytes. Headline (lines_of bytes) status input input' out out')
    → IfSome known (λ bytes. HistoriesGetYes (lines_of bytes) status input input' out out')
headline_histories None status input input' out out' told = tt
headline_histories (Some bytes) status input input' out out' told = histories_of (lines_of bytes) status input input' out out' told
