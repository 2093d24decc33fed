-- How an audit ends says its promise.
use Rattle.std.proofs.Common.{◌≡◌, ◌≢◌, ℕ, inl, inr, List, Option, None, Some, refl, sym, subst, ap, ◌∙◌, arith}
use Rattle.std.specs.Io.KnownBytes.{Appends}
use Rattle.std.specs.Prelude.{IfSome}
use Rattle.sg_outside.specs.Outcomes.{status_of}
use Rattle.sg_outside.specs.Streams.{Seen}
use Rattle.sg_outside.specs.TextLines.{lines_of}
use Rattle.sg_outside.specs.declared.outcome.Outcome.{Outcome}
use Rattle.sg_outside.specs.declared.outcome.Outcome.TheVariants as outcome
use Rattle.sg_record.specs.declared.record.Record.{Record}
use Rattle.sg_check.proofs.Accepted.{yes_is_sound}
use Rattle.sg_check.proofs.Verdicts.{one_verdict}
use Rattle.sg_check.specs.Verdict.{IsNo, IsVerdict}
use Rattle.sg_check.specs.declared.judged.Judged.{Judged}
use Rattle.sg_check.specs.declared.judged.Judged.TheVariants.{Yes, No}
use Rattle.sg_check.specs.declared.judged.Kind.{Kind}
use Rattle.sg_check.specs.declared.judged.Total.{Total}
use Rattle.sg_fronts.proofs.ByRecords.{verdicts_say}
use Rattle.sg_fronts.proofs.Promised.{bound_on, right_verdict}
use Rattle.sg_fronts.specs.ByRecords.{IsWholeAndAgrees, Says, totals_on}
use Rattle.sg_fronts.specs.Promised.{IsPromised}
use Rattle.sg_reports.specs.audit.Audit.{AuditSays}
use Rattle.sg_reports.specs.audit.Promise.{IsAnsweredYes, Promise}
use Rattle.sg_report.specs.Report.{report_of}

-- a yes is no no
not_no : (totals : List Total) (number : ℕ) (broken : Kind) → Yes totals ≢ No number broken
not_no totals number broken same = subst IsNo (sym same) tt

-- what is said of the bytes of a source that tells them
at_bytes : (known : Option (List ℕ)) (bytes : List ℕ) (P : List ℕ → Type 0) → known ≡ Some bytes → IfSome known P → P bytes
at_bytes known bytes P same told = subst (λ (k : Option (List ℕ)). IfSome k P) same told

-- and of a verdict on them
at_verdict : (known : Option (List ℕ)) (bytes : List ℕ) (found : Judged) → known ≡ Some bytes → IfSome known (λ b. Says found (lines_of b)) → IsVerdict (lines_of bytes) found
at_verdict known bytes found same told = (verdicts_say (lines_of bytes) found).1 (at_bytes known bytes (λ b. Says found (lines_of b)) same told)

-- where the work was done the lines are such a record
right_record : (bytes : List ℕ) (how : Outcome) (input input' out out' : Seen) → input.bytes ≡ Some bytes → AuditSays how input input' out out' → status_of how ≡ 0
    → (posted : Record) × IsWholeAndAgrees (lines_of bytes) posted
right_record bytes outcome.Done input input' out out' same says is =
    let promised = at_bytes input.bytes bytes (λ b. IsPromised (lines_of b) says.due.totals) same says.due.promised in
    (promised.0, promised.1)
right_record bytes _ input input' out out' same says is = absurd (omega (arith, is))

-- where the verdict on the input's bytes is yes, that is the answer
pub answers_yes : (totals : List Total) (bytes : List ℕ) (how : Outcome) (input input' out out' : Seen) → input.bytes ≡ Some bytes → IsVerdict (lines_of bytes) (Yes totals)
    → AuditSays how input input' out out' → IsAnsweredYes totals (status_of how) input input' out out'
answers_yes totals bytes outcome.Done input input' out out' same good says =
    let found = at_verdict input.bytes bytes (Yes says.due.totals) same says.due.judged in
    let text : says.text ≡ report_of (Yes totals) = says.due.text_is ∙ ap report_of (one_verdict (lines_of bytes) (Yes says.due.totals) (Yes totals) found good) in
    inl (refl, subst (λ (t : List ℕ). Appends out.bytes out'.bytes t) text says.written)
answers_yes totals bytes outcome.No input input' out out' same good says =
    let bad = at_verdict input.bytes bytes (No says.due.line says.due.broken) same says.due.judged in
    absurd (not_no totals says.due.line says.due.broken (one_verdict (lines_of bytes) (Yes totals) (No says.due.line says.due.broken) good bad))
answers_yes totals bytes outcome.Refused input input' out out' same good says = absurd says.due
answers_yes totals bytes outcome.ReadFailed input input' out out' same good says = inr (inl (refl, says.cause))
answers_yes totals bytes outcome.WriteFailed input input' out out' same good says = inr (inr (inl (refl, says.cause)))
answers_yes totals bytes outcome.NoMemory input input' out out' same good says = inr (inr (inr refl))
answers_yes totals bytes _ input input' out out' same good says = absurd says

-- how an audit ended says the promise, where its input told its bytes
pub promise_of : (known : Option (List ℕ)) (how : Outcome) (input input' out out' : Seen) → input.bytes ≡ known → AuditSays how input input' out out'
    → IfSome known (λ bytes. Promise (lines_of bytes) (status_of how) input input' out out')
promise_of None how input input' out out' same says = tt
promise_of (Some bytes) how input input' out out' same says = record {
  yes = λ is. right_record bytes how input input' out out' same says is;
  exactly = λ posted right. answers_yes (totals_on posted) bytes how input input' out out' same (right_verdict (lines_of bytes) posted right) says;
  bound = λ is posted right.
      let sound = yes_is_sound (lines_of bytes) (totals_on posted) (right_verdict (lines_of bytes) posted right) in
      bound_on (lines_of bytes) (totals_on posted) sound posted right.whole;
}
