-- How such a command ends.
use Rattle.std.proofs.Common.{◌≡◌, inl, inr, refl, sym, subst, ap, ◌∙◌, arith}
use Rattle.std.specs.Prelude.{◌⊎◌, ℕ, List, Option}
use Rattle.sg_outside.specs.Outcomes.{status_of}
use Rattle.sg_outside.specs.Streams.{Seen}
use Rattle.sg_outside.specs.declared.outcome.Outcome.{Outcome}
use Rattle.sg_outside.specs.declared.outcome.Outcome.TheVariants.{Done, No, ReadFailed, Refused, WriteFailed, NoMemory}
use Rattle.sg_driver.specs.Judging.{IsOfAnswer, Judging}
use Rattle.sg_driver.specs.Says.{Ends, IsDue, Owing, Says, Shows, Taking, WriteFails, Writes}
use Rattle.sg_driver.specs.Taken.{TookLines, TookUnended}
use Rattle.sg_driver.specs.inside.Stopping.{IsHeard}

-- what ends as an answer does, or with a failed write, has read the input, and had memory
pub writes_loud : (due : Outcome) (text : List ℕ) (outcome : Outcome) (out out' : Seen) → IsOfAnswer due → Writes due text outcome out out' → (outcome ≡ ReadFailed) ⊎ (outcome ≡ NoMemory) → ⊥
writes_loud due text outcome out out' is (inl all) (inl read) = subst IsOfAnswer (sym all.0 ∙ read) is
writes_loud due text outcome out out' is (inl all) (inr memory) = subst IsOfAnswer (sym all.0 ∙ memory) is
writes_loud due text outcome out out' is (inr front) (inl read) = absurd (omega (arith, ap status_of (sym front.0 ∙ read)))
writes_loud due text outcome out out' is (inr front) (inr memory) = absurd (omega (arith, ap status_of (sym front.0 ∙ memory)))

module _ (Due : Owing) (Fails Wants : Taking) (input input' out out' : Seen) where
  shown_ends : (outcome : Outcome) → IsOfAnswer outcome → Shows Due outcome input input' out out' → Ends Due Fails Wants outcome input input' out out'
  shown_ends Done is shown = shown
  shown_ends No is shown = shown
  shown_ends Refused is shown = shown
  shown_ends _ is shown = absurd is

  -- what is due was written, or a front of it
  pub writes_end : (due : Outcome) (text : List ℕ) (outcome : Outcome) → Due due text input.bytes input'.bytes → IsOfAnswer due → Writes due text outcome out out'
      → Ends Due Fails Wants outcome input input' out out'
  writes_end due text outcome is_due is (inl all) =
      let shown : Shows Due due input input' out out' = record { text = text; due = is_due; written = all.1 } in
      subst (λ (o : Outcome). Ends Due Fails Wants o input input' out out') (sym all.0) (shown_ends due is shown)
  writes_end due text outcome is_due is (inr front) =
      let failed : WriteFails Due input input' out out' = record { cause = front.1; outcome = due; text = text; due = is_due; written = front.2 } in
      subst (λ (o : Outcome). Ends Due Fails Wants o input input' out out') (sym front.0) failed

-- an answer was told
pub says_told : {A : Type 0} (judging : Judging A) (answer : A) (outcome : Outcome) (input input' out out' : Seen) → IsOfAnswer (judging.outcome answer) → IsHeard judging answer input input'
    → Writes (judging.outcome answer) (judging.report answer) outcome out out' → Says judging outcome input input' out out'
says_told judging answer outcome input input' out out' is heard writes =
    writes_end (IsDue judging) (TookUnended judging.Unsettled) (TookLines judging.Wants) input input' out out' (judging.outcome answer) (judging.report answer) outcome
    (record { answer = answer; outcome_is = refl; text_is = refl; lines = heard.lines; are = heard.are; answers = heard.answers; read = heard.read }) is writes

-- what follows from what is due is due
pub ends_due : (Due Due' : Owing) (Fails Wants : Taking) → ((outcome : Outcome) (text : List ℕ) (before now : Option (List ℕ)) → Due outcome text before now → Due' outcome text before now)
    → (outcome : Outcome) (input input' out out' : Seen) → Ends Due Fails Wants outcome input input' out out' → Ends Due' Fails Wants outcome input input' out out'
ends_due Due Due' Fails Wants then outcome input input' out out' says = by_outcome outcome says
  where
    shown : (o : Outcome) → Shows Due o input input' out out' → Shows Due' o input input' out out'
    shown o said = record { text = said.text; due = then o said.text input.bytes input'.bytes said.due; written = said.written }

    by_outcome : (o : Outcome) → Ends Due Fails Wants o input input' out out' → Ends Due' Fails Wants o input input' out out'
    by_outcome Done said = shown Done said
    by_outcome No said = shown No said
    by_outcome Refused said = shown Refused said
    by_outcome ReadFailed said = said
    by_outcome WriteFailed said = record {
      cause = said.cause;
      outcome = said.outcome;
      text = said.text;
      due = then said.outcome said.text input.bytes input'.bytes said.due;
      written = said.written;
    }
    by_outcome NoMemory said = said
    by_outcome _ said = absurd said
