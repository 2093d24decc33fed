-- The act for a ballot of a sample is accepted, in an office in which the ballot has no fate yet.
use Rattle.std.proofs.Common.{◌≡◌, ℕ, ◌%◌, ◌<◌, ◌≤◌, ◌==◌, nat_lt, nat_le, Bool, true, false, not, if◌then◌else◌, List, [], ◌∷◌, length, Some, None, refl, sym, subst, ap, arith}
use Rattle.std.proofs.lemmas.Bool.{ne_eqb}
use Rattle.std.proofs.lemmas.Bool.Decides.{nat_tests}
use Rattle.std.proofs.lemmas.Option.{same_Some}
use Rattle.sg_plan.specs.Ballots.{ballot_has, candidates_of, races_of_ballot}
use Rattle.sg_plan.specs.Fates.{has_mark}
use Rattle.sg_plan.specs.Limits.{fault_of, first_bad}
use Rattle.sg_plan.specs.declared.plan.Fate.{Fate}
use Rattle.sg_plan.specs.declared.plan.Fate.TheVariants as fate
use Rattle.sg_plan.specs.declared.plan.Mark.{Mark}
use Rattle.sg_plan.specs.declared.plan.Plan.{Plan}
use Rattle.sg_plan.specs.declared.plan.Stage.{Stage}
use Rattle.sg_tables.specs.Tables.{paper_of}
use Rattle.sg_acts.specs.declared.asks.Act.{Act}
use Rattle.sg_acts.specs.declared.asks.Act.TheVariants as act
use Rattle.sg_acts.specs.declared.replies.FateWord.{FateWord}
use Rattle.sg_acts.specs.declared.replies.FateWord.TheVariants as word
use Rattle.sg_acts.specs.declared.replies.Phase.{Phase}
use Rattle.sg_acts.specs.declared.replies.Phase.TheVariants as phase
use Rattle.sg_keeper.specs.declared.setup.Setup.{Setup}
use Rattle.sg_histories.specs.Answers.{audit_refusal, early_refusal, fits_races, is_ballot, refusal_of, scan_refusal}
use Rattle.sg_histories.specs.Histories.{Entry, claims_after, fate_after, fate_of, fate_word, phase_of, stage_after}
use Rattle.sg_histories.specs.Lawful.{IsAskable}
use Rattle.sg_histories.specs.declared.kept.Claim.{Claim}
use Rattle.sg_unaltered.specs.UnalteredHistories.{HasTruePaper}
use Rattle.sg_sample.specs.SampleRun.{ballot_act, sample_marks, sample_plan}
use Rattle.sg_sample.proofs.MarksFit.{candidates_fit, few_marks, marks_apart, marks_are, marks_by, races_fit}
use Rattle.sg_sample.proofs.PapersFit.{paper_codes, paper_fits}
use Rattle.sg_sample.proofs.SampleBallots.{first_candidates, has_first, has_second, races_are, second_candidates}
use Rattle.sg_sample.proofs.SamplePlan.{ballots_are, plan_fits}

-- what is told of the act for a ballot
pub record IsBallotAct (setup : Setup) (ballot : ℕ) (done : Act) : Type 0 where
  pub askable : IsAskable setup done
  pub taken : (history : List Entry) → phase_of history ≡ phase.Voting → fate_of history ballot ≡ fate.Unused → refusal_of setup history 0 done ≡ None
  pub stage : (before : Stage) → stage_after done before ≡ before
  pub claims : (before : List Claim) → claims_after done before ≡ before
  pub others : (other : ℕ) (before : Fate) → ballot < other → fate_after other done before ≡ before
  pub paper : HasTruePaper setup done

-- REFUSALS

early_none : (plan : Plan) (now : Phase) (told : FateWord) (ballot : ℕ) → now ≡ phase.Voting → is_ballot plan ballot ≡ true → told ≡ word.Unused → early_refusal plan now told ballot ≡ None
early_none plan now told ballot voting inside unused = rw (voting, unused, inside) refl

is_in : (ballots ballot : ℕ) → 1 ≤ ballot → ballot ≤ ballots → is_ballot (sample_plan ballots) ballot ≡ true
is_in ballots ballot first last =
    let many = ballots_are ballots in
    let a : nat_le 1 ballot ≡ true = grind (arith, nat_tests, first) in
    let b : nat_le ballot ballots ≡ true = grind (arith, nat_tests, last) in
    rw (many, a, b) refl

scan_none : (plan : Plan) (now : Phase) (told : FateWord) (ballot : ℕ) (marks : List Mark) → early_refusal plan now told ballot ≡ None
    → first_bad (λ earlier mark. ballot_has plan ballot mark.race) [] marks ≡ None
    → first_bad (λ earlier mark. nat_lt mark.candidate (candidates_of plan mark.race)) [] marks ≡ None
    → first_bad (λ earlier mark. not (has_mark earlier mark.race mark.candidate)) [] marks ≡ None
    → scan_refusal plan now told ballot marks ≡ None
scan_none plan now told ballot marks early races candidates twice = rw (early, races, candidates, twice) refl

audit_none : (plan : Plan) (now : Phase) (told : FateWord) (ballot : ℕ) (paper : List (List ℕ)) → early_refusal plan now told ballot ≡ None
    → fits_races plan (races_of_ballot plan ballot) paper ≡ true → audit_refusal plan now told ballot paper ≡ None
audit_none plan now told ballot paper early fits = rw (early, fits) refl

other_ballot : (ballot other : ℕ) → ballot < other → (ballot == other) ≡ false
other_ballot ballot other h = ne_eqb ballot other (λ e. omega (arith, h, e))

-- THE ACTS

spoil_act : (setup : Setup) (ballots ballot : ℕ) → setup.plan ≡ sample_plan ballots → 1 ≤ ballot → ballot ≤ ballots → IsBallotAct setup ballot (act.Spoil ballot)
spoil_act setup ballots ballot plan first last = record {
  askable = record { codes = tt; counted = tt };
  taken = λ history voting unused.
      early_none setup.plan (phase_of history) (fate_word (fate_of history ballot)) ballot voting
      (subst (λ (p : Plan). is_ballot p ballot ≡ true) (sym plan) (is_in ballots ballot first last)) (ap fate_word unused);
  stage = λ before. refl;
  claims = λ before. refl;
  others = λ other before h. rw (other_ballot ballot other h) refl;
  paper = tt;
}

scan_act : (setup : Setup) (ballots ballot : ℕ) → setup.plan ≡ sample_plan ballots → 1 ≤ ballot → ballot ≤ ballots → IsBallotAct setup ballot (act.Scan ballot (sample_marks ballot))
scan_act setup ballots ballot plan first last =
    let more : Bool = ballot % 10 == 1 in
    let few = few_marks ballot more in
    let none : (history : List Entry) → phase_of history ≡ phase.Voting → fate_of history ballot ≡ fate.Unused
    → refusal_of setup history 0 (act.Scan ballot (marks_by ballot more)) ≡ None
    = λ history voting unused.
    scan_none setup.plan (phase_of history) (fate_word (fate_of history ballot)) ballot (marks_by ballot more)
    (early_none setup.plan (phase_of history) (fate_word (fate_of history ballot)) ballot voting
    (subst (λ (p : Plan). is_ballot p ballot ≡ true) (sym plan) (is_in ballots ballot first last)) (ap fate_word unused))
    (races_fit setup.plan ballot more
    (subst (λ (p : Plan). ballot_has p ballot 0 ≡ true) (sym plan) (has_first ballots ballot first last))
    (subst (λ (p : Plan). ballot_has p ballot 1 ≡ true) (sym plan) (has_second ballots ballot first last)))
    (candidates_fit setup.plan ballot more
    (subst (λ (p : Plan). candidates_of p 0 ≡ 3) (sym plan) (first_candidates ballots))
    (subst (λ (p : Plan). candidates_of p 1 ≡ 4) (sym plan) (second_candidates ballots)))
    (marks_apart ballot more) in
    subst (λ (marks : List Mark). IsBallotAct setup ballot (act.Scan ballot marks)) (sym (marks_are ballot))
    (record {
      askable = record { codes = tt; counted = omega (arith, few) };
      taken = none;
      stage = λ before. refl;
      claims = λ before. refl;
      others = λ other before h. rw (other_ballot ballot other h) refl;
      paper = tt;
    })

two_races : (ballots : ℕ) → length (sample_plan ballots).races ≡ 2
unfolding sample_plan
two_races ballots = refl

audit_act : (setup : Setup) (ballots ballot : ℕ) → setup.plan ≡ sample_plan ballots → 1 ≤ ballot → ballot ≤ ballots → ballots ≤ 9000
    → IsBallotAct setup ballot (act.Audit ballot (paper_of setup.plan setup.seed.0 ballot))
audit_act setup ballots ballot plan first last few =
    let fine : fault_of setup.plan ≡ None = subst (λ (p : Plan). fault_of p ≡ None) (sym plan) (plan_fits ballots (omega (arith, first, last)) few) in
    let two : length setup.plan.races ≡ 2 = subst (λ (p : Plan). length p.races ≡ 2) (sym plan) (two_races ballots) in
    let races : races_of_ballot setup.plan ballot ≡ 0 ∷ 1 ∷ [] = subst (λ (p : Plan). races_of_ballot p ballot ≡ 0 ∷ 1 ∷ []) (sym plan) (races_are ballots ballot first last) in
    record {
      askable = record { codes = paper_codes setup.plan setup.seed.0 ballot fine two races; counted = tt };
      taken = λ history voting unused.
          audit_none setup.plan (phase_of history) (fate_word (fate_of history ballot)) ballot (paper_of setup.plan setup.seed.0 ballot)
          (early_none setup.plan (phase_of history) (fate_word (fate_of history ballot)) ballot voting
          (subst (λ (p : Plan). is_ballot p ballot ≡ true) (sym plan) (is_in ballots ballot first last)) (ap fate_word unused))
          (paper_fits setup.plan setup.seed.0 ballot fine two races);
      stage = λ before. refl;
      claims = λ before. refl;
      others = λ other before h. rw (other_ballot ballot other h) refl;
      paper = refl;
    }

-- the act for a ballot is one of these
pub ballot_act_is : (setup : Setup) (ballots ballot : ℕ) (done : Act) → setup.plan ≡ sample_plan ballots → 1 ≤ ballot → ballot ≤ ballots → ballots ≤ 9000
    → ballot_act setup.plan setup.seed.0 ballot ≡ Some done → IsBallotAct setup ballot done
ballot_act_is setup ballots ballot done plan first last few is = by (ballot % 10 == 0) (ballot % 10 == 5) (ballot % 10 == 7) is
  where
    by : (zero_is five seven : Bool)
        → (if zero_is then Some (act.Spoil ballot) else (if five then Some (act.Audit ballot (paper_of setup.plan setup.seed.0 ballot)) else (if seven then None else Some (act.Scan ballot (sample_marks ballot))))) ≡ Some done
        → IsBallotAct setup ballot done
    by true five seven e = subst (IsBallotAct setup ballot) (same_Some _ _ e) (spoil_act setup ballots ballot plan first last)
    by false true seven e = subst (IsBallotAct setup ballot) (same_Some _ _ e) (audit_act setup ballots ballot plan first last few)
    by false false true e = cc
    by false false false e = subst (IsBallotAct setup ballot) (same_Some _ _ e) (scan_act setup ballots ballot plan first last)
