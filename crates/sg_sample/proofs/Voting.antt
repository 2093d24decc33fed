-- What an office of a sample stands for in the midst of its acts, and that each of them is accepted.
use Rattle.std.proofs.Common.{◌≡◌, ℕ, zero, suc, ◌<◌, ◌≤◌, ◌^◌, ◌==◌, true, false, List, [], ◌∷◌, length, Option, Some, None, refl, sym, subst, ap, ◌∙◌, arith}
use Rattle.std.proofs.lemmas.Bool.{and_right}
use Rattle.std.specs.Option.{option_map_or}
use Rattle.std.specs.Prelude.{All}
use Rattle.std.proofs.lemmas.Bool.Decides.{nat_tests}
use Rattle.std.proofs.lemmas.List.Elements.{All-cons, All-nil}
use Rattle.sg_plan.specs.declared.plan.Draw.{Draw}
use Rattle.sg_plan.specs.declared.plan.Fate.TheVariants as fate
use Rattle.sg_plan.specs.declared.plan.Stage.TheVariants as stage
use Rattle.sg_acts.specs.declared.asks.Act.{Act}
use Rattle.sg_acts.specs.declared.asks.Act.TheVariants as act
use Rattle.sg_acts.specs.declared.asks.Ask.{Ask}
use Rattle.sg_acts.specs.declared.asks.Ask.TheVariants as ask
use Rattle.sg_acts.specs.declared.asks.Stamp.{Stamp}
use Rattle.sg_keeper.specs.declared.setup.Setup.{Setup}
use Rattle.sg_histories.specs.Answers.{accepts, answer_of, entry_of, is_done, knows_secret_of, next_history, refusal_of, repeat_of}
use Rattle.sg_record.specs.Formed.{is_draw}
use Rattle.sg_histories.specs.Histories.{Entry, claims_of, fate_of, is_stamped, phase_word, stage_of}
use Rattle.sg_histories.specs.HistoryLaws.{history_after}
use Rattle.sg_histories.specs.Lawful.{IsAccepted, IsAskable, Lawful}
use Rattle.sg_histories.proofs.Accepted.{accepts_is}
use Rattle.sg_unaltered.specs.UnalteredHistories.{HasTruePaper}
use Rattle.sg_sample.specs.SampleRun.{ballot_act, ballot_asks, sample_plan, sample_secret, with_act}
use Rattle.sg_sample.specs.Laws.{AreDone}
use Rattle.sg_sample.specs.inside.Voting.{stamp_of}
use Rattle.sg_sample.proofs.Asked.{answered_done}
use Rattle.sg_sample.proofs.BallotActs.{IsBallotAct, ballot_act_is}

-- NUMBERS

-- each entry has a lower number
abbrev pub AreBelow : ℕ → List Entry → Type 0
AreBelow number [] = Unit {0}
AreBelow number (entry ∷ history) = (entry.number < number) × AreBelow number history

more_below : (number : ℕ) (history : List Entry) → AreBelow number history → AreBelow (suc number) history
more_below number [] below = tt
more_below number (entry ∷ history) below = (omega (arith, below.0), more_below number history below.1)

not_stamped : (number : ℕ) (entry : Entry) → entry.number < number → is_stamped 0 number entry ≡ false
not_stamped number entry h = and_right (entry.station == 0) (entry.number == number) (grind (arith, nat_tests, h))

new_number : (setup : Setup) (number : ℕ) (done : Act) (history : List Entry) → AreBelow number history → repeat_of setup history (stamp_of number) done ≡ None
new_number setup number done [] below = refl
new_number setup number done (entry ∷ history) below = rw (not_stamped number entry below.0) (new_number setup number done history below.1)

-- ACCEPTED

known : (setup : Setup) (number : ℕ) → setup.secrets ≡ sample_secret ∷ [] → knows_secret_of setup.secrets (stamp_of number) ≡ true
known setup number secrets = subst (λ (list : List (List ℕ)). knows_secret_of list (stamp_of number) ≡ true) (sym secrets) refl

accepted_by : (setup : Setup) (history : List Entry) (stamp : Stamp) (done : Act) → knows_secret_of setup.secrets stamp ≡ true → repeat_of setup history stamp done ≡ None
    → refusal_of setup history stamp.station done ≡ None → accepts setup history stamp done ≡ true
accepted_by setup history stamp done secret new none = accepts_is setup history stamp done ∙ (rw (secret, new, none) refl)

-- the next history of an act that is accepted
pub goes_on : (setup : Setup) (history : List Entry) (stamp : Stamp) (done : Act) → accepts setup history stamp done ≡ true
    → next_history setup history (ask.Do stamp done) ≡ entry_of stamp done ∷ history
unfolding next_history
goes_on setup history stamp done accepted = rw accepted refl

-- THE BALLOTS

-- the history behind the acts of so many ballots: nothing is told of the others, and it goes on
pub record Stood (setup : Setup) (asks : List Ask) (before : ℕ) : Type 0 where
  pub stage_is : stage_of (history_after setup asks) ≡ stage.Voting
  pub claims_are : claims_of (history_after setup asks) ≡ []
  pub unused : (ballot : ℕ) → before < ballot → fate_of (history_after setup asks) ballot ≡ fate.Unused
  pub numbers : AreBelow (length asks) (history_after setup asks)
  pub count : length asks ≤ before
  pub papers : All (λ (entry : Entry). HasTruePaper setup entry.act) (history_after setup asks)
  pub lawful : Lawful setup (history_after setup asks)

is_taken : (setup : Setup) (history : List Entry) (number : ℕ) (done : Act) → number < 2 ^ 32 → IsAskable setup done → accepts setup history (stamp_of number) done ≡ true
    → IsAccepted setup history (entry_of (stamp_of number) done)
is_taken setup history number done small askable accepted = record { stamp = stamp_of number; is = refl; number = small; act_is = askable; accepted = accepted }

pub stood_accepts : (setup : Setup) (asks : List Ask) (before : ℕ) (done : Act) → setup.secrets ≡ sample_secret ∷ [] → Stood setup asks before → IsBallotAct setup (suc before) done
    → accepts setup (history_after setup asks) (stamp_of (length asks)) done ≡ true
stood_accepts setup asks before done secrets stood is =
    accepted_by setup (history_after setup asks) (stamp_of (length asks)) done (known setup (length asks) secrets)
    (new_number setup (length asks) done (history_after setup asks) stood.numbers)
    (is.taken (history_after setup asks) (ap phase_word stood.stage_is) (stood.unused (suc before) (omega arith)))

-- with one more act
stood_more : (setup : Setup) (asks : List Ask) (before : ℕ) (done : Act) → before ≤ 9000 → setup.secrets ≡ sample_secret ∷ [] → Stood setup asks before → IsBallotAct setup (suc before) done
    → Stood setup (with_act asks done) (suc before)
stood_more setup asks before done few secrets stood is =
    let number = length asks in
    let accepted = stood_accepts setup asks before done secrets stood is in
    let next : history_after setup (with_act asks done) ≡ entry_of (stamp_of number) done ∷ history_after setup asks
    = goes_on setup (history_after setup asks) (stamp_of number) done accepted in
    record {
      stage_is = ap stage_of next ∙ (is.stage (stage_of (history_after setup asks)) ∙ stood.stage_is);
      claims_are = ap claims_of next ∙ (is.claims (claims_of (history_after setup asks)) ∙ stood.claims_are);
      unused = λ ballot h.
          ap (λ (l : List Entry). fate_of l ballot) next ∙ (is.others ballot (fate_of (history_after setup asks) ballot) h ∙ stood.unused ballot (omega (arith, h)));
      numbers = subst (AreBelow (suc number)) (sym next) (omega arith, more_below number (history_after setup asks) stood.numbers);
      count = omega (arith, stood.count);
      papers = subst (λ (l : List Entry). All (λ (entry : Entry). HasTruePaper setup entry.act) l) (sym next)
          (All-cons (λ (entry : Entry). HasTruePaper setup entry.act) (entry_of (stamp_of number) done) (history_after setup asks) is.paper stood.papers);
      lawful = subst (Lawful setup) (sym next) (is_taken setup (history_after setup asks) number done (omega (arith, few, stood.count)) is.askable accepted, stood.lawful);
    }

-- with no act for the next ballot
stood_still : (setup : Setup) (asks : List Ask) (before : ℕ) → Stood setup asks before → Stood setup asks (suc before)
stood_still setup asks before stood = record {
  stage_is = stood.stage_is;
  claims_are = stood.claims_are;
  unused = λ ballot h. stood.unused ballot (omega (arith, h));
  numbers = stood.numbers;
  count = omega (arith, stood.count);
  papers = stood.papers;
  lawful = stood.lawful;
}

pub stood_behind : (setup : Setup) (ballots before : ℕ) → setup.plan ≡ sample_plan ballots → setup.secrets ≡ sample_secret ∷ [] → ballots ≤ 9000 → before ≤ ballots
    → Stood setup (ballot_asks setup before) before
unfolding ballot_asks
stood_behind setup ballots zero plan secrets few within = record {
  stage_is = refl;
  claims_are = refl;
  unused = λ ballot h. refl;
  numbers = tt;
  count = omega arith;
  papers = All-nil (λ (entry : Entry). HasTruePaper setup entry.act);
  lawful = tt;
}
stood_behind setup ballots (suc before) plan secrets few within =
    by (ballot_act setup.plan setup.seed.0 (suc before)) refl (stood_behind setup ballots before plan secrets few (omega (arith, within)))
  where
    by : (what : Option Act) → ballot_act setup.plan setup.seed.0 (suc before) ≡ what → Stood setup (ballot_asks setup before) before
        → Stood setup (option_map_or (with_act (ballot_asks setup before)) what (ballot_asks setup before)) (suc before)
    by None is stood = stood_still setup (ballot_asks setup before) before stood
    by (Some done) is stood =
        stood_more setup (ballot_asks setup before) before done (omega (arith, few, within)) secrets stood
        (ballot_act_is setup ballots (suc before) done plan (omega arith) within few is)

-- THE CLOSE AND THE DRAW

pub close_accepted : (setup : Setup) (asks : List Ask) (before : ℕ) → setup.secrets ≡ sample_secret ∷ [] → Stood setup asks before
    → accepts setup (history_after setup asks) (stamp_of (length asks)) act.Close ≡ true
close_accepted setup asks before secrets stood =
    accepted_by setup (history_after setup asks) (stamp_of (length asks)) act.Close (known setup (length asks) secrets)
    (new_number setup (length asks) act.Close (history_after setup asks) stood.numbers) none
  where
    none : refusal_of setup (history_after setup asks) 0 act.Close ≡ None
    none = rw stood.stage_is refl

closed : (setup : Setup) (asks : List Ask) (before : ℕ) → setup.secrets ≡ sample_secret ∷ [] → Stood setup asks before
    → history_after setup (with_act asks act.Close) ≡ entry_of (stamp_of (length asks)) act.Close ∷ history_after setup asks
closed setup asks before secrets stood = goes_on setup (history_after setup asks) (stamp_of (length asks)) act.Close (close_accepted setup asks before secrets stood)

pub draw_accepted : (setup : Setup) (asks : List Ask) (before : ℕ) (drawn : Draw) → setup.secrets ≡ sample_secret ∷ [] → Stood setup asks before → is_draw drawn ≡ true
    → accepts setup (history_after setup (with_act asks act.Close)) (stamp_of (suc (length asks))) (act.Draw drawn) ≡ true
draw_accepted setup asks before drawn secrets stood fits =
    subst (λ (l : List Entry). accepts setup l (stamp_of (suc (length asks))) (act.Draw drawn) ≡ true) (sym (closed setup asks before secrets stood))
    (accepted_by setup (entry_of (stamp_of (length asks)) act.Close ∷ history_after setup asks) (stamp_of (suc (length asks))) (act.Draw drawn) (known setup (suc (length asks)) secrets)
    (new_number setup (suc (length asks)) (act.Draw drawn) (entry_of (stamp_of (length asks)) act.Close ∷ history_after setup asks)
    (omega arith, more_below (length asks) (history_after setup asks) stood.numbers)) none)
  where
    none : refusal_of setup (entry_of (stamp_of (length asks)) act.Close ∷ history_after setup asks) 0 (act.Draw drawn) ≡ None
    none = rw fits refl

-- the whole history
pub whole_history : (setup : Setup) (asks : List Ask) (before : ℕ) (drawn : Draw) → setup.secrets ≡ sample_secret ∷ [] → Stood setup asks before → is_draw drawn ≡ true
    → history_after setup (with_act (with_act asks act.Close) (act.Draw drawn))
    ≡ entry_of (stamp_of (suc (length asks))) (act.Draw drawn) ∷ entry_of (stamp_of (length asks)) act.Close ∷ history_after setup asks
whole_history setup asks before drawn secrets stood fits =
    goes_on setup (history_after setup (with_act asks act.Close)) (stamp_of (suc (length asks))) (act.Draw drawn) (draw_accepted setup asks before drawn secrets stood fits)
    ∙ ap (λ (l : List Entry). entry_of (stamp_of (suc (length asks))) (act.Draw drawn) ∷ l) (closed setup asks before secrets stood)

-- is lawful
pub whole_lawful : (setup : Setup) (asks : List Ask) (before : ℕ) (drawn : Draw) → before ≤ 9000 → setup.secrets ≡ sample_secret ∷ [] → Stood setup asks before → is_draw drawn ≡ true
    → IsAskable setup (act.Draw drawn) → Lawful setup (history_after setup (with_act (with_act asks act.Close) (act.Draw drawn)))
whole_lawful setup asks before drawn few secrets stood fits askable =
    let later = draw_accepted setup asks before drawn secrets stood fits in
    let first : Lawful setup (history_after setup (with_act asks act.Close)) = subst (Lawful setup) (sym (closed setup asks before secrets stood))
    (is_taken setup (history_after setup asks) (length asks) act.Close (omega (arith, few, stood.count)) (record { codes = tt; counted = tt }) (close_accepted setup asks before secrets stood), stood.lawful) in
    subst (Lawful setup) (sym (goes_on setup (history_after setup (with_act asks act.Close)) (stamp_of (suc (length asks))) (act.Draw drawn) later))
    (is_taken setup (history_after setup (with_act asks act.Close)) (suc (length asks)) (act.Draw drawn) (omega (arith, few, stood.count)) askable later, first)

-- ALL ARE DONE

done_is : (setup : Setup) (history : List Entry) (stamp : Stamp) (done : Act) → accepts setup history stamp done ≡ true → is_done (answer_of setup history (ask.Do stamp done)) ≡ true
done_is setup history stamp done accepted = ap is_done (answered_done setup history stamp done accepted)

pub behind_done : (setup : Setup) (ballots before : ℕ) → setup.plan ≡ sample_plan ballots → setup.secrets ≡ sample_secret ∷ [] → ballots ≤ 9000 → before ≤ ballots
    → AreDone setup (ballot_asks setup before) × (length (history_after setup (ballot_asks setup before)) ≡ length (ballot_asks setup before))
unfolding ballot_asks
behind_done setup ballots zero plan secrets few within = (tt, refl)
behind_done setup ballots (suc before) plan secrets few within =
    by (ballot_act setup.plan setup.seed.0 (suc before)) refl (behind_done setup ballots before plan secrets few (omega (arith, within)))
  where
    by : (what : Option Act) → ballot_act setup.plan setup.seed.0 (suc before) ≡ what
        → AreDone setup (ballot_asks setup before) × (length (history_after setup (ballot_asks setup before)) ≡ length (ballot_asks setup before))
        → AreDone setup (option_map_or (with_act (ballot_asks setup before)) what (ballot_asks setup before))
        × (length (history_after setup (option_map_or (with_act (ballot_asks setup before)) what (ballot_asks setup before))) ≡ length (option_map_or (with_act (ballot_asks setup before)) what (ballot_asks setup before)))
    by None is old = old
    by (Some done) is old =
        let asks = ballot_asks setup before in
        let accepted = stood_accepts setup asks before done secrets (stood_behind setup ballots before plan secrets few (omega (arith, within)))
        (ballot_act_is setup ballots (suc before) done plan (omega arith) within few is) in (
          (done_is setup (history_after setup asks) (stamp_of (length asks)) done accepted, old.0),
          ap length (goes_on setup (history_after setup asks) (stamp_of (length asks)) done accepted) ∙ ap suc old.1,
        )

pub whole_done : (setup : Setup) (asks : List Ask) (before : ℕ) (drawn : Draw) → setup.secrets ≡ sample_secret ∷ [] → Stood setup asks before → is_draw drawn ≡ true → AreDone setup asks
    → AreDone setup (with_act (with_act asks act.Close) (act.Draw drawn))
whole_done setup asks before drawn secrets stood fits done = (
  done_is setup (history_after setup (with_act asks act.Close)) (stamp_of (suc (length asks))) (act.Draw drawn) (draw_accepted setup asks before drawn secrets stood fits),
  (done_is setup (history_after setup asks) (stamp_of (length asks)) act.Close (close_accepted setup asks before secrets stood), done),
)
