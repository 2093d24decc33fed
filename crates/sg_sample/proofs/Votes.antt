-- An office of a sample goes on from ballot to ballot, and to its end.
use Rattle.std.proofs.Common.{◌≡◌, ℕ, suc, ◌+◌, ◌<◌, ◌≤◌, true, List, [], length, Option, Some, None, refl, sym, subst, ap, ◌∙◌, add-one, arith}
use Rattle.std.specs.Option.{option_map_or}
use Rattle.sg_plan.specs.Ballots.{ballots_of}
use Rattle.sg_acts.specs.declared.asks.Act.{Act}
use Rattle.sg_acts.specs.declared.asks.Act.TheVariants as act
use Rattle.sg_acts.specs.declared.asks.Ask.{Ask}
use Rattle.sg_acts.specs.declared.asks.Ask.TheVariants as ask
use Rattle.sg_keeper.specs.declared.setup.Setup.{Setup}
use Rattle.sg_histories.specs.Answers.{accepts, next_history}
use Rattle.sg_histories.specs.HistoryLaws.{history_after}
use Rattle.sg_histories.specs.Lawful.{IsAskable}
use Rattle.sg_histories.specs.Standing.{StandsFor}
use Rattle.sg_histories.specs.declared.kept.Kept.{Kept}
use Rattle.sg_sample.specs.SampleRun.{ballot_act, ballot_asks, sample_draw, sample_history, sample_plan, sample_setup, with_act}
use Rattle.sg_sample.specs.inside.Voting.{GoesOn, IsTaken, IsVoted, stamp_of}
use Rattle.sg_sample.proofs.BallotActs.{IsBallotAct, ballot_act_is}
use Rattle.sg_sample.proofs.SamplePlan.{ballots_are}
use Rattle.sg_sample.proofs.SampleRuns.{draw_fits}
use Rattle.sg_sample.proofs.Voting.{Stood, close_accepted, draw_accepted, stood_accepts, stood_behind}

-- THE BALLOTS

stood_so : (kept : Kept) (number before ballots : ℕ) → before ≤ ballots → ballots ≤ 9000 → IsVoted kept number before ballots → Stood kept.setup (ballot_asks kept.setup before) before
stood_so kept number before ballots within few voted = stood_behind kept.setup ballots before voted.plan voted.secrets few within

-- the ballot is one of the plan
pub ballot_within : (kept : Kept) (number before ballots : ℕ) → before < ballots → IsVoted kept number before ballots → before + 1 ≤ ballots_of kept.setup.plan
ballot_within kept number before ballots within voted =
    let many : ballots_of kept.setup.plan ≡ ballots = ap ballots_of voted.plan ∙ ballots_are ballots in
    omega (arith, many, within)

-- so many acts there are at most
pub few_acts : (kept : Kept) (number before ballots : ℕ) → before ≤ ballots → ballots ≤ 9000 → IsVoted kept number before ballots → number ≤ 9000
few_acts kept number before ballots within few voted =
    let least = (stood_so kept number before ballots within few voted).count in
    omega (arith, least, voted.count, within, few)

next_act : (kept : Kept) (before ballots : ℕ) (done : Act) → before < ballots → ballots ≤ 9000 → kept.setup.plan ≡ sample_plan ballots
    → Some done ≡ ballot_act kept.setup.plan kept.setup.seed.0 (before + 1) → IsBallotAct kept.setup (suc before) done
next_act kept before ballots done within few plan is =
    ballot_act_is kept.setup ballots (suc before) done plan (omega arith) (omega (arith, within)) few (ap (ballot_act kept.setup.plan kept.setup.seed.0) (sym (add-one before)) ∙ sym is)

pub act_askable : (kept : Kept) (number before ballots : ℕ) (done : Act) → before < ballots → ballots ≤ 9000 → IsVoted kept number before ballots
    → Some done ≡ ballot_act kept.setup.plan kept.setup.seed.0 (before + 1) → IsAskable kept.setup done
act_askable kept number before ballots done within few voted is = (next_act kept before ballots done within few voted.plan is).askable

pub act_taken : (kept : Kept) (number before ballots : ℕ) (done : Act) → before < ballots → ballots ≤ 9000 → IsVoted kept number before ballots
    → Some done ≡ ballot_act kept.setup.plan kept.setup.seed.0 (before + 1) → IsTaken kept number done
act_taken kept number before ballots done within few voted is =
    let most = few_acts kept number before ballots (omega (arith, within)) few voted in
    record {
      number_is = omega (arith, most);
      history = history_after kept.setup (ballot_asks kept.setup before);
      stands = voted.stands;
      accepted = subst (λ (n : ℕ). accepts kept.setup (history_after kept.setup (ballot_asks kept.setup before)) (stamp_of n) done ≡ true) (sym voted.count)
          (stood_accepts kept.setup (ballot_asks kept.setup before) before done voted.secrets (stood_so kept number before ballots (omega (arith, within)) few voted)
          (next_act kept before ballots done within few voted.plan is));
    }

asks_next : (setup : Setup) (before : ℕ)
    → ballot_asks setup (before + 1) ≡ option_map_or (with_act (ballot_asks setup before)) (ballot_act setup.plan setup.seed.0 (before + 1)) (ballot_asks setup before)
unfolding ballot_asks
asks_next setup before = rw (add-one before) refl

-- with no act for the next ballot
pub voted_none : (kept : Kept) (number before ballots : ℕ) → IsVoted kept number before ballots → None ≡ ballot_act kept.setup.plan kept.setup.seed.0 (before + 1)
    → IsVoted kept number (before + 1) ballots
voted_none kept number before ballots voted is =
    let same : ballot_asks kept.setup (before + 1) ≡ ballot_asks kept.setup before
    = asks_next kept.setup before ∙ ap (λ (o : Option Act). option_map_or (with_act (ballot_asks kept.setup before)) o (ballot_asks kept.setup before)) (sym is) in
    record {
      plan = voted.plan;
      secrets = voted.secrets;
      stands = subst (λ (asks : List Ask). StandsFor kept (history_after kept.setup asks)) (sym same) voted.stands;
      count = voted.count ∙ ap length (sym same);
    }

-- an act was done
pub voted_some : (old new : Kept) (number before ballots : ℕ) (done : Act) → IsVoted old number before ballots → Some done ≡ ballot_act old.setup.plan old.setup.seed.0 (before + 1)
    → GoesOn old new number done → IsVoted new (number + 1) (before + 1) ballots
voted_some old new number before ballots done voted is goes =
    let setup = goes.setup_is in
    let asks = ballot_asks old.setup before in
    let more : ballot_asks old.setup (before + 1) ≡ with_act asks done
    = asks_next old.setup before ∙ ap (λ (o : Option Act). option_map_or (with_act asks) o asks) (sym is) in
    let stands : StandsFor new (history_after old.setup (with_act asks done))
    = subst (λ (n : ℕ). StandsFor new (next_history old.setup (history_after old.setup asks) (ask.Do (stamp_of n) done))) voted.count (goes.stands (history_after old.setup asks) voted.stands) in
    let back : StandsFor new (history_after old.setup (ballot_asks old.setup (before + 1))) = subst (λ (l : List Ask). StandsFor new (history_after old.setup l)) (sym more) stands in
    let count : length (ballot_asks old.setup (before + 1)) ≡ suc (length asks) = ap length more in
    record {
      plan = ap (λ (s : Setup). s.plan) setup ∙ voted.plan;
      secrets = ap (λ (s : Setup). s.secrets) setup ∙ voted.secrets;
      stands = subst (λ (s : Setup). StandsFor new (history_after s (ballot_asks s (before + 1)))) (sym setup) back;
      count = subst (λ (s : Setup). number + 1 ≡ length (ballot_asks s (before + 1))) (sym setup) (omega (arith, count, voted.count));
    }

-- at first
pub voted_nothing : (kept : Kept) (number ballots : ℕ) → kept.setup ≡ sample_setup number ballots → StandsFor kept [] → IsVoted kept 0 0 ballots
unfolding ballot_asks
voted_nothing kept number ballots setup stands = record {
  plan = ap (λ (s : Setup). s.plan) setup;
  secrets = ap (λ (s : Setup). s.secrets) setup;
  stands = stands;
  count = refl;
}

-- THE END

pub close_taken : (kept : Kept) (number ballots : ℕ) → ballots ≤ 9000 → IsVoted kept number ballots ballots → IsTaken kept number act.Close
close_taken kept number ballots few voted =
    let most = few_acts kept number ballots ballots (omega arith) few voted in
    record {
      number_is = omega (arith, most);
      history = history_after kept.setup (ballot_asks kept.setup ballots);
      stands = voted.stands;
      accepted = subst (λ (n : ℕ). accepts kept.setup (history_after kept.setup (ballot_asks kept.setup ballots)) (stamp_of n) act.Close ≡ true) (sym voted.count)
          (close_accepted kept.setup (ballot_asks kept.setup ballots) ballots voted.secrets (stood_so kept number ballots ballots (omega arith) few voted));
    }

closed_stands : (old new : Kept) (number ballots : ℕ) → IsVoted old number ballots ballots → GoesOn old new number act.Close
    → StandsFor new (history_after old.setup (with_act (ballot_asks old.setup ballots) act.Close))
closed_stands old new number ballots voted goes =
    subst (λ (n : ℕ). StandsFor new (next_history old.setup (history_after old.setup (ballot_asks old.setup ballots)) (ask.Do (stamp_of n) act.Close))) voted.count
    (goes.stands (history_after old.setup (ballot_asks old.setup ballots)) voted.stands)

pub draw_taken : (old new : Kept) (number seed ballots : ℕ) → ballots ≤ 9000 → IsVoted old number ballots ballots → GoesOn old new number act.Close
    → IsTaken new (number + 1) (act.Draw (sample_draw seed))
draw_taken old new number seed ballots few voted goes =
    let setup = goes.setup_is in
    let most = few_acts old number ballots ballots (omega arith) few voted in
    let asks = ballot_asks old.setup ballots in
    let next : suc (length asks) ≡ number + 1 = omega (arith, voted.count) in
    let accepted : accepts old.setup (history_after old.setup (with_act asks act.Close)) (stamp_of (number + 1)) (act.Draw (sample_draw seed)) ≡ true
    = subst (λ (n : ℕ). accepts old.setup (history_after old.setup (with_act asks act.Close)) (stamp_of n) (act.Draw (sample_draw seed)) ≡ true) next
    (draw_accepted old.setup asks ballots (sample_draw seed) voted.secrets (stood_so old number ballots ballots (omega arith) few voted) (draw_fits seed)) in
    record {
      number_is = omega (arith, most);
      history = history_after old.setup (with_act asks act.Close);
      stands = closed_stands old new number ballots voted goes;
      accepted = subst (λ (s : Setup). accepts s (history_after old.setup (with_act asks act.Close)) (stamp_of (number + 1)) (act.Draw (sample_draw seed)) ≡ true) (sym setup) accepted;
    }

pub ended_stands : (old mid new : Kept) (number seed ballots : ℕ) → old.setup ≡ sample_setup seed ballots → IsVoted old number ballots ballots
    → GoesOn old mid number act.Close → GoesOn mid new (number + 1) (act.Draw (sample_draw seed)) → StandsFor new (sample_history seed ballots)
unfolding sample_history
ended_stands old mid new number seed ballots setup voted closes draws =
    let same = closes.setup_is in
    let asks = ballot_asks old.setup ballots in
    let next : number + 1 ≡ suc (length asks) = omega (arith, voted.count) in
    let far : StandsFor new (next_history mid.setup (history_after old.setup (with_act asks act.Close)) (ask.Do (stamp_of (number + 1)) (act.Draw (sample_draw seed))))
    = draws.stands (history_after old.setup (with_act asks act.Close)) (closed_stands old mid number ballots voted closes) in
    let near : StandsFor new (next_history old.setup (history_after old.setup (with_act asks act.Close)) (ask.Do (stamp_of (number + 1)) (act.Draw (sample_draw seed))))
    = subst (λ (s : Setup). StandsFor new (next_history s (history_after old.setup (with_act asks act.Close)) (ask.Do (stamp_of (number + 1)) (act.Draw (sample_draw seed))))) same far in
    let whole : StandsFor new (history_after old.setup (with_act (with_act asks act.Close) (act.Draw (sample_draw seed))))
    = subst (λ (n : ℕ). StandsFor new (next_history old.setup (history_after old.setup (with_act asks act.Close)) (ask.Do (stamp_of n) (act.Draw (sample_draw seed))))) next near in
    subst (λ (s : Setup). StandsFor new (history_after s (with_act (with_act (ballot_asks s ballots) act.Close) (act.Draw (sample_draw seed))))) setup whole
