-- An office of a sample, in the midst of its acts.
use Rattle.std.specs.Prelude.{◌≡◌, ℕ, ◌<◌, ◌^◌, true, List, [], ◌∷◌, length}
use Rattle.sg_acts.specs.declared.asks.Act.{Act}
use Rattle.sg_acts.specs.declared.asks.Ask.TheVariants as ask
use Rattle.sg_acts.specs.declared.asks.Stamp.{Stamp}
use Rattle.sg_histories.specs.Answers.{accepts, next_history}
use Rattle.sg_histories.specs.Histories.{Entry}
use Rattle.sg_histories.specs.HistoryLaws.{history_after}
use Rattle.sg_histories.specs.Standing.{StandsFor}
use Rattle.sg_histories.specs.declared.kept.Kept.{Kept}
use Rattle.sg_sample.specs.SampleRun.{ballot_asks, sample_plan, sample_secret}

-- the stamp of the one station
abbrev pub stamp_of : ℕ → Stamp
stamp_of number = record { station = 0; secret = sample_secret; number = number }

-- the office stands for a history after which the act is new and accepted
pub record IsTaken (kept : Kept) (number : ℕ) (done : Act) : Type 0 where
  pub number_is : number < 2 ^ 32
  pub history : List Entry
  pub stands : StandsFor kept history
  pub accepted : accepts kept.setup history (stamp_of number) done ≡ true

-- what it stands for once the act was done
pub record GoesOn (old new : Kept) (number : ℕ) (done : Act) : Type 0 where
  pub setup_is : new.setup ≡ old.setup
  pub stands : (history : List Entry) → StandsFor old history → StandsFor new (next_history old.setup history (ask.Do (stamp_of number) done))

-- the office stands for the history behind the acts of so many ballots, and there are so many of them
pub record IsVoted (kept : Kept) (number before ballots : ℕ) : Type 0 where
  pub plan : kept.setup.plan ≡ sample_plan ballots
  pub secrets : kept.setup.secrets ≡ sample_secret ∷ []
  pub stands : StandsFor kept (history_after kept.setup (ballot_asks kept.setup before))
  pub count : number ≡ length (ballot_asks kept.setup before)
