-- Each election that runs goes on to an unaltered history, by its close and by whatever draw fits (this project's rules for
-- the office). So what is promised of unaltered histories is promised of every election whose papers are true.
use Rattle.std.specs.Prelude.{◌≡◌, ◌⊎◌, ℕ, ◌<◌, ◌^◌, true, List, [], ◌∷◌, length, All, None}
use Rattle.sg_outside.specs.TextLines.{lines_of}
use Rattle.sg_plan.specs.Limits.{fault_of}
use Rattle.sg_plan.specs.declared.plan.Draw.{Draw}
use Rattle.sg_plan.specs.declared.plan.Stage.TheVariants as stage
use Rattle.sg_keeper.specs.SetupText.{IsMadeOfBytes, IsSetup}
use Rattle.sg_acts.specs.declared.asks.Act.{Act}
use Rattle.sg_acts.specs.declared.asks.Act.TheVariants as act
use Rattle.sg_acts.specs.declared.asks.Ask.TheVariants as ask
use Rattle.sg_acts.specs.declared.asks.Stamp.{Stamp}
use Rattle.sg_acts.specs.declared.replies.Body.{Body}
use Rattle.sg_acts.specs.declared.replies.Body.TheVariants as body
use Rattle.sg_acts.specs.declared.replies.Phase.{Phase}
use Rattle.sg_acts.specs.declared.replies.Phase.TheVariants as phase
use Rattle.sg_acts.specs.declared.replies.Reply.TheVariants as reply
use Rattle.sg_keeper.specs.declared.setup.Setup.{Setup}
use Rattle.sg_check.specs.Verdict.{IsVerdict}
use Rattle.sg_check.specs.declared.judged.Judged.TheVariants as judged
use Rattle.sg_post.specs.Posted.{posted_text}
use Rattle.sg_accepted.specs.Totals.{told_totals}
use Rattle.sg_histories.specs.Answers.{answer_of, entry_of, knows_secret_of, next_history}
use Rattle.sg_record.specs.Formed.{is_draw}
use Rattle.sg_histories.specs.Histories.{Entry, act_of_stamp, fate_of, phase_of}
use Rattle.sg_histories.specs.Lawful.{IsCounted, Lawful}
use Rattle.sg_histories.specs.Standing.{IsAsk}
use Rattle.sg_histories.specs.Stories.{story_of, told_fates}
use Rattle.sg_unaltered.specs.UnalteredHistories.{HasTruePaper, IsUnalteredHistory}

-- ELECTIONS THAT RUN

-- the history is lawful and in this phase, and each paper that was read is that of its ballot
pub record IsTrueHistory (setup : Setup) (now : Phase) (history : List Entry) : Type 0 where
  pub lawful : Lawful setup history
  pub phase_is : phase_of history ≡ now
  pub papers : All (λ (entry : Entry). HasTruePaper setup entry.act) history

-- the stamp is of one of the stations, with its own secret, and no act has its number yet
pub record IsNewStamp (setup : Setup) (history : List Entry) (stamp : Stamp) : Type 0 where
  pub secret : knows_secret_of setup.secrets stamp ≡ true
  pub number : stamp.number < 2 ^ 32
  pub unused : act_of_stamp history stamp.station stamp.number ≡ None

-- a draw that fits: full, or by 1 to 4,096 public bytes
abbrev pub IsFittingDraw : Draw → Type 0
IsFittingDraw drawn = (is_draw drawn ≡ true) × IsCounted (act.Draw drawn)

-- the office does the act: it can come, it is answered `Done` with this body, and the next history has it in front
pub record IsDone (setup : Setup) (history : List Entry) (stamp : Stamp) (asked : Act) (said : Body) : Type 0 where
  pub comes : IsAsk setup (ask.Do stamp asked)
  pub answer : answer_of setup history (ask.Do stamp asked) ≡ reply.Done said
  pub next : next_history setup history (ask.Do stamp asked) ≡ entry_of stamp asked ∷ history

-- HOW THEY GO ON

-- the history behind a close
abbrev pub closed_by : List Entry → Stamp → List Entry
closed_by history closing = entry_of closing act.Close ∷ history

-- the history behind a draw
abbrev pub drawn_by : List Entry → Stamp → Draw → List Entry
drawn_by history drawing drawn = entry_of drawing (act.Draw drawn) ∷ history

-- The draw is done, and the history behind it is unaltered. Its story has the fates that the ballots had, this draw and no
-- claim; and the verdict on what is posted of it is yes, with the totals of those fates.
pub record DrawsUnaltered (setup : Setup) (history : List Entry) (drawing : Stamp) (drawn : Draw) : Type 0 where
  pub draw : IsDone setup history drawing (act.Draw drawn) body.Drawn
  pub unaltered : IsUnalteredHistory setup (drawn_by history drawing drawn)
  pub story : story_of setup (drawn_by history drawing drawn) ≡ record { fates = told_fates setup.plan (fate_of history); stage = stage.Drawn drawn; claims = [] }
  pub yes : IsVerdict (lines_of (posted_text setup.plan setup.seed.0 (story_of setup (drawn_by history drawing drawn)))) (judged.Yes (told_totals setup.plan setup.seed.0 (told_fates setup.plan (fate_of history))))

-- the close is done and changes no fate, and then the draw is done so
pub record EndsUnaltered (setup : Setup) (history : List Entry) (closing drawing : Stamp) (drawn : Draw) : Type 0 where
  pub close : IsDone setup history closing act.Close body.Closed
  pub fates : (ballot : ℕ) → fate_of (closed_by history closing) ballot ≡ fate_of history ballot
  pub draws : DrawsUnaltered setup (closed_by history closing) drawing drawn

-- a history in voting ends so, whichever stations close and draw, under whichever numbers that they have not used, and
-- whatever fitting draw it is
abbrev pub HistoriesGoOn : Type 0
HistoriesGoOn = (setup : Setup) (history : List Entry) (closing drawing : Stamp) (drawn : Draw) → fault_of setup.plan ≡ None → IsTrueHistory setup phase.Voting history
    → IsNewStamp setup history closing → IsNewStamp setup (closed_by history closing) drawing → IsFittingDraw drawn → EndsUnaltered setup history closing drawing drawn

-- and one that is closed by its draw
abbrev pub ClosedHistoriesGoOn : Type 0
ClosedHistoriesGoOn = (setup : Setup) (history : List Entry) (drawing : Stamp) (drawn : Draw) → fault_of setup.plan ≡ None → IsTrueHistory setup phase.Closed history
    → IsNewStamp setup history drawing → IsFittingDraw drawn → DrawsUnaltered setup history drawing drawn

-- NOTHING IS EMPTY

-- in each lawful history each station has a number left
abbrev pub NumbersAreLeft : Type 0
NumbersAreLeft = (setup : Setup) (history : List Entry) (station : ℕ) → fault_of setup.plan ≡ None → Lawful setup history
    → (number : ℕ) × (number < 2 ^ 32) × (act_of_stamp history station number ≡ None)

-- so each history in voting does end so, by whichever of its stations
abbrev pub ElectionsEnd : Type 0
ElectionsEnd = (setup : Setup) (history : List Entry) (closer drawer : ℕ) (drawn : Draw) → fault_of setup.plan ≡ None → IsTrueHistory setup phase.Voting history
    → closer < length setup.secrets → drawer < length setup.secrets → IsFittingDraw drawn
    → (closing drawing : Stamp) × (closing.station ≡ closer) × (drawing.station ≡ drawer) × EndsUnaltered setup history closing drawing drawn

-- the history with no act is one in voting, of each setup
abbrev pub ElectionsBegin : Type 0
ElectionsBegin = (setup : Setup) → IsTrueHistory setup phase.Voting []

-- and there is a setup of each version
abbrev pub SetupsAreThere : Type 0
SetupsAreThere = (version : ℕ) → (version ≡ 1) ⊎ (version ≡ 2) → (setup : Setup) × (setup.plan.version ≡ version) × IsSetup setup × IsMadeOfBytes setup
