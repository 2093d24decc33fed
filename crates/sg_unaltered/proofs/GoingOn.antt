-- A history whose papers are true goes on to an unaltered one.
use Rattle.std.proofs.Common.{◌≡◌, ℕ, ◌<◌, true, false, List, [], ◌∷◌, length, map, get_or, slice_get, bytes_eq, None, refl, ap, ◌∙◌, subst}
use Rattle.std.specs.Option.{option_map_or}
use Rattle.std.proofs.lemmas.List.Elements.{All-cons, All-nil}
use Rattle.std.proofs.lemmas.Option.{slice_get-get_or}
use Rattle.std.proofs.lemmas.Slice.Eq.{bytes_eq-Decides}
use Rattle.sg_lists.proofs.Options.{cond_none}
use Rattle.sg_plan.specs.Limits.{fault_of, first_of}
use Rattle.sg_plan.specs.declared.plan.Draw.{Draw}
use Rattle.sg_plan.specs.declared.plan.Stage.TheVariants as stage
use Rattle.sg_acts.specs.declared.asks.Act.{Act}
use Rattle.sg_acts.specs.declared.asks.Act.TheVariants as act
use Rattle.sg_acts.specs.declared.asks.Ask.TheVariants as ask
use Rattle.sg_acts.specs.declared.asks.Stamp.{Stamp}
use Rattle.sg_acts.specs.declared.replies.Body.TheVariants as body
use Rattle.sg_acts.specs.declared.replies.Phase.{Phase}
use Rattle.sg_acts.specs.declared.replies.Phase.TheVariants as phase
use Rattle.sg_acts.specs.declared.replies.Reply.TheVariants as reply
use Rattle.sg_keeper.specs.declared.setup.Setup.{Setup}
use Rattle.sg_histories.proofs.Accepted.{next_early}
use Rattle.sg_histories.specs.Answers.{answer_of, body_of, close_refusal, draw_refusal, early_reply, entry_of, is_drawn, next_history, refusal_of, repeat_of, unless}
use Rattle.sg_histories.specs.Histories.{Entry, act_of_stamp, claims_of, fate_of, is_stamped}
use Rattle.sg_histories.specs.Lawful.{IsAskable, Lawful}
use Rattle.sg_histories.specs.Stories.{answered, told_fates}
use Rattle.sg_histories.specs.declared.kept.Claim.{Claim}
use Rattle.sg_histories.proofs.OutDones.{claims_fit}
use Rattle.sg_histories.proofs.Talks.{next_lawful}
use Rattle.sg_unaltered.specs.GoingOn.{ClosedHistoriesGoOn, ElectionsBegin, ElectionsEnd, HistoriesGoOn, IsDone, IsNewStamp, IsTrueHistory, closed_by, drawn_by}
use Rattle.sg_unaltered.specs.UnalteredHistories.{HasTruePaper, IsUnalteredHistory}
use Rattle.sg_unaltered.proofs.Accepting.{histories_are_accepted}
use Rattle.sg_unaltered.proofs.Numbers.{numbers_are_left}

-- AN ACT THAT IS DONE

-- an act under a new number repeats none
no_repeat : (setup : Setup) (history : List Entry) (stamp : Stamp) (asked : Act) → act_of_stamp history stamp.station stamp.number ≡ None → repeat_of setup history stamp asked ≡ None
no_repeat setup [] stamp asked none = refl
no_repeat setup (entry ∷ history) stamp asked none =
    let past = cond_none (is_stamped stamp.station stamp.number entry) entry.act (act_of_stamp history stamp.station stamp.number) none in
    rw past.0 (no_repeat setup history stamp asked past.1)

-- an act under a new stamp that is not refused is done
new_is_done : (setup : Setup) (history : List Entry) (stamp : Stamp) (asked : Act) → IsNewStamp setup history stamp → IsAskable setup asked
    → refusal_of setup history stamp.station asked ≡ None → IsDone setup history stamp asked (body_of setup history asked)
unfolding answer_of next_history
new_is_done setup history stamp asked new is none =
    let early : early_reply setup history stamp asked ≡ None = rw (new.secret, no_repeat setup history stamp asked new.unused, none) refl in
    record { comes = (new.number, is); answer = rw early refl; next = next_early setup history stamp asked ∙ (rw early refl) }

-- the history behind it is lawful
done_lawful : (setup : Setup) (history : List Entry) (stamp : Stamp) (asked : Act) → Lawful setup history → IsDone setup history stamp asked (body_of setup history asked) → Lawful setup (entry_of stamp asked ∷ history)
done_lawful setup history stamp asked lawful done = subst (Lawful setup) done.next (next_lawful setup history (ask.Do stamp asked) done.comes lawful)

-- THE CLOSE AND THE DRAW

closing_done : (setup : Setup) (history : List Entry) (closing : Stamp) → IsTrueHistory setup phase.Voting history → IsNewStamp setup history closing
    → IsDone setup history closing act.Close (body_of setup history act.Close)
closing_done setup history closing is new = new_is_done setup history closing act.Close new (record { codes = tt; counted = tt }) (ap close_refusal is.phase_is)

closed_true : (setup : Setup) (history : List Entry) (closing : Stamp) → IsTrueHistory setup phase.Voting history → IsNewStamp setup history closing
    → IsTrueHistory setup phase.Closed (closed_by history closing)
closed_true setup history closing is new = record {
  lawful = done_lawful setup history closing act.Close is.lawful (closing_done setup history closing is new);
  phase_is = refl;
  papers = All-cons (λ (entry : Entry). HasTruePaper setup entry.act) (entry_of closing act.Close) history tt is.papers;
}

-- no claim was taken before the draw
no_claims : (setup : Setup) (history : List Entry) → IsTrueHistory setup phase.Closed history → claims_of history ≡ []
no_claims setup history is = (claims_fit setup history is.lawful).early (ap is_drawn is.phase_is)

pub closed_histories_go_on : ClosedHistoriesGoOn
closed_histories_go_on setup history drawing drawn kept is new fits =
    let fates = told_fates setup.plan (fate_of history) in
    let none : refusal_of setup history drawing.station (act.Draw drawn) ≡ None = ap (λ (now : Phase). draw_refusal now drawn) is.phase_is ∙ ap (λ b. first_of (unless b reply.Draw ∷ [])) fits.0 in
    let draw = new_is_done setup history drawing (act.Draw drawn) new (record { codes = tt; counted = fits.1 }) none in
    let unaltered : IsUnalteredHistory setup (drawn_by history drawing drawn) = record {
      lawful = done_lawful setup history drawing (act.Draw drawn) is.lawful draw;
      drawn = refl;
      papers = All-cons (λ (entry : Entry). HasTruePaper setup entry.act) (entry_of drawing (act.Draw drawn)) history tt is.papers;
    } in
    record {
      draw = draw;
      unaltered = unaltered;
      story = ap (λ (claims : List Claim). record { fates = fates; stage = stage.Drawn drawn; claims = map (answered setup.plan setup.seed.0 (fate_of history)) claims }) (no_claims setup history is);
      yes = histories_are_accepted setup (drawn_by history drawing drawn) kept unaltered;
    }

pub histories_go_on : HistoriesGoOn
histories_go_on setup history closing drawing drawn kept is first second fits = record {
  close = closing_done setup history closing is first;
  fates = λ ballot. refl;
  draws = closed_histories_go_on setup (closed_by history closing) drawing drawn kept (closed_true setup history closing is first) second fits;
}

-- BY EACH STATION

-- a new stamp of a station
record HasStamp (setup : Setup) (history : List Entry) (station : ℕ) : Type 0 where
  pub stamp : Stamp
  pub station_is : stamp.station ≡ station
  pub new : IsNewStamp setup history stamp

-- a station knows its own secret
own_secret : (secrets : List (List ℕ)) (station : ℕ) → station < length secrets → option_map_or (λ secret. bytes_eq secret (get_or secrets station [])) (slice_get secrets station) false ≡ true
own_secret secrets station within = rw (slice_get-get_or secrets station [] within) ((bytes_eq-Decides (get_or secrets station []) (get_or secrets station [])).1 refl)

has_stamp : (setup : Setup) (history : List Entry) (station : ℕ) → fault_of setup.plan ≡ None → Lawful setup history → station < length setup.secrets → HasStamp setup history station
has_stamp setup history station kept lawful within =
    let left = numbers_are_left setup history station kept lawful in
    record {
      stamp = record { station = station; secret = get_or setup.secrets station []; number = left.0 };
      station_is = refl;
      new = record { secret = own_secret setup.secrets station within; number = left.1; unused = left.2 };
    }

pub elections_end : ElectionsEnd
elections_end setup history closer drawer drawn kept is here there fits =
    let first = has_stamp setup history closer kept is.lawful here in
    let closed = closed_true setup history first.stamp is first.new in
    let second = has_stamp setup (closed_by history first.stamp) drawer kept closed.lawful there in
    (first.stamp, second.stamp, first.station_is, second.station_is, histories_go_on setup history first.stamp second.stamp drawn kept is first.new second.new fits)

pub elections_begin : ElectionsBegin
elections_begin setup = record { lawful = tt; phase_is = refl; papers = All-nil (λ (entry : Entry). HasTruePaper setup entry.act) }
