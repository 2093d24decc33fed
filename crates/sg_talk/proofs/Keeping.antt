-- What a talk keeps.
use Rattle.std.proofs.Common.{◌≡◌, ℕ, zero, suc, List, [], ◌∷◌, Option, Some, None, Result, Ok, Err, refl, sym, subst, ap, ◌∙◌, arith}
use Rattle.std.specs.Prelude.{Contains}
use Rattle.std.specs.Option.{option_map}
use Rattle.sg_acts.specs.declared.asks.Act.{Act}
use Rattle.sg_acts.specs.declared.asks.Ask.{Ask}
use Rattle.sg_acts.specs.declared.asks.Ask.TheVariants as ask
use Rattle.sg_acts.specs.declared.asks.Stamp.{Stamp}
use Rattle.sg_acts.specs.declared.replies.Body.{Body}
use Rattle.sg_acts.specs.declared.replies.Reply.{Reply}
use Rattle.sg_acts.specs.declared.replies.Reply.TheVariants as reply
use Rattle.sg_keeper.specs.declared.setup.Setup.{Setup}
use Rattle.sg_asks.specs.Asks.{asked}
use Rattle.sg_asks.specs.declared.asks.AskFault.{AskFault}
use Rattle.sg_talk.specs.declared.answered.Answered.{Answered}
use Rattle.sg_talk.specs.declared.answered.Answered.TheVariants as answered
use Rattle.sg_talk.specs.Talk.{Answers, Exchange}
use Rattle.sg_desks.specs.ActTexts.{act_text}
use Rattle.sg_histories.specs.Histories.{Entry, act_of_stamp}
use Rattle.sg_histories.specs.KeptRows.{rows_of}
use Rattle.sg_histories.specs.Lawful.{Lawful, Turn}
use Rattle.sg_histories.specs.Standing.{text_at}
use Rattle.sg_histories.proofs.DoneActs.{acts_stay, done_acts_are_kept}
use Rattle.sg_histories.proofs.Stamps.{rows_tell, stamps_stand_once}
use Rattle.sg_histories.proofs.Talks.{turns_stay_lawful}
use Rattle.sg_talk.specs.Laws.{GrowsTo, TalksKeep}
use Rattle.sg_talk.specs.Turns.{AskTurn}
use Rattle.sg_talk.proofs.Growing.{grows_on, turn_grows}

-- what stood in a history stands in the next one
abbrev pub Stays : List Entry → List Entry → Type 0
Stays history next = (station number : ℕ) (done : Act) → act_of_stamp history station number ≡ Some done → act_of_stamp next station number ≡ Some done

-- the text of an act stands in the rows at its station's number
abbrev pub IsAt : Setup → List Entry → Stamp → Act → Type 0
IsAt setup history stamp done = (text : List ℕ) → text_at stamp.station stamp.number (rows_of setup text history).dones ≡ Some (act_text setup.plan.version done)

-- what an answer to bytes keeps
pub record StepKeeps (setup : Setup) (bytes : List ℕ) (answer : Answered) (before after : List Entry) : Type 0 where
  pub lawful : Lawful setup after
  pub grows : GrowsTo before after
  pub stays : Stays before after
  pub done : (stamp : Stamp) (done : Act) (said : Body) → answer ≡ answered.Reply (reply.Done said) → asked setup.plan.version bytes ≡ Ok (ask.Do stamp done) → IsAt setup after stamp done

abbrev reply_in : Reply → Answered → Reply
reply_in other answered.NotJson = other
reply_in other answered.Shape = other
reply_in other (answered.Reply said) = said

abbrev ask_in : Ask → Result Ask AskFault → Ask
ask_in other (Ok asked) = asked
ask_in other (Err fault) = other

-- nothing changed, and nothing was done
still : (setup : Setup) (bytes : List ℕ) (answer : Answered) (before after : List Entry) → Lawful setup before → after ≡ before
    → ((said : Body) → answer ≡ answered.Reply (reply.Done said) → ⊥) → StepKeeps setup bytes answer before after
still setup bytes answer before after lawful same none = record {
  lawful = subst (Lawful setup) (sym same) lawful;
  grows = ([], same);
  stays = λ station number done is. subst (λ (h : List Entry). act_of_stamp h station number ≡ Some done) (sym same) is;
  done = λ stamp done said is asks. absurd (none said is);
}

pub step_keeps : (setup : Setup) (bytes : List ℕ) (answer : Answered) (before after : List Entry) → Lawful setup before
    → Answers (AskTurn setup) setup.plan.version bytes answer before after → StepKeeps setup bytes answer before after
step_keeps setup bytes answered.NotJson before after lawful answers = still setup bytes answered.NotJson before after lawful answers.1 (λ said is. cc)
step_keeps setup bytes answered.Shape before after lawful answers = still setup bytes answered.Shape before after lawful answers.1 (λ said is. cc)
step_keeps setup bytes (answered.Reply said) before after lawful answers =
    let was = answers.0 in
    let comes = answers.2.0 in
    let turn = answers.2.1 in
    record {
      lawful = turns_stay_lawful setup before was said after comes lawful turn;
      grows = turn_grows setup before was said after turn;
      stays = acts_stay setup before was said after turn;
      done = λ stamp done body is asks text.
          let reply_is : said ≡ reply.Done body = ap (reply_in said) is in
          let ask_is : was ≡ ask.Do stamp done = ap (ask_in was) (sym answers.1 ∙ asks) in
          done_acts_are_kept setup before stamp done body after text lawful
          (subst (λ (r : Reply). Turn setup before (ask.Do stamp done) r after) reply_is (subst (λ (a : Ask). Turn setup before a said after) ask_is turn));
    }

-- what is at a place in the rows of a history is still there in those of a later one
later_at : (setup : Setup) (history next : List Entry) (stamp : Stamp) (done : Act) → Lawful setup history → Lawful setup next → Stays history next → IsAt setup history stamp done → IsAt setup next stamp done
later_at setup history next stamp done lawful later stays is = λ text.
    at text (act_of_stamp history stamp.station stamp.number) refl (sym (rows_tell setup text history lawful stamp.station stamp.number) ∙ is text)
  where
    at : (text : List ℕ) (found : Option Act) → act_of_stamp history stamp.station stamp.number ≡ found
        → option_map (act_text setup.plan.version) (act_of_stamp history stamp.station stamp.number) ≡ Some (act_text setup.plan.version done)
        → text_at stamp.station stamp.number (rows_of setup text next).dones ≡ Some (act_text setup.plan.version done)
    at text None found e = absurd (nothing (rw found at e))
      where
        nothing : {A : Type 0} {x : A} → None ≡ Some x → ⊥
        nothing e = cc
    at text (Some kept) found e =
        rows_tell setup text next later stamp.station stamp.number
        ∙ (ap (option_map (act_text setup.plan.version)) (stays stamp.station stamp.number kept found) ∙ (ap (option_map (act_text setup.plan.version)) (sym found) ∙ e))

-- one of the others, or the first
contained : {A : Type 0} (x : A) (xs : List A) (y : A) (P : Type 0) → (x ≡ y → P) → (Contains xs y → P) → Contains (x ∷ xs) y → P
contained x xs y P first other (zero, within, is) = first is
contained x xs y P first other (suc k, within, is) = other (k, omega (arith, within), is)

pub talks_keep : TalksKeep
talks_keep setup [] history next lawful talk = record {
  lawful = subst (Lawful setup) (sym talk) lawful;
  grows = ([], talk);
  once = stamps_stand_once setup next (subst (Lawful setup) (sym talk) lawful);
  done = λ exchange stamp done said text among is asks. absurd (omega (arith, among.1));
  stays = λ station number done is. subst (λ (h : List Entry). act_of_stamp h station number ≡ Some done) (sym talk) is;
}
talks_keep setup (exchange ∷ exchanges) history next lawful talk =
    let middle = talk.0 in
    let step = step_keeps setup exchange.bytes exchange.answer history middle lawful talk.1 in
    let rest = talks_keep setup exchanges middle next step.lawful talk.2 in
    record {
      lawful = rest.lawful;
      grows = grows_on history middle next step.grows rest.grows;
      once = rest.once;
      done = λ other stamp done said text among is asks.
          contained exchange exchanges other (text_at stamp.station stamp.number (rows_of setup text next).dones ≡ Some (act_text setup.plan.version done))
          (λ same. later_at setup middle next stamp done step.lawful rest.lawful rest.stays
          (step.done stamp done said (ap (λ (e : Exchange). e.answer) same ∙ is) (ap (λ (e : Exchange). asked setup.plan.version e.bytes) same ∙ asks)) text)
          (λ others. rest.done other stamp done said text others is asks) among;
      stays = λ station number done is. rest.stays station number done (step.stays station number done is);
    }
