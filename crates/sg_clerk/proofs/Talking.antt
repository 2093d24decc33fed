-- How a command ends that lets the kept office talk, from what was opened and how the talk ended.
use Rattle.std.proofs.Common.{◌≡◌, ℕ, ◌≤◌, List, refl, sym, ◌∙◌}
use Rattle.sg_keeper.specs.declared.rows.Rows.{Rows}
use Rattle.sg_keeper.specs.declared.setup.Setup.{Setup}
use Rattle.sg_histories.specs.Histories.{Entry}
use Rattle.sg_histories.specs.Standing.{StandsFor}
use Rattle.sg_histories.specs.declared.kept.Kept.{Kept}
use Rattle.sg_clerk.specs.Ends.{outcome_of}
use Rattle.sg_clerk.specs.Opening.{IsOfRows, IsOpen}
use Rattle.sg_clerk.specs.Talks.{Talked, Talks}
use Rattle.sg_clerk.specs.declared.ended.Ending.{Ending}
use Rattle.sg_clerk.proofs.Follows.{follows-from}

-- a talk behind an opening is one from before it
talked_from : {X : Type 0} (Talk : Setup → List X → List Entry → List Entry → Type 0) (stores : List X → ℕ) (Ends : Setup → List X → Type 0) (setup : Setup) (history : List Entry)
    (tells still : Type 0) (rows middle after : Rows) (faults count faults' : ℕ) → (tells → still) → (tells → middle ≡ rows) → faults ≤ count
    → Talked Talk stores Ends setup history still middle after count faults' → Talked Talk stores Ends setup history tells rows after faults faults'
talked_from Talk stores Ends setup history tells still rows middle after faults count faults' told same later talked = record {
  exchanges = talked.exchanges;
  next = talked.next;
  talk = talked.talk;
  keeper = follows-from setup history talked.next (stores talked.exchanges) tells still rows middle after faults count faults' told same later talked.keeper;
  ends = talked.ends;
}

-- behind an office that was opened
pub office_talks : {X : Type 0} (Talk : Setup → List X → List Entry → List Entry → Type 0) (stores : List X → ℕ) (Ends : Ending → Setup → List X → Type 0) (how : Ending) (kept : Kept)
    (tells still : Type 0) (rows middle after : Rows) (faults count faults' : ℕ) → IsOfRows kept tells rows → (tells → IsOpen kept rows) → (tells → still) → (tells → middle ≡ rows) → faults ≤ count
    → ((history : List Entry) → StandsFor kept history → Talked Talk stores (Ends how) kept.setup history still middle after count faults')
    → Talks Talk stores Ends (outcome_of how) tells rows after faults faults'
office_talks Talk stores Ends how kept tells still rows middle after faults count faults' starts opens told same later talks =
    let has = starts.1 in
    let from : (history : List Entry) → StandsFor kept history → Talked Talk stores (Ends how) kept.setup history tells rows after faults faults'
    = λ history stands. talked_from Talk stores (Ends how) kept.setup history tells still rows middle after faults count faults' told same later (talks history stands) in
    record {
      setup = kept.setup;
      how = how;
      result_is = refl;
      start = has.history;
      lawful = has.stands.lawful;
      from = λ was. (has.text, sym (starts.2 was) ∙ has.rows_are);
      does = from has.history has.stands;
      whole = λ was. (opens was).whole;
      each = λ was text history lawful is. from history ((opens was).each text history lawful is);
    }
