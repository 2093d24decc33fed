-- How `serve` ends, from what was opened and how the run over the connections ended.
use Rattle.std.proofs.Common.{◌≡◌, ℕ, ◌≤◌, List, inl, inr, ap, sym, subst, ◌∙◌}
use Rattle.std.specs.Prelude.{◌⊎◌, Option}
use Rattle.sg_outside.specs.Streams.{Seen}
use Rattle.sg_outside.specs.declared.outcome.Outcome.{Outcome}
use Rattle.sg_outside.specs.declared.outcome.Outcome.TheVariants as outcome
use Rattle.sg_keeper.specs.declared.rows.Rows.{Rows}
use Rattle.sg_histories.specs.declared.kept.Kept.{Kept}
use Rattle.sg_clerk.specs.Outside.{Outside, output_at}
use Rattle.sg_clerk.specs.Ends.{outcome_of}
use Rattle.sg_clerk.specs.Opening.{IsOfRows, IsOpen}
use Rattle.sg_clerk.specs.Talks.{ClosedSays}
use Rattle.sg_clerk.specs.declared.ended.Ending.{Ending}
use Rattle.sg_clerk.specs.declared.ended.Ending.TheVariants as ending
use Rattle.sg_clerk.proofs.Talking.{office_talks}
use Rattle.sg_clerk.specs.calls.Calls.{AreServed, Call, stores_in}
use Rattle.sg_clerk.specs.calls.Says.{ServeSays}
use Rattle.sg_clerk.specs.calls.Serves.{CallsEnd, EndsSo, ServesPort, StaysShut, listening}

-- a scene with another count of the keeper's faults
abbrev pub at_count : Outside → ℕ → Outside
at_count scene faults = record scene { keep_faults = faults }

-- nothing was written
unwritten : (before now : Outside) → now.written ≡ before.written → now.write_faults ≡ before.write_faults → output_at now ≡ output_at before
unwritten before now written faults =
    let at_bytes : Option (List ℕ) → Seen = λ bytes. record { bytes = bytes; faults = now.write_faults } in
    let at_faults : ℕ → Seen = λ count. record { bytes = before.written; faults = count } in
    ap at_bytes written ∙ ap at_faults faults

-- behind an office, where no port was listened on
shut_says : (how : Ending) (kept : Kept) (port count : ℕ) (tells still : Type 0) (rows middle after : Rows) (before now : Outside) (faults : ℕ)
    → (tells → IsOpen kept rows) → (tells → still) → (tells → middle ≡ rows)
    → StaysShut how still middle after (at_count before faults) now → ServeSays (outcome_of how) port count tells rows after before now
shut_says how kept port count tells still rows middle after before now faults opens told same shut =
    let quiet = unwritten before now shut.written shut.write_faults in
    let wanted = λ (result : Outcome). ClosedSays result tells rows before.keep_faults now.keep_faults (output_at before) (output_at now) in
    elim shut.cause [
      | inl memory ↦ inr (inr (record {
        unasked = (shut.board, memory.1);
        same = λ was. shut.rows_are (told was) ∙ same was;
        says = subst wanted (sym (ap outcome_of memory.0)) quiet;
      }))
      | inr links ↦ inr (inl (
        ap outcome_of links.0,
        record {
          setup = kept.setup;
          whole = λ was. (opens was).whole;
          cause = links.1;
          board = shut.board;
          same = λ was. shut.rows_are (told was) ∙ same was;
          unwritten = quiet;
        },
      ))
    ]

-- behind an office that was opened
pub office_serves : (how : Ending) (kept : Kept) (port count : ℕ) (tells still : Type 0) (rows middle after : Rows) (before now : Outside) (faults : ℕ)
    → IsOfRows kept tells rows → (tells → IsOpen kept rows) → (tells → still) → (tells → middle ≡ rows) → before.keep_faults ≤ faults
    → ServesPort how kept port count still middle after (at_count before faults) now → ServeSays (outcome_of how) port count tells rows after before now
office_serves how kept port count tells still rows middle after before now faults starts opens told same later (inl talks) =
    inl (office_talks AreServed stores_in (CallsEnd count (listening port before) now) how kept tells still rows middle after before.keep_faults faults now.keep_faults starts opens told same later talks)
office_serves how kept port count tells still rows middle after before now faults starts opens told same later (inr shut) =
    shut_says how kept port count tells still rows middle after before now faults opens told same shut

-- BEHIND AN OFFICE, NO OUTCOME SAYS THAT NONE WAS OPENED

-- the outcomes that say so
abbrev pub SaysClosed : Outcome → Type 0
SaysClosed result = (result ≡ outcome.KeeperFailed) ⊎ (result ≡ outcome.Refused) ⊎ (result ≡ outcome.Damaged)

-- the others
abbrev IsAnother : Outcome → Type 0
IsAnother outcome.KeeperFailed = ⊥
IsAnother outcome.Refused = ⊥
IsAnother outcome.Damaged = ⊥
IsAnother _ = Unit {0}

is_another : (result : Outcome) → IsAnother result → SaysClosed result → ⊥
is_another result other (inl is) = subst IsAnother is other
is_another result other (inr (inl is)) = subst IsAnother is other
is_another result other (inr (inr is)) = subst IsAnother is other

-- a run over connections refuses nothing
refuses_none : (how : Ending) (count : ℕ) (calls : List Call) (written written' : Option (List ℕ)) → EndsSo how count calls written written' → IsAnother (outcome_of how)
refuses_none ending.Done count calls written written' ends = tt
refuses_none ending.ReadFault count calls written written' ends = absurd ends
refuses_none (ending.WriteFault due) count calls written written' ends = tt
refuses_none ending.LinkFault count calls written written' ends = tt
refuses_none (ending.Refused why) count calls written written' ends = absurd ends
refuses_none ending.NoMemory count calls written written' ends = tt

pub never_closed : (how : Ending) (kept : Kept) (port count : ℕ) (tells still : Type 0) (rows middle after : Rows) (before now : Outside)
    → IsOfRows kept tells rows → ServesPort how kept port count still middle after before now → SaysClosed (outcome_of how) → ⊥
never_closed how kept port count tells still rows middle after before now starts (inl talks) =
    let has = starts.1 in
    let served = talks has.history has.stands in
    is_another (outcome_of how) (refuses_none how count served.exchanges before.written now.written served.ends.ends)
never_closed how kept port count tells still rows middle after before now starts (inr shut) =
    is_another (outcome_of how) (elim shut.cause [
      | inl memory ↦ subst (λ (h : Ending). IsAnother (outcome_of h)) (sym memory.0) tt
      | inr links ↦ subst (λ (h : Ending). IsAnother (outcome_of h)) (sym links.0) tt
    ])
