-- An office goes on standing for its history when an act is accepted.
use Rattle.std.proofs.Common.{◌≡◌, ◌≢◌, ℕ, ◌+◌, ◌-◌, ◌<◌, ◌≤◌, ◌==◌, nat_eq, Bool, true, false, cond, List, ◌∷◌, length, Some, refl, ap, sym, ◌∙◌, arith}
use Rattle.std.specs.List.{slice_get}
use Rattle.std.specs.Prelude.{slice_set}
use Rattle.std.proofs.lemmas.Bool.Decides.{nat_tests}
use Rattle.sg_lists.proofs.Lists.{slice_get-set_other, slice_get-set_same}
use Rattle.sg_plan.specs.Ballots.{ballots_of}
use Rattle.sg_plan.specs.declared.plan.Fate.{Fate}
use Rattle.sg_plan.specs.declared.plan.Fate.TheVariants as fate
use Rattle.sg_plan.specs.declared.plan.Mark.{Mark}
use Rattle.sg_keeper.specs.Rows.{done_before, put}
use Rattle.sg_acts.specs.declared.asks.Act.TheVariants as act
use Rattle.sg_keeper.specs.declared.setup.Setup.{Setup}
use Rattle.sg_histories.specs.declared.kept.Slot.{Slot}
use Rattle.sg_histories.specs.Histories.{Entry, claims_after, fate_of, scanner_of, stage_after}
use Rattle.sg_histories.specs.KeptRows.{done_row}
use Rattle.sg_histories.specs.Lawful.{IsAccepted}
use Rattle.sg_histories.specs.declared.kept.Kept.{Kept}
use Rattle.sg_histories.specs.Standing.{StandsFor, TellSlots, slot_of}

-- what an office keeps after an entry, with these slots
abbrev pub kept_after : Kept → Entry → List Slot → Kept
kept_after kept entry slots = record {
  setup = kept.setup;
  slots = slots;
  stage = stage_after entry.act kept.stage;
  claims = claims_after entry.act kept.claims;
  dones = put done_before (done_row kept.setup.plan.version entry) kept.dones;
}

pub goes_on : (kept : Kept) (history : List Entry) (entry : Entry) (slots : List Slot)
    → StandsFor kept history → IsAccepted kept.setup history entry → TellSlots kept.setup slots (entry ∷ history)
    → StandsFor (kept_after kept entry slots) (entry ∷ history)
goes_on kept history entry slots stands accepted told = record {
  lawful = (accepted, stands.lawful);
  slots = told;
  stage = ap (stage_after entry.act) stands.stage;
  claims = ap (claims_after entry.act) stands.claims;
  dones = λ text. ap (put done_before (done_row kept.setup.plan.version entry)) (stands.dones text);
}

abbrev pub told_slot : Fate → ℕ → Slot
told_slot told station = record { fate = told; station = station }

-- the slots after the slot of one ballot was set
pub tells_one : (setup : Setup) (slots : List Slot) (history : List Entry) (entry : Entry) (ballot : ℕ) (slot : Slot)
    → 1 ≤ ballot → length slots ≡ ballots_of setup.plan → TellSlots setup slots history
    → slot ≡ slot_of (entry ∷ history) ballot
    → ((other : ℕ) → ballot ≢ other → slot_of (entry ∷ history) other ≡ slot_of history other)
    → TellSlots setup (slice_set slots (ballot - 1) slot) (entry ∷ history)
tells_one setup slots history entry ballot slot first many told here apart place within = by_place (nat_eq place (ballot - 1)) refl
  where
    by_place : (b : Bool) → nat_eq place (ballot - 1) ≡ b → slice_get (slice_set slots (ballot - 1) slot) place ≡ Some (slot_of (entry ∷ history) (place + 1))
    by_place true e =
        let at : place ≡ ballot - 1 = grind (arith, nat_tests, e) in
        let to : place + 1 ≡ ballot = omega (arith, at, first) in
        let inside : ballot - 1 < length slots = rw many (omega (arith, at, within)) in
        rw (at) (slice_get-set_same slots (ballot - 1) slot inside) ∙ ap (λ s. Some s) (here ∙ ap (slot_of (entry ∷ history)) (sym to))
    by_place false e =
        let at : place ≢ ballot - 1 = grind (arith, nat_tests, e) in
        let to : ballot ≢ place + 1 = λ k. at (omega (arith, k)) in
        slice_get-set_other slots (ballot - 1) place slot at ∙ (told place within ∙ ap (λ s. Some s) (sym (apart (place + 1) to)))

-- what a scan does to the slots' meaning
pub scan_here : (history : List Entry) (station number ballot : ℕ) (marks : List Mark)
    → slot_of (record { station = station; number = number; act = act.Scan ballot marks } ∷ history) ballot ≡ record { fate = fate.Cast marks; station = station }
scan_here history station number ballot marks =
    let e : (ballot == ballot) ≡ true = grind (arith, nat_tests) in
    ap (λ b. record { fate = cond b (fate.Cast marks) (fate_of history ballot); station = cond b station (scanner_of history ballot) }) e

pub scan_else : (history : List Entry) (station number ballot : ℕ) (marks : List Mark) (other : ℕ) → ballot ≢ other
    → slot_of (record { station = station; number = number; act = act.Scan ballot marks } ∷ history) other ≡ slot_of history other
scan_else history station number ballot marks other h =
    let e : (ballot == other) ≡ false = grind (arith, nat_tests, h) in
    ap (λ b. record { fate = cond b (fate.Cast marks) (fate_of history other); station = cond b station (scanner_of history other) }) e

-- and an act that leaves the scanning station
pub told_here : (history : List Entry) (ballot : ℕ) (told : Fate)
    → told_slot (cond (ballot == ballot) told (fate_of history ballot)) (scanner_of history ballot) ≡ told_slot told (scanner_of history ballot)
told_here history ballot told =
    let e : (ballot == ballot) ≡ true = grind (arith, nat_tests) in
    ap (λ b. told_slot (cond b told (fate_of history ballot)) (scanner_of history ballot)) e

pub told_else : (history : List Entry) (ballot other : ℕ) (told : Fate) → ballot ≢ other
    → told_slot (cond (ballot == other) told (fate_of history other)) (scanner_of history other) ≡ slot_of history other
told_else history ballot other told h =
    let e : (ballot == other) ≡ false = grind (arith, nat_tests, h) in
    ap (λ b. told_slot (cond b told (fate_of history other)) (scanner_of history other)) e
