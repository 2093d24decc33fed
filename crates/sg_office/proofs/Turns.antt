-- A call of the office is a turn of the talk.
use Rattle.std.proofs.Common.{◌≡◌, ◌≢◌, ℕ, ◌-◌, ◌<◌, ◌≤◌, ◌^◌, true, cond, List, [], ◌∷◌, length, unwrap_or, Some, None, is_none, refl, ap, sym, ◌∙◌, arith, subst}
use Rattle.std.specs.Prelude.{slice_set}
use Rattle.std.proofs.lemmas.Bool.Decides.{nat_tests}
use Rattle.sg_plan.specs.Ballots.{ballots_of}
use Rattle.sg_plan.specs.declared.plan.Fate.TheVariants as fate
use Rattle.sg_keeper.specs.Rows.{IsNewChange, done_is, is_new, with_change}
use Rattle.sg_acts.specs.declared.asks.Act.{Act}
use Rattle.sg_acts.specs.declared.asks.Act.TheVariants as act
use Rattle.sg_acts.specs.declared.asks.Ask.TheVariants as ask
use Rattle.sg_acts.specs.declared.asks.Look.{Look}
use Rattle.sg_acts.specs.declared.asks.Stamp.{Stamp}
use Rattle.sg_acts.specs.declared.replies.Body.{Body}
use Rattle.sg_acts.specs.declared.replies.Reply.{Reply}
use Rattle.sg_acts.specs.declared.replies.Reply.TheVariants as reply
use Rattle.sg_keeper.specs.declared.rows.Change.{Change}
use Rattle.sg_keeper.specs.declared.rows.DoneRow.{DoneRow}
use Rattle.sg_keeper.specs.declared.rows.Rows.{Rows}
use Rattle.sg_keeper.specs.declared.setup.Setup.{Setup}
use Rattle.sg_histories.specs.declared.kept.Slot.{Slot}
use Rattle.sg_office.specs.declared.ready.Part.{Part}
use Rattle.sg_office.specs.declared.ready.Part.TheVariants as part
use Rattle.sg_office.specs.declared.ready.Ready.{Ready}
use Rattle.sg_histories.specs.Answers.{accepts, answer_of, body_of, body_with, early_reply, entry_of, is_ballot, look_reply, next_history, refusal_of}
use Rattle.sg_histories.specs.Histories.{Entry, claims_of, fate_of, fate_word, phase_of, phase_word, scanner_of}
use Rattle.sg_histories.specs.KeptRows.{change_of, done_row, rows_of}
use Rattle.sg_histories.specs.Lawful.{IsAccepted, IsAskable}
use Rattle.sg_histories.specs.Lawful.Turn.{Answered}
use Rattle.sg_office.specs.inside.Now.{fate_at, scanner_at}
use Rattle.sg_office.specs.inside.Ready.{Allows, FitsPart, IsReady, act_change, part_of, with_part}
use Rattle.sg_histories.specs.declared.kept.Kept.{Kept}
use Rattle.sg_histories.specs.Standing.{IsOffice, StandsFor, Turned, slot_of}
use Rattle.sg_histories.proofs.Accepted.{early, first_none, next_early, none_early, passed, voids}
use Rattle.sg_histories.proofs.OutDones.{claims_fit}
use Rattle.sg_office.proofs.Fits.{accepted_fits}
use Rattle.sg_office.proofs.NewKeys.{new_change}
use Rattle.sg_office.proofs.NowTold.{body_told, look_told, scanner_told}
use Rattle.sg_office.proofs.Stands.{goes_on, kept_after, scan_else, scan_here, tells_one, told_else, told_here, told_slot}

-- a refusal changes nothing
pub stay_early : (kept : Kept) (tells : Type 0) (rows after : Rows) (stamp : Stamp) (done : Act) (answer : Reply) (history : List Entry) → StandsFor kept history → (tells → after ≡ rows)
    → Some answer ≡ early_reply kept.setup history stamp done
    → Turned kept kept tells rows after (ask.Do stamp done) answer history
unfolding answer_of next_history
stay_early kept tells rows after stamp done answer history stands same told = record {
  next = history;
  turn = Answered says stays;
  setup = refl;
  stands = stands;
  kept = λ t text e. same t ∙ e;
}
  where
    says : answer ≡ answer_of kept.setup history (ask.Do stamp done)
    says = ap (λ o. unwrap_or o (reply.Done (body_of kept.setup history done))) told

    stays : history ≡ next_history kept.setup history (ask.Do stamp done)
    stays = ap (λ o. cond (is_none o) (entry_of stamp done ∷ history) history) told ∙ sym (next_early kept.setup history stamp done)

-- a look changes nothing
pub stay_look : (kept : Kept) (tells : Type 0) (rows after : Rows) (seen : Look) (answer : Reply) (history : List Entry) → StandsFor kept history → (tells → after ≡ rows)
    → answer ≡ look_reply kept.setup (phase_word kept.stage) (fate_at kept.slots) seen
    → Turned kept kept tells rows after (ask.See seen) answer history
unfolding answer_of next_history
stay_look kept tells rows after seen answer history stands same is = record {
  next = history;
  turn = Answered (is ∙ look_told kept history seen stands) refl;
  setup = refl;
  stands = stands;
  kept = λ t text e. same t ∙ e;
}

-- an act was kept
pub kept_turn : (kept new : Kept) (tells : Type 0) (rows after : Rows) (stamp : Stamp) (done : Act) (change : Change) (history : List Entry)
    → StandsFor kept history → accepts kept.setup history stamp done ≡ true
    → new.setup ≡ kept.setup → StandsFor new (entry_of stamp done ∷ history)
    → (tells → IsNewChange rows change → after ≡ with_change rows change) → change ≡ change_of kept.setup history (entry_of stamp done)
    → Turned kept new tells rows after (ask.Do stamp done) (reply.Done (body_of kept.setup history done)) history
unfolding answer_of next_history
kept_turn kept new tells rows after stamp done change history stands accepted setup_is goes_on added is = record {
  next = entry_of stamp done ∷ history;
  turn = Answered says goes;
  setup = setup_is;
  stands = goes_on;
  kept = λ t text e. added t (fresh text e) ∙ (ap (λ r. with_change r change) e ∙ ap (with_change (rows_of kept.setup text history)) is);
}
  where
    fresh : (text : List ℕ) → rows ≡ rows_of kept.setup text history → IsNewChange rows change
    fresh text e = subst (λ (r : Rows). IsNewChange r change) (sym e)
        (subst (IsNewChange (rows_of kept.setup text history)) (sym is) (new_change kept.setup text history stamp done stands.lawful accepted))

    free : early_reply kept.setup history stamp done ≡ None
    free = none_early kept.setup history stamp done accepted

    says : reply.Done (body_of kept.setup history done) ≡ answer_of kept.setup history (ask.Do stamp done)
    says = sym (ap (λ o. unwrap_or o (reply.Done (body_of kept.setup history done))) free)

    goes : (entry_of stamp done ∷ history) ≡ next_history kept.setup history (ask.Do stamp done)
    goes = sym (next_early kept.setup history stamp done ∙ ap (λ o. cond (is_none o) (entry_of stamp done ∷ history) history) free)

accepted_is : (setup : Setup) (history : List Entry) (stamp : Stamp) (done : Act) → stamp.number < 2 ^ 32 → IsAskable setup done → accepts setup history stamp done ≡ true → IsAccepted setup history (entry_of stamp done)
accepted_is setup history stamp done few is accepted = record { stamp = stamp; is = refl; number = few; act_is = is; accepted = accepted }

-- THE PARTS

-- what an act changes is of a ballot of the plan
pub part_fits : (setup : Setup) (history : List Entry) (stamp : Stamp) (slots : List Slot) (done : Act) → accepts setup history stamp done ≡ true → FitsPart setup.plan (part_of slots stamp.station done)
part_fits setup history stamp slots asked accepted = by_act asked (passed setup history stamp asked accepted).refusal
  where
    inside : (ballot : ℕ) → is_ballot setup.plan ballot ≡ true → (1 ≤ ballot) × (ballot ≤ ballots_of setup.plan)
    inside ballot e = (grind (arith, nat_tests, e), grind (arith, nat_tests, e))

    unused : (ballot : ℕ) → refusal_of setup history stamp.station (act.Spoil ballot) ≡ None → is_ballot setup.plan ballot ≡ true
    unused ballot e = (early setup.plan (phase_of history) (fate_word (fate_of history ballot)) ballot e).ballot_is

    by_act : (done : Act) → refusal_of setup history stamp.station done ≡ None → FitsPart setup.plan (part_of slots stamp.station done)
    by_act (act.Scan ballot marks) e = inside ballot (unused ballot (first_none _ _ e).0)
    by_act (act.Spoil ballot) e = inside ballot (unused ballot e)
    by_act (act.Audit ballot paper) e = inside ballot (unused ballot (first_none _ _ e).0)
    by_act act.Close e = tt
    by_act (act.Draw drawn) e = tt
    by_act (act.Claim ballot race code) e = tt
    by_act (act.Void ballot) e = inside ballot (voids setup.plan (phase_of history) (fate_word (fate_of history ballot)) (scanner_of history ballot) stamp.station ballot e).ballot_is

-- an act on a ballot sets its slot
slot_stands : (kept : Kept) (history : List Entry) (entry : Entry) (ballot : ℕ) (slot : Slot)
    → length kept.slots ≡ ballots_of kept.setup.plan → 1 ≤ ballot → StandsFor kept history → IsAccepted kept.setup history entry
    → slot ≡ slot_of (entry ∷ history) ballot
    → ((other : ℕ) → ballot ≢ other → slot_of (entry ∷ history) other ≡ slot_of history other)
    → StandsFor (kept_after kept entry (slice_set kept.slots (ballot - 1) slot)) (entry ∷ history)
slot_stands kept history entry ballot slot many first stands accepted here apart =
    goes_on kept history entry (slice_set kept.slots (ballot - 1) slot) stands accepted
    (tells_one kept.setup kept.slots history entry ballot slot first many stands.slots here apart)

-- the office stands for the history with the act
pub part_stands : (kept : Kept) (history : List Entry) (stamp : Stamp) (done : Act)
    → length kept.slots ≡ ballots_of kept.setup.plan → stamp.number < 2 ^ 32 → IsAskable kept.setup done
    → StandsFor kept history → accepts kept.setup history stamp done ≡ true
    → StandsFor (with_part kept (part_of kept.slots stamp.station done) (done_row kept.setup.plan.version (entry_of stamp done))) (entry_of stamp done ∷ history)
part_stands kept history stamp asked many few is stands accepted =
    by_act asked (accepted_is kept.setup history stamp asked few is accepted) (part_fits kept.setup history stamp kept.slots asked accepted)
  where
    scanner : (ballot : ℕ) → (1 ≤ ballot) × (ballot ≤ ballots_of kept.setup.plan) → scanner_at kept.slots ballot ≡ scanner_of history ballot
    scanner ballot fits =
        let first : 1 ≤ ballot = fits.0 in
        let last : ballot ≤ ballots_of kept.setup.plan = fits.1 in
        scanner_told kept history ballot stands (grind (arith, nat_tests, first, last))

    by_act : (done : Act) → IsAccepted kept.setup history (entry_of stamp done) → FitsPart kept.setup.plan (part_of kept.slots stamp.station done)
        → StandsFor (with_part kept (part_of kept.slots stamp.station done) (done_row kept.setup.plan.version (entry_of stamp done))) (entry_of stamp done ∷ history)
    by_act (act.Scan ballot marks) kept_entry fits =
        slot_stands kept history (entry_of stamp (act.Scan ballot marks)) ballot (told_slot (fate.Cast marks) stamp.station) many fits.0 stands kept_entry
        (sym (scan_here history stamp.station stamp.number ballot marks)) (scan_else history stamp.station stamp.number ballot marks)
    by_act (act.Spoil ballot) kept_entry fits =
        slot_stands kept history (entry_of stamp (act.Spoil ballot)) ballot (told_slot fate.Spoiled (scanner_at kept.slots ballot)) many fits.0 stands kept_entry
        (ap (told_slot fate.Spoiled) (scanner ballot fits) ∙ sym (told_here history ballot fate.Spoiled)) (λ other h. told_else history ballot other fate.Spoiled h)
    by_act (act.Audit ballot paper) kept_entry fits =
        slot_stands kept history (entry_of stamp (act.Audit ballot paper)) ballot (told_slot (fate.Audited paper) (scanner_at kept.slots ballot)) many fits.0 stands kept_entry
        (ap (told_slot (fate.Audited paper)) (scanner ballot fits) ∙ sym (told_here history ballot (fate.Audited paper))) (λ other h. told_else history ballot other (fate.Audited paper) h)
    by_act act.Close kept_entry fits = goes_on kept history (entry_of stamp act.Close) kept.slots stands kept_entry stands.slots
    by_act (act.Draw drawn) kept_entry fits = goes_on kept history (entry_of stamp (act.Draw drawn)) kept.slots stands kept_entry stands.slots
    by_act (act.Claim ballot race code) kept_entry fits = goes_on kept history (entry_of stamp (act.Claim ballot race code)) kept.slots stands kept_entry stands.slots
    by_act (act.Void ballot) kept_entry fits =
        slot_stands kept history (entry_of stamp (act.Void ballot)) ballot (told_slot fate.Voided (scanner_at kept.slots ballot)) many fits.0 stands kept_entry
        (ap (told_slot fate.Voided) (scanner ballot fits) ∙ sym (told_here history ballot fate.Voided)) (λ other h. told_else history ballot other fate.Voided h)

-- THE METHODS' GOALS

-- what is ready of an act of a station
abbrev pub IsMade : Kept → Stamp → Act → Ready → Type 0
IsMade kept stamp done ready = IsReady ready (part_of kept.slots stamp.station done) (act_change kept.setup.plan.version (length kept.claims) stamp done)

pub ready_stands : (kept : Kept) (stamp : Stamp) (done : Act) (ready : Ready) → IsOffice kept → stamp.number < 2 ^ 32 → IsAskable kept.setup done
    → ((history : List Entry) → StandsFor kept history → accepts kept.setup history stamp done ≡ true) → IsMade kept stamp done ready
    → (history : List Entry) → StandsFor kept history → StandsFor (with_part kept ready.part ready.change.done) (entry_of stamp done ∷ history)
ready_stands kept stamp done ready office few is accepted made history stands =
    subst (λ (p : Part). StandsFor (with_part kept p ready.change.done) (entry_of stamp done ∷ history)) (sym made.part_is)
    (subst (λ (d : DoneRow). StandsFor (with_part kept (part_of kept.slots stamp.station done) d) (entry_of stamp done ∷ history)) (sym (ap (λ (c : Change). c.done) made.change_is))
    (part_stands kept history stamp done office.slots few is stands (accepted history stands)))

pub ready_allowed : (kept : Kept) (stamp : Stamp) (done : Act) (ready : Ready) → IsOffice kept → stamp.number < 2 ^ 32 → IsAskable kept.setup done
    → ((history : List Entry) → StandsFor kept history → accepts kept.setup history stamp done ≡ true) → IsMade kept stamp done ready
    → Allows kept (with_part kept ready.part ready.change.done)
ready_allowed kept stamp done ready office few is accepted made = λ history stands. (entry_of stamp done ∷ history, ready_stands kept stamp done ready office few is accepted made history stands)

pub ready_fits : (kept : Kept) (stamp : Stamp) (done : Act) (ready : Ready) → IsOffice kept
    → ((history : List Entry) → StandsFor kept history → accepts kept.setup history stamp done ≡ true) → IsMade kept stamp done ready
    → FitsPart kept.setup.plan ready.part
ready_fits kept stamp done ready office accepted made =
    subst (FitsPart kept.setup.plan) (sym made.part_is) (part_fits kept.setup office.history stamp kept.slots done (accepted office.history office.stands))

-- its number is new
pub ready_new : (kept : Kept) (stamp : Stamp) (done : Act) (ready : Ready) → IsOffice kept
    → ((history : List Entry) → StandsFor kept history → accepts kept.setup history stamp done ≡ true) → IsMade kept stamp done ready
    → is_new done_is ready.change.done kept.dones ≡ true
ready_new kept stamp done ready office accepted made =
    ap (λ (c : Change). is_new done_is c.done kept.dones) made.change_is
    ∙ (ap (is_new done_is (done_row kept.setup.plan.version (entry_of stamp done))) (office.stands.dones [])
    ∙ (new_change kept.setup [] office.history stamp done office.stands.lawful (accepted office.history office.stands)).done)

setup_stays : (kept : Kept) (p : Part) (row : DoneRow) → (with_part kept p row).setup ≡ kept.setup
setup_stays kept (part.Ballot ballot slot) row = refl
setup_stays kept (part.Stage now) row = refl
setup_stays kept (part.Claim claim) row = refl

pub accept_turned : (kept new : Kept) (tells : Type 0) (rows after : Rows) (stamp : Stamp) (done : Act) (ready : Ready) (said : Body)
    → IsOffice kept → stamp.number < 2 ^ 32 → IsAskable kept.setup done
    → ((history : List Entry) → StandsFor kept history → accepts kept.setup history stamp done ≡ true) → IsMade kept stamp done ready
    → said ≡ body_with kept.setup (fate_at kept.slots) done
    → new ≡ with_part kept ready.part ready.change.done → (tells → IsNewChange rows ready.change → after ≡ with_change rows ready.change)
    → (history : List Entry) → StandsFor kept history
    → Turned kept new tells rows after (ask.Do stamp done) (reply.Done said) history
accept_turned kept new tells rows after stamp done ready said office few is accepted made said_is new_is added history stands =
    subst (λ (k : Kept). Turned kept k tells rows after (ask.Do stamp done) (reply.Done said) history) (sym new_is)
    (subst (λ (b : Body). Turned kept (with_part kept ready.part ready.change.done) tells rows after (ask.Do stamp done) (reply.Done b) history) (sym says)
    (kept_turn kept (with_part kept ready.part ready.change.done) tells rows after stamp done ready.change history stands (accepted history stands)
    (setup_stays kept ready.part ready.change.done) (ready_stands kept stamp done ready office few is accepted made history stands) added changes))
  where
    says : said ≡ body_of kept.setup history done
    says = said_is ∙ body_told kept history done stands (accepted_fits kept.setup history stamp done (accepted history stands))

    changes : ready.change ≡ change_of kept.setup history (entry_of stamp done)
    changes = made.change_is ∙ ap (λ c. act_change kept.setup.plan.version (length c) stamp done) stands.claims

-- CLAIMS ARE FEW

pub office_claims : (kept : Kept) → IsOffice kept → length kept.claims < 2 ^ 32
office_claims kept office =
    let few : length (claims_of office.history) ≤ 10000 = (claims_fit kept.setup office.history office.stands.lawful).few in
    let same : length kept.claims ≡ length (claims_of office.history) = ap length office.stands.claims in
    omega (arith, few, same)
