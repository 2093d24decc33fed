-- A history is built from ballot rows that fit, and from void rows.
use Rattle.std.proofs.Common.{◌≡◌, ℕ, ◌==◌, Bool, true, false, not, cond, List, [], ◌∷◌, length, map, Some, None, refl, ap, sym, ◌∙◌, subst}
use Rattle.std.specs.List.{join_with_byte, list_all, list_any}
use Rattle.std.specs.Ordering.{int_eq}
use Rattle.std.specs.Prelude.{pos, ℤ}
use Rattle.std.proofs.lemmas.Bool.{and_parts}
use Rattle.sg_lists.proofs.Bools.{not_or_parts}
use Rattle.sg_lists.proofs.Integers.{int_eq-pos}
use Rattle.sg_lists.proofs.Options.{is_none-true}
use Rattle.sg_plan.specs.declared.plan.Fate.{Fate}
use Rattle.sg_plan.specs.declared.plan.Fate.TheVariants as fate
use Rattle.sg_plan.specs.declared.plan.Mark.{Mark}
use Rattle.sg_plan.specs.declared.plan.Plan.{Plan}
use Rattle.sg_plan.specs.declared.plan.Stage.{Stage}
use Rattle.sg_plan.specs.declared.plan.Stage.TheVariants as stage
use Rattle.sg_keeper.specs.Rows.{ballot_before, ballot_is, done_before, done_is, is_new, put, with_row}
use Rattle.sg_acts.specs.declared.asks.Act.{Act}
use Rattle.sg_acts.specs.declared.asks.Act.TheVariants as act
use Rattle.sg_acts.specs.declared.replies.FateWord.TheVariants as word
use Rattle.sg_acts.specs.declared.replies.Phase.TheVariants as phase
use Rattle.sg_keeper.specs.declared.rows.BallotRow.{BallotRow}
use Rattle.sg_keeper.specs.declared.rows.ChangeRow.{ChangeRow}
use Rattle.sg_keeper.specs.declared.rows.ChangeRow.TheVariants as change
use Rattle.sg_keeper.specs.declared.rows.DoneRow.{DoneRow}
use Rattle.sg_keeper.specs.declared.setup.Setup.{Setup}
use Rattle.sg_desks.specs.ActTexts.{act_text, codes_word, mark_word}
use Rattle.sg_histories.specs.Answers.{audit_refusal, early_refusal, is_ballot, refusal_of, scan_refusal}
use Rattle.sg_histories.specs.Histories.{Entry, claims_after, claims_of, fate_after, fate_of, fate_word, phase_word, stage_after, stage_of}
use Rattle.sg_histories.specs.KeptRows.{row_of_act, rows_of}
use Rattle.sg_histories.specs.Lawful.{IsAskable, Lawful}
use Rattle.sg_histories.specs.ValidRows.{ballot_text, fits, is_stamp, scan_text}
use Rattle.sg_histories.specs.declared.kept.Claim.{Claim}
use Rattle.sg_histories.proofs.Accepted.{early, first_none}
use Rattle.sg_histories.proofs.Back.{accepted, ballots_differ, dones_differ, entry_for, nat_of, new_before, new_out, out_rises, row_back}
use Rattle.sg_histories.proofs.OutVoids.{fate_else, same_numbers, scan_said, touches}
use Rattle.sg_histories.proofs.Pairing.{Rises, put_all, put_first}

-- the items are done rows of these acts, one by one
abbrev pub Match : ℕ → List Act → List DoneRow → Type 0
Match version [] [] = Unit {0}
Match version [] (d ∷ ds) = ⊥
Match version (a ∷ acts) [] = ⊥
Match version (a ∷ acts) (d ∷ ds) = (d.act ≡ act_text version a) × Match version acts ds

-- a history with these acts behind it, by the stamps of their done rows
abbrev pub story : List Act → List DoneRow → List Entry → List Entry
story [] items history = history
story (a ∷ acts) [] history = history
story (a ∷ acts) (d ∷ ds) history = entry_for d a ∷ story acts ds history

-- BALLOTS

-- the act of a ballot's row
pub record RowAct (setup : Setup) (row : BallotRow) (done : Act) : Type 0 where
  pub act_is : IsAskable setup done
  pub fit : fits setup.plan done ≡ true
  pub row_is : (kept : ℕ) → row_of_act setup.plan.version kept done ≡ change.Ballot row

abbrev pub RowActs : Setup → List BallotRow → List Act → Type 0
RowActs setup [] [] = Unit {0}
RowActs setup [] (a ∷ acts) = ⊥
RowActs setup (r ∷ rows) [] = ⊥
RowActs setup (r ∷ rows) (a ∷ acts) = RowAct setup r a × RowActs setup rows acts

-- what such an act does
pub record Early (setup : Setup) (row : BallotRow) (done : Act) : Type 0 where
  pub ballot : ℕ
  pub at : row.ballot ≡ pos ballot
  pub touching : (other : ℕ) → touches other done ≡ (ballot == other)
  pub stays : (now : Stage) → stage_after done now ≡ now
  pub no_claim : (kept : List Claim) → claims_after done kept ≡ kept
  pub passes : (history : List Entry) (station : ℕ) → stage_of history ≡ stage.Voting → fate_of history ballot ≡ fate.Unused → refusal_of setup history station done ≡ None
  pub casts : int_eq row.fate (pos 1) ≡ true → (marks : List Mark) × (done ≡ act.Scan ballot marks)

ballot_same : (a b : BallotRow) → ◌≡◌ {A = ChangeRow} (change.Ballot a) (change.Ballot b) → a ≡ b
ballot_same a b e = cc

no_one : (z : ℤ) → int_eq z (pos 1) ≡ false → int_eq z (pos 1) ≡ true → ⊥
no_one z f t = cc

early_act : (setup : Setup) (row : BallotRow) (done : Act) → RowAct setup row done → Early setup row done
early_act setup row done is = by_act done is.fit (is.row_is 0)
  where
    by_act : (a : Act) → fits setup.plan a ≡ true → row_of_act setup.plan.version 0 a ≡ change.Ballot row → Early setup row a
    by_act (act.Scan b marks) f e =
        let brow : BallotRow = record { ballot = pos b; fate = pos 1; detail = join_with_byte 32 (map mark_word marks) } in
        record {
          ballot = b;
          at = sym (ap (λ (r : BallotRow). r.ballot) (ballot_same brow row e));
          touching = λ other. refl;
          stays = λ now. refl;
          no_claim = λ kept. refl;
          passes = λ history station v u.
              subst (λ (s : Stage). scan_refusal setup.plan (phase_word s) (fate_word (fate_of history b)) b marks ≡ None) (sym v)
              (subst (λ (t : Fate). scan_refusal setup.plan phase.Voting (fate_word t) b marks ≡ None) (sym u) (is_none-true (scan_refusal setup.plan phase.Voting word.Unused b marks) f));
          casts = λ k. (marks, refl);
        }
    by_act (act.Spoil b) f e =
        let brow : BallotRow = record { ballot = pos b; fate = pos 2; detail = [] } in
        let two : row.fate ≡ pos 2 = sym (ap (λ (r : BallotRow). r.fate) (ballot_same brow row e)) in
        record {
          ballot = b;
          at = sym (ap (λ (r : BallotRow). r.ballot) (ballot_same brow row e));
          touching = λ other. refl;
          stays = λ now. refl;
          no_claim = λ kept. refl;
          passes = λ history station v u.
              subst (λ (s : Stage). early_refusal setup.plan (phase_word s) (fate_word (fate_of history b)) b ≡ None) (sym v)
              (subst (λ (t : Fate). early_refusal setup.plan phase.Voting (fate_word t) b ≡ None) (sym u) (is_none-true (early_refusal setup.plan phase.Voting word.Unused b) f));
          casts = λ k. absurd (no_one (pos 2) refl (ap (λ (z : ℤ). int_eq z (pos 1)) (sym two) ∙ k));
        }
    by_act (act.Audit b paper) f e =
        let brow : BallotRow = record { ballot = pos b; fate = pos 3; detail = join_with_byte 32 (map (codes_word setup.plan.version) paper) } in
        let three : row.fate ≡ pos 3 = sym (ap (λ (r : BallotRow). r.fate) (ballot_same brow row e)) in
        record {
          ballot = b;
          at = sym (ap (λ (r : BallotRow). r.ballot) (ballot_same brow row e));
          touching = λ other. refl;
          stays = λ now. refl;
          no_claim = λ kept. refl;
          passes = λ history station v u.
              subst (λ (s : Stage). audit_refusal setup.plan (phase_word s) (fate_word (fate_of history b)) b paper ≡ None) (sym v)
              (subst (λ (t : Fate). audit_refusal setup.plan phase.Voting (fate_word t) b paper ≡ None) (sym u) (is_none-true (audit_refusal setup.plan phase.Voting word.Unused b paper) f));
          casts = λ k. absurd (no_one (pos 3) refl (ap (λ (z : ℤ). int_eq z (pos 1)) (sym three) ∙ k));
        }
    by_act (act.Void b) f e = cc
    by_act act.Close f e = cc
    by_act (act.Draw drawn) f e = cc
    by_act (act.Claim b race code) f e = cc

-- a ballot of the plan was cast
pub record CastIn (plan : Plan) (history : List Entry) (ballot : ℕ) : Type 0 where
  pub marks : List Mark
  pub fate_is : fate_of history ballot ≡ fate.Cast marks
  pub known : is_ballot plan ballot ≡ true

-- what stands after these ballots
pub record Voted (setup : Setup) (text : List ℕ) (ballots : List BallotRow) (dones : List DoneRow) (history : List Entry) : Type 0 where
  pub lawful : Lawful setup history
  pub ballots_are : (rows_of setup text history).ballots ≡ ballots
  pub voids_are : (rows_of setup text history).voids ≡ []
  pub dones_are : (rows_of setup text history).dones ≡ dones
  pub voting : stage_of history ≡ stage.Voting
  pub no_claims : claims_of history ≡ []
  pub fresh : (ballot : ℕ) → is_new ballot_is (record { ballot = pos ballot; fate = pos 1; detail = [] }) ballots ≡ true → fate_of history ballot ≡ fate.Unused
  pub cast : (ballot : ℕ) (told : List ℕ) → scan_text (pos ballot) ballots ≡ Some told → CastIn setup.plan history ballot

said_cast : (row : BallotRow) (told : List ℕ) → scan_said row ≡ Some told → int_eq row.fate (pos 1) ≡ true
said_cast row told e = by_test (int_eq row.fate (pos 1)) refl e
  where
    by_test : (b : Bool) → int_eq row.fate (pos 1) ≡ b → cond b (ballot_text row) None ≡ Some told → int_eq row.fate (pos 1) ≡ true
    by_test true k h = k
    by_test false k h = cc

pub scan_known : (plan : Plan) (ballot : ℕ) (marks : List Mark) → fits plan (act.Scan ballot marks) ≡ true → is_ballot plan ballot ≡ true
scan_known plan ballot marks f = (early plan phase.Voting word.Unused ballot (first_none (early_refusal plan phase.Voting word.Unused ballot) _ (is_none-true (scan_refusal plan phase.Voting word.Unused ballot marks) f)).0).ballot_is

-- one more ballot
voted_more : (setup : Setup) (text : List ℕ) (row : BallotRow) (done : Act) (d : DoneRow) (ballots : List BallotRow) (dones : List DoneRow) (history : List Entry)
    → Voted setup text ballots dones history → RowAct setup row done → d.act ≡ act_text setup.plan.version done → is_stamp (length setup.secrets) d ≡ true
    → Rises ballot_before (row ∷ ballots) → Rises done_before (put done_before d dones)
    → Voted setup text (row ∷ ballots) (put done_before d dones) (entry_for d done ∷ history)
voted_more setup text row done d ballots dones history old is words stamp up rise = record {
  lawful = (accepted setup text history d done stamp new is.act_is (does.passes history (nat_of d.station) old.voting unused), old.lawful);
  ballots_are = ap (λ (r : ChangeRow). (with_row (rows_of setup text history) r).ballots) (is.row_is (length (claims_of history))) ∙ (ap (put ballot_before row) old.ballots_are ∙ put_first ballot_before row ballots up.0);
  voids_are = ap (λ (r : ChangeRow). (with_row (rows_of setup text history) r).voids) (is.row_is (length (claims_of history))) ∙ old.voids_are;
  dones_are = ap (λ (r : DoneRow). put done_before r (rows_of setup text history).dones) (row_back setup d done (length setup.secrets) stamp words) ∙ ap (put done_before d) old.dones_are;
  voting = does.stays (stage_of history) ∙ old.voting;
  no_claims = does.no_claim (claims_of history) ∙ old.no_claims;
  fresh = λ b k. (let parts = not_or_parts _ _ k in fate_else b done (fate_of history b) (touched b parts.0) ∙ old.fresh b parts.1);
  cast = λ b told k. by_test b told (int_eq row.ballot (pos b)) refl k;
}
  where
    does : Early setup row done
    does = early_act setup row done is

    new : is_new done_is d (rows_of setup text history).dones ≡ true
    new = ap (λ (l : List DoneRow). is_new done_is d l) old.dones_are ∙ new_out done_before done_is dones_differ d dones rise

    unused : fate_of history does.ballot ≡ fate.Unused
    unused = old.fresh does.ballot (ap (λ (z : ℤ). not (list_any (λ kept. int_eq kept.ballot z) ballots)) (sym does.at) ∙ new_before ballot_before ballot_is ballots_differ row ballots up.0)

    touched : (b : ℕ) → int_eq row.ballot (pos b) ≡ false → touches b done ≡ false
    touched b k = does.touching b ∙ (sym (int_eq-pos does.ballot b) ∙ (ap (λ (z : ℤ). int_eq z (pos b)) (sym does.at) ∙ k))

    here : (b : ℕ) → int_eq row.ballot (pos b) ≡ true → (does.ballot == b) ≡ true
    here b k = sym (int_eq-pos does.ballot b) ∙ (ap (λ (z : ℤ). int_eq z (pos b)) (sym does.at) ∙ k)

    by_test : (b : ℕ) (told : List ℕ) (t : Bool) → int_eq row.ballot (pos b) ≡ t → cond t (scan_said row) (scan_text (pos b) ballots) ≡ Some told
        → CastIn setup.plan (entry_for d done ∷ history) b
    by_test b told true k e =
        let c = does.casts (said_cast row told e) in
        record {
          marks = c.0;
          fate_is = ap (λ (a : Act). fate_after b a (fate_of history b)) c.1 ∙ ap (λ t. cond t (fate.Cast c.0) (fate_of history b)) (here b k);
          known = ap (is_ballot setup.plan) (same_numbers does.ballot b (here b k)) ∙ scan_known setup.plan does.ballot c.0 (ap (fits setup.plan) (sym c.1) ∙ is.fit);
        }
    by_test b told false k e =
        let c = old.cast b told e in
        record { marks = c.marks; fate_is = fate_else b done (fate_of history b) (touched b k) ∙ c.fate_is; known = c.known }

pub ballots_back : (setup : Setup) (text : List ℕ) (ballots : List BallotRow) (acts : List Act) (items : List DoneRow) → RowActs setup ballots acts → Match setup.plan.version acts items
    → Rises ballot_before ballots → Rises done_before (put_all done_before items) → list_all (is_stamp (length setup.secrets)) items ≡ true
    → Voted setup text ballots (put_all done_before items) (story acts items [])
ballots_back setup text [] [] [] are same up rise stamps = record { lawful = tt; ballots_are = refl; voids_are = refl; dones_are = refl; voting = refl; no_claims = refl; fresh = λ b k. refl; cast = λ b told k. cc }
ballots_back setup text [] (a ∷ acts) items are same up rise stamps = absurd are
ballots_back setup text (r ∷ ballots) [] items are same up rise stamps = absurd are
ballots_back setup text [] [] (d ∷ ds) are same up rise stamps = absurd same
ballots_back setup text (r ∷ ballots) (a ∷ acts) [] are same up rise stamps = absurd same
ballots_back setup text (r ∷ ballots) (a ∷ acts) (d ∷ ds) are same up rise stamps =
    let parts = and_parts (is_stamp (length setup.secrets) d) (list_all (is_stamp (length setup.secrets)) ds) stamps in
    voted_more setup text r a d ballots (put_all done_before ds) (story acts ds [])
    (ballots_back setup text ballots acts ds are.1 same.1 up.1 (out_rises done_before d (put_all done_before ds) rise) parts.1)
    are.0 same.0 parts.0 up rise
