-- Void rows, stages and claims are put behind the ballots of a history.
use Rattle.std.proofs.Common.{◌≡◌, ℕ, ◌==◌, true, false, List, [], ◌∷◌, length, None, refl, ap, sym, ◌∙◌, subst}
use Rattle.std.specs.Ordering.{int_eq}
use Rattle.std.specs.Prelude.{pos}
use Rattle.sg_lists.proofs.Bools.{not_or_parts}
use Rattle.sg_lists.proofs.Integers.{int_eq-pos}
use Rattle.sg_plan.specs.declared.plan.Draw.{Draw}
use Rattle.sg_plan.specs.declared.plan.Fate.{Fate}
use Rattle.sg_plan.specs.declared.plan.Fate.TheVariants as fate
use Rattle.sg_plan.specs.declared.plan.Mark.{Mark}
use Rattle.sg_plan.specs.declared.plan.Plan.{Plan}
use Rattle.sg_plan.specs.declared.plan.Stage.{Stage}
use Rattle.sg_plan.specs.declared.plan.Stage.TheVariants as stage
use Rattle.sg_keeper.specs.Rows.{done_before, done_is, is_new, put, void_before, void_is}
use Rattle.sg_acts.specs.declared.asks.Act.{Act}
use Rattle.sg_acts.specs.declared.asks.Act.TheVariants as act
use Rattle.sg_acts.specs.declared.replies.Phase.TheVariants as phase
use Rattle.sg_acts.specs.declared.replies.Reply.TheVariants as reply
use Rattle.sg_keeper.specs.declared.rows.BallotRow.{BallotRow}
use Rattle.sg_keeper.specs.declared.rows.DoneRow.{DoneRow}
use Rattle.sg_keeper.specs.declared.rows.VoidRow.{VoidRow}
use Rattle.sg_keeper.specs.declared.setup.Setup.{Setup}
use Rattle.sg_desks.specs.ActTexts.{act_text}
use Rattle.sg_histories.specs.Answers.{close_refusal, draw_refusal, is_ballot, refusal_of, unless, void_refusal}
use Rattle.sg_plan.specs.Limits.{first_of}
use Rattle.sg_histories.specs.Histories.{Entry, claims_of, fate_of, fate_word, phase_word, scanner_of, stage_of}
use Rattle.sg_histories.specs.KeptRows.{rows_of}
use Rattle.sg_histories.specs.Lawful.{IsAskable, Lawful}
use Rattle.sg_histories.specs.ValidRows.{fits, is_stamp}
use Rattle.sg_histories.specs.declared.kept.Claim.{Claim}
use Rattle.sg_histories.proofs.Accepted.{voids}
use Rattle.sg_histories.proofs.Back.{accepted, dones_differ, entry_for, nat_of, new_before, new_out, row_back, voids_differ}
use Rattle.sg_histories.proofs.BackBallots.{Voted}
use Rattle.sg_histories.proofs.OutVoids.{fate_else, void_act, void_of}
use Rattle.sg_histories.proofs.Pairing.{Rises, put_first}

-- VOIDS

-- the void's row, its done row, and the ballot that was cast in the history before all voids
pub record VoidAct (setup : Setup) (history : List Entry) (row : VoidRow) (d : DoneRow) : Type 0 where
  pub ballot : ℕ
  pub row_is : row ≡ record { ballot = pos ballot }
  pub known : is_ballot setup.plan ballot ≡ true
  pub marks : List Mark
  pub cast : fate_of history ballot ≡ fate.Cast marks
  pub other : (nat_of d.station == scanner_of history ballot) ≡ false
  pub words : d.act ≡ void_of setup ballot

abbrev pub void_number : VoidRow → ℕ
void_number row = nat_of row.ballot

-- the voids of these rows behind a history
abbrev pub unvoted : List VoidRow → List DoneRow → List Entry → List Entry
unvoted [] items history = history
unvoted (r ∷ rows) [] history = history
unvoted (r ∷ rows) (d ∷ ds) history = entry_for d (act.Void (void_number r)) ∷ unvoted rows ds history

-- what stands after these ballots and voids
pub record Closing (setup : Setup) (text : List ℕ) (base : List Entry) (ballots : List BallotRow) (voids : List VoidRow) (dones : List DoneRow) (history : List Entry) : Type 0 where
  pub lawful : Lawful setup history
  pub ballots_are : (rows_of setup text history).ballots ≡ ballots
  pub voids_are : (rows_of setup text history).voids ≡ voids
  pub dones_are : (rows_of setup text history).dones ≡ dones
  pub voting : stage_of history ≡ stage.Voting
  pub no_claims : claims_of history ≡ []
  pub fates : (ballot : ℕ) → is_new void_is (record { ballot = pos ballot }) voids ≡ true → fate_of history ballot ≡ fate_of base ballot
  pub scanners : (ballot : ℕ) → scanner_of history ballot ≡ scanner_of base ballot

void_passes : (plan : Plan) (now : Stage) (told : Fate) (scanner station ballot : ℕ) (marks : List Mark) → now ≡ stage.Voting → told ≡ fate.Cast marks → is_ballot plan ballot ≡ true → (station == scanner) ≡ false
    → void_refusal plan (phase_word now) (fate_word told) scanner station ballot ≡ None
void_passes plan now told scanner station ballot marks v c known other =
    subst (λ (s : Stage). void_refusal plan (phase_word s) (fate_word told) scanner station ballot ≡ None) (sym v)
    (subst (λ (f : Fate). void_refusal plan phase.Voting (fate_word f) scanner station ballot ≡ None) (sym c) (rw (known, other) refl))

pub closing_more : (setup : Setup) (text : List ℕ) (base : List Entry) (row : VoidRow) (d : DoneRow) (ballots : List BallotRow) (voids : List VoidRow) (dones : List DoneRow) (history : List Entry)
    → Closing setup text base ballots voids dones history → VoidAct setup base row d → is_stamp (length setup.secrets) d ≡ true
    → Rises void_before (row ∷ voids) → Rises done_before (put done_before d dones)
    → Closing setup text base ballots (row ∷ voids) (put done_before d dones) (entry_for d (act.Void (void_number row)) ∷ history)
closing_more setup text base row d ballots voids dones history old does stamp up rise = record {
  lawful = (accepted setup text history d (act.Void (void_number row)) stamp new (void_act setup (void_number row)) passes, old.lawful);
  ballots_are = old.ballots_are;
  voids_are = ap (λ (l : List VoidRow). put void_before (record { ballot = pos (void_number row) }) l) old.voids_are ∙ (ap (λ (r : VoidRow). put void_before r voids) again ∙ put_first void_before row voids up.0);
  dones_are = ap (λ (r : DoneRow). put done_before r (rows_of setup text history).dones) (row_back setup d (act.Void (void_number row)) (length setup.secrets) stamp words) ∙ ap (put done_before d) old.dones_are;
  voting = old.voting;
  no_claims = old.no_claims;
  fates = λ b k. (let parts = not_or_parts _ _ k in fate_else b (act.Void (void_number row)) (fate_of history b) (touched b parts.0) ∙ old.fates b parts.1);
  scanners = old.scanners;
}
  where
    number : void_number row ≡ does.ballot
    number = ap (λ (r : VoidRow). nat_of r.ballot) does.row_is

    again : ◌≡◌ {A = VoidRow} (record { ballot = pos (void_number row) }) row
    again = ap (λ (n : ℕ). record { ballot = pos n }) number ∙ sym does.row_is

    words : d.act ≡ act_text setup.plan.version (act.Void (void_number row))
    words = does.words ∙ ap (void_of setup) (sym number)

    new : is_new done_is d (rows_of setup text history).dones ≡ true
    new = ap (λ (l : List DoneRow). is_new done_is d l) old.dones_are ∙ new_out done_before done_is dones_differ d dones rise

    fresh : is_new void_is (record { ballot = pos does.ballot }) voids ≡ true
    fresh = subst (λ (r : VoidRow). is_new void_is r voids ≡ true) does.row_is (new_before void_before void_is voids_differ row voids up.0)

    passes : refusal_of setup history (nat_of d.station) (act.Void (void_number row)) ≡ None
    passes = subst (λ (n : ℕ). refusal_of setup history (nat_of d.station) (act.Void n) ≡ None) (sym number)
        (void_passes setup.plan (stage_of history) (fate_of history does.ballot) (scanner_of history does.ballot) (nat_of d.station) does.ballot does.marks old.voting
        (old.fates does.ballot fresh ∙ does.cast) does.known (ap (λ (n : ℕ). nat_of d.station == n) (old.scanners does.ballot) ∙ does.other))

    touched : (b : ℕ) → int_eq row.ballot (pos b) ≡ false → (void_number row == b) ≡ false
    touched b k = sym (int_eq-pos (void_number row) b) ∙ (ap (λ (r : VoidRow). int_eq r.ballot (pos b)) again ∙ k)

pub closing_start : (setup : Setup) (text : List ℕ) (base : List Entry) (ballots : List BallotRow) (dones : List DoneRow) → Voted setup text ballots dones base → Closing setup text base ballots [] dones base
closing_start setup text base ballots dones old = record {
  lawful = old.lawful;
  ballots_are = old.ballots_are;
  voids_are = old.voids_are;
  dones_are = old.dones_are;
  voting = old.voting;
  no_claims = old.no_claims;
  fates = λ b k. refl;
  scanners = λ b. refl;
}

-- done rows with others behind them, as they are put in
abbrev pub put_on : List DoneRow → List DoneRow → List DoneRow
put_on [] dones = dones
put_on (d ∷ ds) dones = put done_before d (put_on ds dones)

-- STAGES

-- what stands behind ballots, voids and this stage
pub record Staged (setup : Setup) (text : List ℕ) (ballots : List BallotRow) (voids : List VoidRow) (now : Stage) (kept : List Claim) (dones : List DoneRow) (history : List Entry) : Type 0 where
  pub lawful : Lawful setup history
  pub ballots_are : (rows_of setup text history).ballots ≡ ballots
  pub voids_are : (rows_of setup text history).voids ≡ voids
  pub dones_are : (rows_of setup text history).dones ≡ dones
  pub stage_is : stage_of history ≡ now
  pub claims_are : claims_of history ≡ kept

pub staged_start : (setup : Setup) (text : List ℕ) (base : List Entry) (ballots : List BallotRow) (voids : List VoidRow) (dones : List DoneRow) (history : List Entry) → Closing setup text base ballots voids dones history
    → Staged setup text ballots voids stage.Voting [] dones history
staged_start setup text base ballots voids dones history old = record {
  lawful = old.lawful;
  ballots_are = old.ballots_are;
  voids_are = old.voids_are;
  dones_are = old.dones_are;
  stage_is = old.voting;
  claims_are = old.no_claims;
}

-- a late act that is accepted: the close, the draw or a claim
pub late_dones : (setup : Setup) (text : List ℕ) (d : DoneRow) (done : Act) (dones : List DoneRow) (history : List Entry) → (rows_of setup text history).dones ≡ dones → d.act ≡ act_text setup.plan.version done → is_stamp (length setup.secrets) d ≡ true
    → (rows_of setup text (entry_for d done ∷ history)).dones ≡ put done_before d dones
late_dones setup text d done dones history are words stamp =
    ap (λ (r : DoneRow). put done_before r (rows_of setup text history).dones) (row_back setup d done (length setup.secrets) stamp words) ∙ ap (put done_before d) are

pub late_new : (setup : Setup) (text : List ℕ) (d : DoneRow) (dones : List DoneRow) (history : List Entry) → (rows_of setup text history).dones ≡ dones → Rises done_before (put done_before d dones) → is_new done_is d (rows_of setup text history).dones ≡ true
late_new setup text d dones history are rise = ap (λ (l : List DoneRow). is_new done_is d l) are ∙ new_out done_before done_is dones_differ d dones rise

pub close_act : (setup : Setup) → IsAskable setup act.Close
close_act setup = record { codes = tt; counted = tt }

pub close_back : (setup : Setup) (text : List ℕ) (ballots : List BallotRow) (voids : List VoidRow) (d : DoneRow) (dones : List DoneRow) (history : List Entry) → Staged setup text ballots voids stage.Voting [] dones history
    → d.act ≡ act_text setup.plan.version act.Close → is_stamp (length setup.secrets) d ≡ true → Rises done_before (put done_before d dones)
    → Staged setup text ballots voids stage.Closed [] (put done_before d dones) (entry_for d act.Close ∷ history)
close_back setup text ballots voids d dones history old words stamp rise = record {
  lawful = (
    accepted setup text history d act.Close stamp (late_new setup text d dones history old.dones_are rise) (close_act setup)
        (ap (λ (s : Stage). close_refusal (phase_word s)) old.stage_is),
    old.lawful,
  );
  ballots_are = old.ballots_are;
  voids_are = old.voids_are;
  dones_are = late_dones setup text d act.Close dones history old.dones_are words stamp;
  stage_is = refl;
  claims_are = old.claims_are;
}

pub draw_back : (setup : Setup) (text : List ℕ) (ballots : List BallotRow) (voids : List VoidRow) (drawn : Draw) (d : DoneRow) (dones : List DoneRow) (history : List Entry) → Staged setup text ballots voids stage.Closed [] dones history
    → IsAskable setup (act.Draw drawn) → fits setup.plan (act.Draw drawn) ≡ true
    → d.act ≡ act_text setup.plan.version (act.Draw drawn) → is_stamp (length setup.secrets) d ≡ true → Rises done_before (put done_before d dones)
    → Staged setup text ballots voids (stage.Drawn drawn) [] (put done_before d dones) (entry_for d (act.Draw drawn) ∷ history)
draw_back setup text ballots voids drawn d dones history old is fit words stamp rise = record {
  lawful = (
    accepted setup text history d (act.Draw drawn) stamp (late_new setup text d dones history old.dones_are rise) is
        (ap (λ (s : Stage). draw_refusal (phase_word s) drawn) old.stage_is ∙ ap (λ b. first_of (unless b reply.Draw ∷ [])) fit),
    old.lawful,
  );
  ballots_are = old.ballots_are;
  voids_are = old.voids_are;
  dones_are = late_dones setup text d (act.Draw drawn) dones history old.dones_are words stamp;
  stage_is = refl;
  claims_are = old.claims_are;
}
