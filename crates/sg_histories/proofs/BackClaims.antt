-- Stages and claims are put behind the voids of a history.
use Rattle.std.proofs.Common.{◌≡◌, ℕ, suc, ◌+◌, ◌<◌, ◌≤◌, nat_lt, true, List, [], ◌∷◌, ◌++◌, length, bytes_eq, Option, None, refl, ap, sym, ◌∙◌, arith, subst}
use Rattle.std.specs.List.{list_all}
use Rattle.std.proofs.lemmas.Bool.{and_parts}
use Rattle.std.proofs.lemmas.Bool.Decides.{nat_tests}
use Rattle.std.proofs.lemmas.List.{length-append, append_assoc, append-nil}
use Rattle.sg_plan.specs.Ballots.{ballot_has}
use Rattle.sg_plan.specs.Codes.{codes_of}
use Rattle.sg_plan.specs.declared.plan.Draw.{Draw}
use Rattle.sg_plan.specs.declared.plan.Plan.{Plan}
use Rattle.sg_plan.specs.declared.plan.Stage.{Stage}
use Rattle.sg_plan.specs.declared.plan.Stage.TheVariants as stage
use Rattle.sg_keeper.specs.Rows.{done_before}
use Rattle.sg_acts.specs.declared.asks.Act.{Act}
use Rattle.sg_acts.specs.declared.asks.Act.TheVariants as act
use Rattle.sg_keeper.specs.declared.rows.BallotRow.{BallotRow}
use Rattle.sg_keeper.specs.declared.rows.DoneRow.{DoneRow}
use Rattle.sg_keeper.specs.declared.rows.VoidRow.{VoidRow}
use Rattle.sg_keeper.specs.declared.setup.Setup.{Setup}
use Rattle.sg_desks.specs.ActTexts.{act_text}
use Rattle.sg_histories.specs.Answers.{claim_refusal, is_ballot}
use Rattle.sg_histories.specs.Histories.{Entry, claims_of, phase_word, stage_of}
use Rattle.sg_histories.specs.Lawful.{IsAskable}
use Rattle.sg_histories.specs.Reading.{ReadsActs}
use Rattle.sg_histories.specs.ValidRows.{fits, is_stamp, station_of}
use Rattle.sg_histories.specs.declared.kept.Claim.{Claim}
use Rattle.sg_histories.proofs.Accepted.{voids}
use Rattle.sg_histories.proofs.Back.{accepted, entry_for, out_rises}
use Rattle.sg_histories.proofs.BackBallots.{Match}
use Rattle.sg_histories.proofs.BackLater.{Staged, close_act, close_back, draw_back, late_dones, late_new}
use Rattle.sg_histories.proofs.Fitting.{claims}
use Rattle.sg_histories.proofs.OutVoids.{station_put, texts_differ}
use Rattle.sg_histories.proofs.Pairing.{Rises, put_all}

-- a history of these done rows in which all this stands
pub record Stand (setup : Setup) (text : List ℕ) (ballots : List BallotRow) (voids : List VoidRow) (now : Stage) (kept : List Claim) (dones : List DoneRow) : Type 0 where
  pub history : List Entry
  pub staged : Staged setup text ballots voids now kept dones history

-- a scan or a void
abbrev pub ForBallot : Act → Type 0
ForBallot (act.Scan ballot marks) = Unit {0}
ForBallot (act.Void ballot) = Unit {0}
ForBallot (act.Spoil ballot) = ⊥
ForBallot (act.Audit ballot paper) = ⊥
ForBallot act.Close = ⊥
ForBallot (act.Draw drawn) = ⊥
ForBallot (act.Claim ballot race code) = ⊥

-- the close, the draw or a claim
abbrev pub IsLate : Act → Type 0
IsLate (act.Scan ballot marks) = ⊥
IsLate (act.Void ballot) = ⊥
IsLate (act.Spoil ballot) = ⊥
IsLate (act.Audit ballot paper) = ⊥
IsLate act.Close = Unit {0}
IsLate (act.Draw drawn) = Unit {0}
IsLate (act.Claim ballot race code) = Unit {0}

late_apart : (a b : Act) → IsLate a → ForBallot b → a ≡ b → ⊥
late_apart a b late for e = clash b (subst IsLate e late) for
  where
    clash : (c : Act) → IsLate c → ForBallot c → ⊥
    clash (act.Scan ballot marks) l f = l
    clash (act.Void ballot) l f = l
    clash (act.Spoil ballot) l f = f
    clash (act.Audit ballot paper) l f = f
    clash act.Close l f = f
    clash (act.Draw drawn) l f = f
    clash (act.Claim ballot race code) l f = f

-- the done rows are good ones, and scans and voids were done by the stations that all done rows tell
pub record Good (setup : Setup) (all : List DoneRow) (items : List DoneRow) : Type 0 where
  pub rise : Rises done_before (put_all done_before items)
  pub stamps : list_all (is_stamp (length setup.secrets)) items ≡ true
  pub same : (done : Act) → IsAskable setup done → fits setup.plan done ≡ true → ForBallot done → station_of (act_text setup.plan.version done) all ≡ station_of (act_text setup.plan.version done) (put_all done_before items)

pub good_rest : (setup : Setup) (read : List ℕ → Option Act) → ReadsActs setup read → (all : List DoneRow) (d : DoneRow) (done : Act) (items : List DoneRow) → d.act ≡ act_text setup.plan.version done → IsAskable setup done → fits setup.plan done ≡ true → IsLate done
    → Good setup all (d ∷ items) → (is_stamp (length setup.secrets) d ≡ true) × Good setup all items
good_rest setup read reads all d done items words is fit late good =
    let parts = and_parts (is_stamp (length setup.secrets) d) (list_all (is_stamp (length setup.secrets)) items) good.stamps in (
      parts.0,
      record {
        rise = out_rises done_before d (put_all done_before items) good.rise;
        stamps = parts.1;
        same = λ other i f b. good.same other i f b ∙ station_put (act_text setup.plan.version other) d (put_all done_before items)
            (ap (λ (w : List ℕ). bytes_eq w (act_text setup.plan.version other)) words ∙ texts_differ setup read reads done other is i fit f (late_apart done other late b));
      },
    )

-- done rows of these acts lead to such a history
abbrev pub Leads : Setup → List ℕ → List DoneRow → List BallotRow → List VoidRow → List Act → Stage → List Claim → Type 0
Leads setup text all ballots voids acts now kept = (items : List DoneRow) → Match setup.plan.version acts items → Good setup all items → Stand setup text ballots voids now kept (put_all done_before items)

-- the acts of a stage, the newest first
abbrev pub stage_acts : Stage → List Act
stage_acts stage.Voting = []
stage_acts stage.Closed = act.Close ∷ []
stage_acts (stage.Drawn drawn) = act.Draw drawn ∷ act.Close ∷ []

-- the draw of a stage fits
abbrev pub StageFits : Setup → Stage → Type 0
StageFits setup stage.Voting = Unit {0}
StageFits setup stage.Closed = Unit {0}
StageFits setup (stage.Drawn drawn) = IsAskable setup (act.Draw drawn) × (fits setup.plan (act.Draw drawn) ≡ true)

closed_leads : (setup : Setup) (read : List ℕ → Option Act) → ReadsActs setup read → (text : List ℕ) (all : List DoneRow) (ballots : List BallotRow) (voids : List VoidRow) (acts : List Act) → Leads setup text all ballots voids acts stage.Voting [] → Leads setup text all ballots voids (act.Close ∷ acts) stage.Closed []
closed_leads setup read reads text all ballots voids acts leads [] same good = absurd same
closed_leads setup read reads text all ballots voids acts leads (d ∷ ds) same good =
    let parts = good_rest setup read reads all d act.Close ds same.0 (close_act setup) refl tt good in
    let old = leads ds same.1 parts.1 in
    record { history = entry_for d act.Close ∷ old.history; staged = close_back setup text ballots voids d (put_all done_before ds) old.history old.staged same.0 parts.0 good.rise }

pub stages_lead : (setup : Setup) (read : List ℕ → Option Act) → ReadsActs setup read → (text : List ℕ) (all : List DoneRow) (ballots : List BallotRow) (voids : List VoidRow) (acts : List Act) → Leads setup text all ballots voids acts stage.Voting [] → (now : Stage) → StageFits setup now
    → Leads setup text all ballots voids (stage_acts now ++ acts) now []
stages_lead setup read reads text all ballots voids acts leads stage.Voting fit items same good = leads items same good
stages_lead setup read reads text all ballots voids acts leads stage.Closed fit items same good = closed_leads setup read reads text all ballots voids acts leads items same good
stages_lead setup read reads text all ballots voids acts leads (stage.Drawn drawn) fit [] same good = absurd same
stages_lead setup read reads text all ballots voids acts leads (stage.Drawn drawn) fit (d ∷ ds) same good =
    let parts = good_rest setup read reads all d (act.Draw drawn) ds same.0 fit.0 fit.1 tt good in
    let old = closed_leads setup read reads text all ballots voids acts leads ds same.1 parts.1 in
    record { history = entry_for d (act.Draw drawn) ∷ old.history; staged = draw_back setup text ballots voids drawn d (put_all done_before ds) old.history old.staged fit.0 fit.1 same.0 parts.0 good.rise }

-- CLAIMS

abbrev pub claim_of : Claim → Act
claim_of claim = act.Claim claim.ballot claim.race claim.code

-- the acts with these claims behind them
abbrev pub claim_acts : List Claim → List Act → List Act
claim_acts [] acts = acts
claim_acts (c ∷ claims) acts = claim_acts claims (claim_of c ∷ acts)

claim_parts : (setup : Setup) (claim : Claim) → fits setup.plan (claim_of claim) ≡ true → IsAskable setup (claim_of claim) × (is_ballot setup.plan claim.ballot ≡ true) × (ballot_has setup.plan claim.ballot claim.race ≡ true)
claim_parts setup claim f =
    let one = and_parts (is_ballot setup.plan claim.ballot) _ f in
    let two = and_parts (ballot_has setup.plan claim.ballot claim.race) (nat_lt claim.code (codes_of setup.plan.version)) one.1 in
    let low : claim.code < codes_of setup.plan.version = (let k = two.1 in grind (arith, nat_tests, k)) in
    (record { codes = low; counted = tt }, one.0, two.0)

claim_passes : (plan : Plan) (now : Stage) (drawn : Draw) (kept ballot race : ℕ) → now ≡ stage.Drawn drawn → is_ballot plan ballot ≡ true → ballot_has plan ballot race ≡ true → kept < 10000 → claim_refusal plan (phase_word now) kept ballot race ≡ None
claim_passes plan now drawn kept ballot race s known has few =
    let low : nat_lt kept 10000 ≡ true = grind (arith, nat_tests, few) in
    subst (λ (n : Stage). claim_refusal plan (phase_word n) kept ballot race ≡ None) (sym s) (rw (known, has, low) refl)

claim_more : (setup : Setup) (read : List ℕ → Option Act) → ReadsActs setup read → (text : List ℕ) (all : List DoneRow) (ballots : List BallotRow) (voids : List VoidRow) (drawn : Draw) (kept : List Claim) (acts : List Act) (claim : Claim) → fits setup.plan (claim_of claim) ≡ true → length kept < 10000
    → Leads setup text all ballots voids acts (stage.Drawn drawn) kept → Leads setup text all ballots voids (claim_of claim ∷ acts) (stage.Drawn drawn) (kept ++ claim ∷ [])
claim_more setup read reads text all ballots voids drawn kept acts claim fit few leads [] same good = absurd same
claim_more setup read reads text all ballots voids drawn kept acts claim fit few leads (d ∷ ds) same good =
    let c = claim_parts setup claim fit in
    let parts = good_rest setup read reads all d (claim_of claim) ds same.0 c.0 fit tt good in
    let stand = leads ds same.1 parts.1 in
    let old = stand.staged in
    let low : length (claims_of stand.history) < 10000 = rw (old.claims_are) few in
    record {
      history = entry_for d (claim_of claim) ∷ stand.history;
      staged = record {
        lawful = (
          accepted setup text stand.history d (claim_of claim) parts.0 (late_new setup text d (put_all done_before ds) stand.history old.dones_are good.rise) c.0
              (claim_passes setup.plan (stage_of stand.history) drawn (length (claims_of stand.history)) claim.ballot claim.race old.stage_is c.1 c.2 low),
          old.lawful,
        );
        ballots_are = old.ballots_are;
        voids_are = old.voids_are;
        dones_are = late_dones setup text d (claim_of claim) (put_all done_before ds) stand.history old.dones_are same.0 parts.0;
        stage_is = old.stage_is;
        claims_are = ap (λ (l : List Claim). l ++ claim ∷ []) old.claims_are;
      };
    }

pub claims_lead : (setup : Setup) (read : List ℕ → Option Act) → ReadsActs setup read → (text : List ℕ) (all : List DoneRow) (ballots : List BallotRow) (voids : List VoidRow) (drawn : Draw) (claims kept : List Claim) (acts : List Act)
    → list_all (λ claim. fits setup.plan (claim_of claim)) claims ≡ true → length kept + length claims ≤ 10000
    → Leads setup text all ballots voids acts (stage.Drawn drawn) kept → Leads setup text all ballots voids (claim_acts claims acts) (stage.Drawn drawn) (kept ++ claims)
claims_lead setup read reads text all ballots voids drawn [] kept acts fit few leads =
    subst (λ (l : List Claim). Leads setup text all ballots voids acts (stage.Drawn drawn) l) (sym (append-nil kept)) leads
claims_lead setup read reads text all ballots voids drawn (c ∷ claims) kept acts fit few leads =
    let parts = and_parts (fits setup.plan (claim_of c)) _ fit in
    let room : length kept + suc (length claims) ≤ 10000 = few in
    let low : length kept < 10000 = omega (arith, room) in
    let long = length-append kept (c ∷ []) in
    let later : length (kept ++ c ∷ []) + length claims ≤ 10000 = omega (arith, room, long) in
    subst (λ (l : List Claim). Leads setup text all ballots voids (claim_acts (c ∷ claims) acts) (stage.Drawn drawn) l) (append_assoc kept (c ∷ []) claims)
    (claims_lead setup read reads text all ballots voids drawn claims (kept ++ c ∷ []) (claim_of c ∷ acts) parts.1 later (claim_more setup read reads text all ballots voids drawn kept acts c parts.0 low leads))
