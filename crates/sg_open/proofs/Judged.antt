-- What the readers of tables say, as the setup's own, and what rows open to by it.
use Rattle.std.proofs.Common.{◌≡◌, ℕ, Bool, true, List, [], ◌++◌, length, map, Option, Some, None, inl, inr, refl, ap, sym, ◌∙◌, subst}
use Rattle.std.proofs.Common.{Ok, Err}
use Rattle.std.specs.Prelude.{ℤ, Result, OnOk}
use Rattle.std.specs.List.{filter_map, list_all}
use Rattle.std.specs.Str.{is_utf8}
use Rattle.std.proofs.lemmas.List.{length-replicate}
use Rattle.sg_plan.specs.Ballots.{ballots_of}
use Rattle.sg_plan.specs.Limits.{first_bad}
use Rattle.sg_plan.specs.declared.plan.Fate.TheVariants as fate
use Rattle.sg_plan.specs.declared.plan.Plan.{Plan}
use Rattle.sg_desks.specs.ActReading.{act_in}
use Rattle.sg_keeper.specs.SetupText.{IsSetupText}
use Rattle.sg_keeper.specs.declared.rows.Rows.{Rows}
use Rattle.sg_keeper.specs.declared.setup.Setup.{Setup}
use Rattle.sg_histories.specs.Opens.{IsOfSetup, OpenTo, Whole}
use Rattle.sg_histories.specs.ValidRows.{at_table, ballot_keeps, claim_keeps, claim_text, damage_of, done_fault, is_drawn_in, stage_keeps, stage_text, station_of, void_text}
use Rattle.sg_histories.specs.declared.kept.Slot.{Slot}
use Rattle.sg_histories.proofs.ReadingActs.{act_in_reads_acts}
use Rattle.sg_open.specs.Opened.{IsFault}
use Rattle.sg_open.specs.declared.ballots.Found.{Found}
use Rattle.sg_open.specs.declared.fault.OpenFault.{OpenFault}
use Rattle.sg_open.specs.declared.fault.OpenFault.TheVariants as fault
use Rattle.sg_open.specs.inside.Finding.{IsDamage, IsJudged, IsRead, found_after, nothing_found, void_passes, voided_after}
use Rattle.sg_open.proofs.FirstDamage.{bad_dones, bad_stages, bad_voids, gathered, of_ballots, of_claims, of_dones, of_none, of_stages, of_voids, voided}
use Rattle.sg_open.proofs.Standing.{found_long, scanners_long}

-- ENDINGS

pub both_ok : {T E P Q R : Type 0} (r : Result T E) → (P → Q → R) → OnOk r P → OnOk r Q → OnOk r R
both_ok (Ok x) f p q = f p q
both_ok (Err e) f p q = tt

-- READING

abbrev pub GoodBallots : Plan → Rows → Type 0
GoodBallots plan rows = first_bad (ballot_keeps plan (act_in plan.version)) [] rows.ballots ≡ None

abbrev pub Damages : OpenFault → Setup → Rows → Type 0
Damages told setup rows = IsDamage told (damage_of setup (act_in setup.plan.version) rows)

pub ballots_at : (setup : Setup) (rows : Rows) (plan : Plan) (told : OpenFault) → plan ≡ setup.plan
    → IsDamage told (at_table 2 (first_bad (ballot_keeps plan (act_in plan.version)) [] rows.ballots)) → Damages told setup rows
ballots_at setup rows plan told same is =
    of_ballots setup rows told (subst (λ (p : Plan). IsDamage told (at_table 2 (first_bad (ballot_keeps p (act_in p.version)) [] rows.ballots))) same is)

pub stages_at : (setup : Setup) (rows : Rows) (plan : Plan) (told : OpenFault) → plan ≡ setup.plan → GoodBallots plan rows
    → IsDamage told (at_table 3 (first_bad (stage_keeps setup.plan (act_in setup.plan.version)) [] rows.stages)) → Damages told setup rows
stages_at setup rows plan told same good is = of_stages setup rows told (subst (λ (p : Plan). GoodBallots p rows) same good) is

pub claims_at : (setup : Setup) (rows : Rows) (plan : Plan) (drawn : Bool) (told : OpenFault) → plan ≡ setup.plan → drawn ≡ is_drawn_in rows → GoodBallots plan rows → bad_stages setup rows ≡ None
    → IsDamage told (at_table 4 (first_bad (claim_keeps plan drawn) [] rows.claims)) → Damages told setup rows
claims_at setup rows plan drawn told same draws good stages is =
    of_claims setup rows told (subst (λ (p : Plan). GoodBallots p rows) same good) stages
    (subst (λ (p : Plan). IsDamage told (at_table 4 (first_bad (claim_keeps p (is_drawn_in rows)) [] rows.claims))) same
    (subst (λ (d : Bool). IsDamage told (at_table 4 (first_bad (claim_keeps plan d) [] rows.claims))) draws is))

pub is_read : (setup : Setup) (rows : Rows) (stations : List ℕ → Option ℤ) (plan : Plan) (drawn : Bool) (start first : Found) (second third fourth : List (List ℕ))
    → plan ≡ setup.plan → drawn ≡ is_drawn_in rows → start ≡ nothing_found setup.plan → GoodBallots plan rows → first ≡ found_after plan stations start rows.ballots
    → bad_stages setup rows ≡ None → second ≡ first.told ++ map stage_text rows.stages
    → first_bad (claim_keeps plan drawn) [] rows.claims ≡ None → third ≡ second ++ filter_map (claim_text plan.version) rows.claims
    → fourth ≡ third ++ filter_map (void_text setup.plan.version) rows.voids → list_all is_utf8 fourth ≡ true
    → IsRead setup rows stations (record { told = fourth; slots = first.slots; scanners = first.scanners })
is_read setup rows stations plan drawn start first second third fourth same draws starts good firsts stages seconds claims thirds fourths utf8 =
    let found : first ≡ found_after setup.plan stations (nothing_found setup.plan) rows.ballots
    = firsts ∙ (ap (λ (p : Plan). found_after p stations start rows.ballots) same ∙ ap (λ (f : Found). found_after setup.plan stations f rows.ballots) starts) in
    let claimed : third ≡ second ++ filter_map (claim_text setup.plan.version) rows.claims
    = thirds ∙ ap (λ (p : Plan). second ++ filter_map (claim_text p.version) rows.claims) same in
    record {
      ballots = subst (λ (p : Plan). GoodBallots p rows) same good;
      stages = stages;
      claims = sym (ap (λ (p : Plan). first_bad (claim_keeps p drawn) [] rows.claims) same ∙ ap (λ (d : Bool). first_bad (claim_keeps setup.plan d) [] rows.claims) draws) ∙ claims;
      slots = ap (λ (f : Found). f.slots) found;
      scanners = ap (λ (f : Found). f.scanners) found;
      told = fourths ∙ ap (λ (t : List (List ℕ)). t ++ filter_map (void_text setup.plan.version) rows.voids)
          (claimed ∙ ap (λ (t : List (List ℕ)). t ++ filter_map (claim_text setup.plan.version) rows.claims)
          (seconds ∙ ap (λ (f : Found). f.told ++ map stage_text rows.stages) found));
      utf8 = utf8;
    }

-- JUDGING

pub read_long : (setup : Setup) (rows : Rows) (stations : List ℕ → Option ℤ) (found : Found) → IsRead setup rows stations found → length found.slots ≡ length found.scanners
read_long setup rows stations found read =
    (ap length read.slots ∙ (found_long setup.plan stations (nothing_found setup.plan) rows.ballots ∙ length-replicate (ballots_of setup.plan) (record { fate = fate.Unused; station = 0 })))
    ∙ sym (ap length read.scanners ∙ (scanners_long setup.plan stations (nothing_found setup.plan) rows.ballots ∙ length-replicate (ballots_of setup.plan) None))

read_dones : (setup : Setup) (rows : Rows) (stations : List ℕ → Option ℤ) (found : Found) (many : ℕ) → IsRead setup rows stations found → many ≡ length setup.secrets
    → done_fault many found.told rows.dones ≡ bad_dones setup rows
read_dones setup rows stations found many read long =
    ap (λ (n : ℕ). done_fault n found.told rows.dones) long ∙ gathered setup rows stations found.told read.ballots read.told

read_voids : (setup : Setup) (rows : Rows) (stations : List ℕ → Option ℤ) (found : Found) → IsRead setup rows stations found
    → ((text : List ℕ) → is_utf8 text ≡ true → stations text ≡ station_of text rows.dones)
    → first_bad (void_passes setup.plan.version stations found.scanners) [] rows.voids ≡ bad_voids setup rows
read_voids setup rows stations found read firsts =
    ap (λ (s : List (Option ℤ)). first_bad (void_passes setup.plan.version stations s) [] rows.voids) read.scanners ∙ voided setup rows stations firsts read.ballots

pub dones_at : (setup : Setup) (rows : Rows) (stations : List ℕ → Option ℤ) (found : Found) (many : ℕ) (told : OpenFault) → IsRead setup rows stations found → many ≡ length setup.secrets
    → IsDamage told (at_table 5 (done_fault many found.told rows.dones)) → Damages told setup rows
dones_at setup rows stations found many told read long is =
    of_dones setup rows told read.ballots read.stages read.claims
    (subst (λ (o : Option ℕ). IsDamage told (at_table 5 o)) (read_dones setup rows stations found many read long) is)

pub voids_at : (setup : Setup) (rows : Rows) (stations : List ℕ → Option ℤ) (found : Found) (many : ℕ) (told : OpenFault) → IsRead setup rows stations found → many ≡ length setup.secrets
    → ((text : List ℕ) → is_utf8 text ≡ true → stations text ≡ station_of text rows.dones)
    → done_fault many found.told rows.dones ≡ None
    → IsDamage told (at_table 6 (first_bad (void_passes setup.plan.version stations found.scanners) [] rows.voids)) → Damages told setup rows
voids_at setup rows stations found many told read long firsts dones is =
    of_voids setup rows told read.ballots read.stages read.claims (sym (read_dones setup rows stations found many read long) ∙ dones)
    (subst (λ (o : Option ℕ). IsDamage told (at_table 6 o)) (read_voids setup rows stations found read firsts) is)

pub is_judged : (setup : Setup) (rows : Rows) (stations : List ℕ → Option ℤ) (found : Found) (many : ℕ) (slots : List Slot) → IsRead setup rows stations found → many ≡ length setup.secrets
    → ((text : List ℕ) → is_utf8 text ≡ true → stations text ≡ station_of text rows.dones)
    → done_fault many found.told rows.dones ≡ None
    → first_bad (void_passes setup.plan.version stations found.scanners) [] rows.voids ≡ None
    → slots ≡ voided_after setup.plan.version stations found.scanners found.slots rows.voids
    → IsJudged setup rows stations slots
is_judged setup rows stations found many slots read long firsts dones voids is = record {
  none = of_none setup rows read.ballots read.stages read.claims (sym (read_dones setup rows stations found many read long) ∙ dones) (sym (read_voids setup rows stations found read firsts) ∙ voids);
  voids = sym (ap (λ (s : List (Option ℤ)). first_bad (void_passes setup.plan.version stations s) [] rows.voids) read.scanners) ∙ voids;
  slots = is ∙ (ap (λ (s : List (Option ℤ)). voided_after setup.plan.version stations s found.slots rows.voids) read.scanners
      ∙ ap (λ (s : List Slot). voided_after setup.plan.version stations (found_after setup.plan stations (nothing_found setup.plan) rows.ballots).scanners s rows.voids) read.slots);
}

-- OPENING

-- rows of no setup
pub opens_bad : (rows : Rows) (text : List ℕ) → rows.setup ≡ Some text → ((setup : Setup) → IsSetupText text setup → ⊥) → IsFault (fault.Damaged 1 1) rows
opens_bad rows text given none = inl (record { text = text; kept = given; none = none }, refl, refl)

-- rows of a setup
its_rows : (rows : Rows) (text : List ℕ) (setup : Setup) (damage : Option (ℕ × ℕ)) → rows.setup ≡ Some text → IsSetupText text setup → damage_of setup (act_in setup.plan.version) rows ≡ damage → IsOfSetup setup damage rows
its_rows rows text setup damage given its is = record {
  text = text;
  kept = given;
  setup_is = its;
  read = act_in setup.plan.version;
  reads = act_in_reads_acts setup its.0.plan;
  damage_is = is;
}

pub opens_whole : (rows : Rows) (text : List ℕ) (setup : Setup) → rows.setup ≡ Some text → IsSetupText text setup → damage_of setup (act_in setup.plan.version) rows ≡ None → OpenTo rows (Whole setup)
opens_whole rows text setup given its none = its_rows rows text setup None given its none

pub opens_damaged : (rows : Rows) (text : List ℕ) (setup : Setup) (told : OpenFault) → rows.setup ≡ Some text → IsSetupText text setup → Damages told setup rows → IsFault told rows
opens_damaged rows text setup fault.Empty given its is = absurd is
opens_damaged rows text setup (fault.Damaged table row) given its is = inr (setup, its_rows rows text setup (Some (table, row)) given its is)
opens_damaged rows text setup fault.NoMemory given its is = tt
