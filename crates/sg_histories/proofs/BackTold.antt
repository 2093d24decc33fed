-- What valid rows tell: the acts of ballots, the stage, and the claims.
use Rattle.std.proofs.Common.{◌≡◌, ℕ, ◌+◌, ◌<◌, ◌≤◌, ◌==◌, ◌^◌, nat_lt, Bool, true, false, ◌&&◌, cond, if◌then◌else◌, List, [], ◌∷◌, ◌++◌, length, map, count_by, bytes_eq, Option, Some, None, refl, ap, sym, ◌∙◌, arith}
use Rattle.std.specs.List.{list_all}
use Rattle.std.specs.Option.{option_and_then, option_map, option_map_or}
use Rattle.std.specs.Ordering.{int_eq}
use Rattle.std.specs.Prelude.{pos, ℤ, negsuc}
use Rattle.std.proofs.lemmas.Bool.{and_parts}
use Rattle.std.proofs.lemmas.Bool.Decides.{nat_tests}
use Rattle.std.proofs.lemmas.Int.{ints}
use Rattle.std.proofs.lemmas.List.{length-append}
use Rattle.std.proofs.lemmas.Option.{same_Some}
use Rattle.sg_lists.proofs.Bools.{one_if}
use Rattle.sg_plan.specs.Limits.{each_keeps, first_bad}
use Rattle.sg_plan.specs.declared.plan.Draw.{Draw}
use Rattle.sg_plan.specs.declared.plan.Stage.{Stage}
use Rattle.sg_plan.specs.declared.plan.Stage.TheVariants as stage
use Rattle.sg_acts.specs.declared.asks.Act.{Act}
use Rattle.sg_acts.specs.declared.asks.Act.TheVariants as act
use Rattle.sg_keeper.specs.declared.rows.BallotRow.{BallotRow}
use Rattle.sg_keeper.specs.declared.rows.ChangeRow.{ChangeRow}
use Rattle.sg_keeper.specs.declared.rows.ChangeRow.TheVariants as change
use Rattle.sg_keeper.specs.declared.rows.ClaimRow.{ClaimRow}
use Rattle.sg_keeper.specs.declared.rows.DoneRow.{DoneRow}
use Rattle.sg_keeper.specs.declared.rows.StageRow.{StageRow}
use Rattle.sg_keeper.specs.declared.rows.VoidRow.{VoidRow}
use Rattle.sg_keeper.specs.declared.setup.Setup.{Setup}
use Rattle.sg_desks.specs.ActTexts.{act_text, draw_word}
use Rattle.sg_histories.specs.Answers.{is_ballot}
use Rattle.sg_histories.specs.KeptRows.{row_of_act}
use Rattle.sg_histories.specs.Lawful.{IsAskable}
use Rattle.sg_histories.specs.Reading.{ReadsActs}
use Rattle.sg_histories.specs.ValidRows.{ballot_text, claim_act, claim_keeps, claim_text, count_told, differ, doer, fits, natural, row_fits, stage_keeps, stage_text, tells_fit, void_text}
use Rattle.sg_histories.specs.declared.kept.Claim.{Claim}
use Rattle.sg_histories.specs.inside.RowReading.{ReadsRows}
use Rattle.sg_histories.proofs.Accepted.{voids}
use Rattle.sg_histories.proofs.Back.{each_from, nat_of}
use Rattle.sg_histories.proofs.BackBallots.{RowActs}
use Rattle.sg_histories.proofs.BackClaims.{StageFits, claim_acts, claim_of, stage_acts}
use Rattle.sg_histories.proofs.BackLater.{void_number}
use Rattle.sg_histories.proofs.BackVoids.{differ_none, void_acts}
use Rattle.sg_histories.proofs.OutDones.{claim_row, claim_rows, close_row, count_cons, draw_row, is_said}
use Rattle.sg_histories.proofs.OutRows.{stage_rows}
use Rattle.sg_histories.proofs.OutVoids.{void_of}

-- texts of acts
abbrev pub texts : ℕ → List Act → List (List ℕ)
texts version acts = map (act_text version) acts

pub count_text : (version : ℕ) (text : List ℕ) (a : Act) (acts : List Act) → count_told text (texts version (a ∷ acts)) ≡ one_if (bytes_eq (act_text version a) text) + count_told text (texts version acts)
count_text version text a acts = count_cons (λ (w : List ℕ). bytes_eq w text) (act_text version a) (texts version acts)

-- BALLOTS

-- a row's text and act
pub record Told (setup : Setup) (read : List ℕ → Option Act) (said : Option (List ℕ)) : Type 0 where
  pub text : List ℕ
  pub is : said ≡ Some text
  pub done : Act
  pub reads_as : read text ≡ Some done
  pub fit : fits setup.plan done ≡ true

pub told_from : (setup : Setup) (read : List ℕ → Option Act) (said : Option (List ℕ)) → tells_fit setup.plan read said ≡ true → Told setup read said
told_from setup read None e = cc
told_from setup read (Some text) e = by_act (read text) refl e
  where
    by_act : (o : Option Act) → read text ≡ o → option_map_or (fits setup.plan) o false ≡ true → Told setup read (Some text)
    by_act None k f = cc
    by_act (Some done) k f = record { text = text; is = refl; done = done; reads_as = k; fit = f }

-- the acts of ballots
pub record ActsOf (setup : Setup) (ballots : List BallotRow) : Type 0 where
  pub acts : List Act
  pub are : RowActs setup ballots acts
  pub counts : (text : List ℕ) → count_told text (texts setup.plan.version acts) ≡ count_by (λ row. is_said text (ballot_text row)) ballots

pub acts_from : (setup : Setup) (read : List ℕ → Option Act) → ReadsActs setup read → ReadsRows setup read → (ballots : List BallotRow) → list_all (row_fits setup.plan read) ballots ≡ true → ActsOf setup ballots
acts_from setup read reads rows [] e = record { acts = []; are = tt; counts = λ text. refl }
acts_from setup read reads rows (r ∷ ballots) e =
    let parts = and_parts (row_fits setup.plan read r) (list_all (row_fits setup.plan read) ballots) e in
    let two = and_parts (option_map_or (is_ballot setup.plan) (natural r.ballot) false) (tells_fit setup.plan read (ballot_text r)) parts.0 in
    let t = told_from setup read (ballot_text r) two.1 in
    let only = reads.only t.text t.done t.reads_as t.fit in
    let rest = acts_from setup read reads rows ballots parts.1 in
    record {
      acts = t.done ∷ rest.acts;
      are = (record { act_is = only.0; fit = t.fit; row_is = rows.ballots r t.text t.done two.0 t.is t.reads_as t.fit }, rest.are);
      counts = λ text. (
          let a = count_text setup.plan.version text t.done rest.acts in
          let b = count_cons (λ (x : BallotRow). is_said text (ballot_text x)) r ballots in
          let c = rest.counts text in
          let d : one_if (is_said text (ballot_text r)) ≡ one_if (bytes_eq (act_text setup.plan.version t.done) text)
          = ap (λ (o : Option (List ℕ)). one_if (is_said text o)) t.is ∙ ap (λ (w : List ℕ). one_if (bytes_eq w text)) (sym only.1) in
          omega (arith, a, b, c, d));
    }

-- STAGES

pub record StageOf (setup : Setup) (stages : List StageRow) : Type 0 where
  pub now : Stage
  pub rows_are : stages ≡ stage_rows now
  pub fit : StageFits setup now
  pub counts : (text : List ℕ) → count_told text (texts setup.plan.version (stage_acts now)) ≡ count_by (λ row. bytes_eq (stage_text row) text) stages

pub same_int : (z : ℤ) (n : ℕ) → int_eq z (pos n) ≡ true → z ≡ pos n
same_int z n e = grind (arith, ints, e)

pub no_detail : (detail : List ℕ) → (length detail == 0) ≡ true → detail ≡ []
no_detail [] e = refl
no_detail (x ∷ xs) e = let k : length (x ∷ xs) ≡ 0 = grind (arith, nat_tests, e) in absurd (omega (arith, k))

pub stage_back : (a : ℤ) (b : List ℕ) (x : ℤ) (y : List ℕ) → a ≡ x → b ≡ y → ◌≡◌ {A = StageRow} (record { step = a; detail = b }) (record { step = x; detail = y })
stage_back a b x y e f = ap (λ (v : ℤ). record { step = v; detail = b }) e ∙ ap (λ (v : List ℕ). record { step = x; detail = v }) f

stage_same : (a b : StageRow) → ◌≡◌ {A = ChangeRow} (change.Stage a) (change.Stage b) → a ≡ b
stage_same a b e = cc

-- the first row is the close
first_stage : (row : StageRow) → (int_eq row.step (pos 1) && length row.detail == 0) ≡ true → row ≡ record { step = pos 1; detail = [] }
first_stage row e =
    let parts = and_parts (int_eq row.step (pos 1)) (length row.detail == 0) e in
    stage_back row.step row.detail (pos 1) [] (same_int row.step 1 parts.0) (no_detail row.detail parts.1)

-- and the second one a draw
pub record DrawOf (setup : Setup) (row : StageRow) : Type 0 where
  pub drawn : Draw
  pub act_is : IsAskable setup (act.Draw drawn)
  pub fit : fits setup.plan (act.Draw drawn) ≡ true
  pub row_is : row ≡ record { step = pos 2; detail = draw_word drawn }

second_stage : (setup : Setup) (read : List ℕ → Option Act) → ReadsActs setup read → ReadsRows setup read → (row : StageRow) → int_eq row.step (pos 2) ≡ true → tells_fit setup.plan read (Some (stage_text row)) ≡ true → DrawOf setup row
second_stage setup read reads rows row two told =
    let t = told_from setup read (Some (stage_text row)) told in
    let same : stage_text row ≡ t.text = same_Some (stage_text row) t.text t.is in
    let read_is : read (stage_text row) ≡ Some t.done = ap read same ∙ t.reads_as in
    by_act t.done (reads.only t.text t.done t.reads_as t.fit).0 t.fit (rows.draws row t.done (same_int row.step 2 two) read_is t.fit 0)
  where
    by_act : (done : Act) → IsAskable setup done → fits setup.plan done ≡ true → row_of_act setup.plan.version 0 done ≡ change.Stage row → DrawOf setup row
    by_act (act.Draw drawn) is fit e = record { drawn = drawn; act_is = is; fit = fit; row_is = sym (stage_same (record { step = pos 2; detail = draw_word drawn }) row e) }
    by_act act.Close is fit e =
        let k : row ≡ record { step = pos 1; detail = [] } = sym (stage_same (record { step = pos 1; detail = [] }) row e) in
        let z : int_eq (pos 1) (pos 2) ≡ true = ap (λ (r : StageRow). int_eq r.step (pos 2)) (sym k) ∙ two in
        (cc)
    by_act (act.Scan ballot marks) is fit e = cc
    by_act (act.Spoil ballot) is fit e = cc
    by_act (act.Audit ballot paper) is fit e = cc
    by_act (act.Void ballot) is fit e = cc
    by_act (act.Claim ballot race code) is fit e = cc

pub stages_from : (setup : Setup) (read : List ℕ → Option Act) → ReadsActs setup read → ReadsRows setup read → (stages : List StageRow) → first_bad (stage_keeps setup.plan read) [] stages ≡ None → StageOf setup stages
stages_from setup read reads rows [] e = record { now = stage.Voting; rows_are = refl; fit = tt; counts = λ text. refl }
stages_from setup read reads rows (a ∷ []) e =
    let p = and_parts (stage_keeps setup.plan read [] a) true (each_from (stage_keeps setup.plan read) (a ∷ []) e) in
    let one_is = first_stage a p.0 in
    record {
      now = stage.Closed;
      rows_are = ap (λ (r : StageRow). r ∷ []) one_is;
      fit = tt;
      counts = λ text. ap (λ (w : List ℕ). count_told text (w ∷ [])) (sym (close_row setup.plan.version)) ∙ ap (λ (r : StageRow). count_told text (stage_text r ∷ [])) (sym one_is);
    }
stages_from setup read reads rows (a ∷ b ∷ []) e =
    let p = and_parts (stage_keeps setup.plan read [] a) _ (each_from (stage_keeps setup.plan read) (a ∷ b ∷ []) e) in
    let q = and_parts (stage_keeps setup.plan read (a ∷ []) b) true p.1 in
    let r = and_parts (int_eq b.step (pos 2)) (tells_fit setup.plan read (Some (stage_text b))) q.0 in
    let one_is = first_stage a p.0 in
    let d = second_stage setup read reads rows b r.0 r.1 in
    record {
      now = stage.Drawn d.drawn;
      rows_are = ap (λ (x : StageRow). x ∷ b ∷ []) one_is ∙ ap (λ (x : StageRow). record { step = pos 1; detail = [] } ∷ x ∷ []) d.row_is;
      fit = (d.act_is, d.fit);
      counts = λ text. (
          let x = count_text setup.plan.version text (act.Draw d.drawn) (act.Close ∷ []) in
          let y = count_text setup.plan.version text act.Close [] in
          let z = count_cons (λ (s : StageRow). bytes_eq (stage_text s) text) a (b ∷ []) in
          let w = count_cons (λ (s : StageRow). bytes_eq (stage_text s) text) b [] in
          let c : one_if (bytes_eq (stage_text a) text) ≡ one_if (bytes_eq (act_text setup.plan.version act.Close) text) = ap (λ (s : StageRow). one_if (bytes_eq (stage_text s) text)) one_is ∙ ap (λ (v : List ℕ). one_if (bytes_eq v text)) (close_row setup.plan.version) in
          let f : one_if (bytes_eq (stage_text b) text) ≡ one_if (bytes_eq (act_text setup.plan.version (act.Draw d.drawn)) text) = ap (λ (s : StageRow). one_if (bytes_eq (stage_text s) text)) d.row_is ∙ ap (λ (v : List ℕ). one_if (bytes_eq v text)) (draw_row setup.plan.version d.drawn) in
          omega (arith, x, y, z, w, c, f));
    }
stages_from setup read reads rows (a ∷ b ∷ c ∷ more) e =
    let keeps : List StageRow → StageRow → Bool = stage_keeps setup.plan read in
    let p = and_parts (keeps [] a) (each_keeps keeps (a ∷ []) (b ∷ c ∷ more)) (each_from keeps (a ∷ b ∷ c ∷ more) e) in
    let q = and_parts (keeps (a ∷ []) b) (each_keeps keeps (a ∷ b ∷ []) (c ∷ more)) p.1 in
    let r = and_parts (keeps (a ∷ b ∷ []) c) (each_keeps keeps (a ∷ b ∷ c ∷ []) more) q.1 in
    absurd (no_third r.0)
  where
    no_third : (if length (a ∷ b ∷ []) == 0 then (int_eq c.step (pos 1) && length c.detail == 0) else ((length (a ∷ b ∷ []) == 1 && int_eq c.step (pos 2)) && tells_fit setup.plan read (Some (stage_text c)))) ≡ true → ⊥
    no_third k = cc

-- CLAIMS

-- a claim's row and its claim
pub record ClaimFact (setup : Setup) (before : ℕ) (row : ClaimRow) : Type 0 where
  pub claim : Claim
  pub row_is : row ≡ claim_row before claim
  pub fit : fits setup.plan (claim_of claim) ≡ true

claim_back : (a b c d x y z w : ℤ) → a ≡ x → b ≡ y → c ≡ z → d ≡ w → ◌≡◌ {A = ClaimRow} (record { claim = a; ballot = b; race = c; code = d }) (record { claim = x; ballot = y; race = z; code = w })
claim_back a b c d x y z w e f g h =
    ap (λ (v : ℤ). record { claim = v; ballot = b; race = c; code = d }) e ∙ (ap (λ (v : ℤ). record { claim = x; ballot = v; race = c; code = d }) f
    ∙ (ap (λ (v : ℤ). record { claim = x; ballot = y; race = v; code = d }) g ∙ ap (λ (v : ℤ). record { claim = x; ballot = y; race = z; code = v }) h))

-- what the three numbers of a claim's row tell
abbrev pub claim_said : ℤ → ℤ → ℤ → Option Act
claim_said b r c = option_and_then (λ ballot. option_and_then (λ race. option_map (act.Claim ballot race) (natural c)) (natural r)) (natural b)

claim_fact : (setup : Setup) (before : ℕ) (row : ClaimRow) → row.claim ≡ pos (before + 1) → option_map_or (fits setup.plan) (claim_act row) false ≡ true → ClaimFact setup before row
claim_fact setup before row number e = by_numbers row.ballot row.race row.code refl refl refl e
  where
    by_numbers : (b r c : ℤ) → row.ballot ≡ b → row.race ≡ r → row.code ≡ c → option_map_or (fits setup.plan) (claim_said b r c) false ≡ true → ClaimFact setup before row
    by_numbers (pos b) (pos r) (pos c) x y z k = record {
      claim = record { ballot = b; race = r; code = c };
      row_is = claim_back row.claim row.ballot row.race row.code (pos (before + 1)) (pos b) (pos r) (pos c) number x y z;
      fit = k;
    }
    by_numbers (negsuc b) r c x y z k = cc
    by_numbers (pos b) (negsuc r) c x y z k = cc
    by_numbers (pos b) (pos r) (negsuc c) x y z k = cc

pub record ClaimsOf (setup : Setup) (before : ℕ) (drawn : Bool) (rows : List ClaimRow) : Type 0 where
  pub claims : List Claim
  pub rows_are : rows ≡ claim_rows before claims
  pub fit : list_all (λ claim. fits setup.plan (claim_of claim)) claims ≡ true
  pub few : before + length claims ≤ 10000
  pub early : drawn ≡ false → claims ≡ []
  pub counts : (text : List ℕ) (acts : List Act) → count_told text (texts setup.plan.version (claim_acts claims acts)) ≡ count_by (λ row. is_said text (claim_text setup.plan.version row)) rows + count_told text (texts setup.plan.version acts)

pub claims_from : (setup : Setup) (drawn : Bool) (rows earlier : List ClaimRow) (before : ℕ) → length earlier ≡ before → before ≤ 10000 → each_keeps (claim_keeps setup.plan drawn) earlier rows ≡ true → ClaimsOf setup before drawn rows
claims_from setup drawn [] earlier before long low e = record { claims = []; rows_are = refl; fit = refl; few = omega (arith, low); early = λ k. refl; counts = λ text acts. omega arith }
claims_from setup drawn (r ∷ rows) earlier before long low e =
    let parts = and_parts (claim_keeps setup.plan drawn earlier r) (each_keeps (claim_keeps setup.plan drawn) (earlier ++ r ∷ []) rows) e in
    let two = and_parts (int_eq r.claim (pos (length earlier + 1)) && nat_lt (length earlier) 10000) (drawn && option_map_or (fits setup.plan) (claim_act r) false) parts.0 in
    let three = and_parts (int_eq r.claim (pos (length earlier + 1))) (nat_lt (length earlier) 10000) two.0 in
    let four = and_parts drawn (option_map_or (fits setup.plan) (claim_act r) false) two.1 in
    let number : r.claim ≡ pos (before + 1) = same_int r.claim (length earlier + 1) three.0 ∙ ap (λ (n : ℕ). pos (n + 1)) long in
    let room : length earlier < 10000 = (let k = three.1 in grind (arith, nat_tests, k)) in
    let fact = claim_fact setup before r number four.1 in
    let rest = claims_from setup drawn rows (earlier ++ r ∷ []) (before + 1) (let l = length-append earlier (r ∷ []) in omega (arith, l, long)) (omega (arith, room, long)) parts.1 in
    record {
      claims = fact.claim ∷ rest.claims;
      rows_are = ap (λ (x : ClaimRow). x ∷ rows) fact.row_is ∙ ap (λ (l : List ClaimRow). claim_row before fact.claim ∷ l) rest.rows_are;
      fit = rw (fact.fit) rest.fit;
      few = (let f : (before + 1) + length rest.claims ≤ 10000 = rest.few in omega (arith, f));
      early = λ k. absurd (clash drawn four.0 k);
      counts = λ text acts. (
          let a = rest.counts text (claim_of fact.claim ∷ acts) in
          let b = count_text setup.plan.version text (claim_of fact.claim) acts in
          let c = count_cons (λ (x : ClaimRow). is_said text (claim_text setup.plan.version x)) r rows in
          let d : one_if (is_said text (claim_text setup.plan.version r)) ≡ one_if (bytes_eq (act_text setup.plan.version (claim_of fact.claim)) text) = ap (λ (x : ClaimRow). one_if (is_said text (claim_text setup.plan.version x))) fact.row_is in
          omega (arith, a, b, c, d));
    }
  where
    clash : (b : Bool) → b ≡ true → b ≡ false → ⊥
    clash b t f = cc

-- VOIDS

void_said : (setup : Setup) (all : List DoneRow) (scan : Option ℤ) (row : VoidRow) → differ scan (doer all (void_text setup.plan.version row)) ≡ true → void_text setup.plan.version row ≡ Some (void_of setup (void_number row))
void_said setup all scan row e = by_number row.ballot refl
  where
    none : void_text setup.plan.version row ≡ None → ⊥
    none k = differ_none scan (ap (λ (o : Option (List ℕ)). differ scan (doer all o)) (sym k) ∙ e)

    by_number : (z : ℤ) → row.ballot ≡ z → void_text setup.plan.version row ≡ Some (void_of setup (void_number row))
    by_number (negsuc n) at = absurd (none (ap (λ (v : ℤ). void_text setup.plan.version (record { ballot = v })) at))
    by_number (pos n) at = by_small (nat_lt n (2 ^ 32)) refl
      where
        by_small : (t : Bool) → nat_lt n (2 ^ 32) ≡ t → void_text setup.plan.version row ≡ Some (void_of setup (void_number row))
        by_small false k = absurd (none (ap (λ (v : ℤ). void_text setup.plan.version (record { ballot = v })) at ∙ ap (λ b. cond b (Some (void_of setup n)) None) k))
        by_small true k = ap (λ (v : ℤ). void_text setup.plan.version (record { ballot = v })) at ∙ (ap (λ b. cond b (Some (void_of setup n)) None) k ∙ ap (λ (v : ℤ). Some (void_of setup (nat_of v))) (sym at))

pub void_counts : (setup : Setup) (all : List DoneRow) (scan : VoidRow → Option ℤ) (voids : List VoidRow) → list_all (λ row. differ (scan row) (doer all (void_text setup.plan.version row))) voids ≡ true
    → (text : List ℕ) (acts : List Act) → count_told text (texts setup.plan.version (void_acts voids ++ acts)) ≡ count_by (λ row. is_said text (void_text setup.plan.version row)) voids + count_told text (texts setup.plan.version acts)
void_counts setup all scan [] e text acts = omega arith
void_counts setup all scan (r ∷ voids) e text acts =
    let parts = and_parts (differ (scan r) (doer all (void_text setup.plan.version r))) _ e in
    let a = count_text setup.plan.version text (act.Void (void_number r)) (void_acts voids ++ acts) in
    let b = count_cons (λ (x : VoidRow). is_said text (void_text setup.plan.version x)) r voids in
    let c = void_counts setup all scan voids parts.1 text acts in
    let d : one_if (is_said text (void_text setup.plan.version r)) ≡ one_if (bytes_eq (void_of setup (void_number r)) text) = ap (λ (o : Option (List ℕ)). one_if (is_said text o)) (void_said setup all (scan r) r parts.0) in
    omega (arith, a, b, c, d)
