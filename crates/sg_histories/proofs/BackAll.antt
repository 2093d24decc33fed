-- Valid rows are those of a lawful history.
use Rattle.std.proofs.Common.{◌≡◌, ℕ, zero, suc, ◌+◌, ◌<◌, ◌≤◌, nat_lt, nat_le, Bool, true, false, ◌&&◌, cond, List, [], ◌∷◌, ◌++◌, length, map, count_by, bytes_eq, Option, Some, None, refl, ap, sym, ◌∙◌, arith, subst}
use Rattle.std.specs.List.{list_all}
use Rattle.std.proofs.lemmas.Bool.{and_parts}
use Rattle.std.proofs.lemmas.Bool.Decides.{nat_tests}
use Rattle.std.proofs.lemmas.List.{append_assoc, append-nil}
use Rattle.std.proofs.lemmas.Slice.Eq.{bytes_eq-Decides}
use Rattle.sg_lists.proofs.Bools.{one_if}
use Rattle.sg_lists.proofs.Counting.{count_by-append}
use Rattle.sg_lists.proofs.Lists.{cons_parts}
use Rattle.sg_plan.specs.Limits.{each_keeps, first_bad, first_of}
use Rattle.sg_plan.specs.declared.plan.Stage.{Stage}
use Rattle.sg_plan.specs.declared.plan.Stage.TheVariants as stage
use Rattle.sg_keeper.specs.Rows.{ballot_before, ballot_is, done_before, done_is, put, void_before, void_is, with_row}
use Rattle.sg_acts.specs.declared.asks.Act.{Act}
use Rattle.sg_acts.specs.declared.asks.Act.TheVariants as act
use Rattle.sg_keeper.specs.declared.rows.BallotRow.{BallotRow}
use Rattle.sg_keeper.specs.declared.rows.ClaimRow.{ClaimRow}
use Rattle.sg_keeper.specs.declared.rows.DoneRow.{DoneRow}
use Rattle.sg_keeper.specs.declared.rows.Rows.{Rows}
use Rattle.sg_keeper.specs.declared.rows.StageRow.{StageRow}
use Rattle.sg_keeper.specs.declared.rows.VoidRow.{VoidRow}
use Rattle.sg_keeper.specs.declared.setup.Setup.{Setup}
use Rattle.sg_desks.specs.ActTexts.{act_text}
use Rattle.sg_histories.specs.Answers.{is_drawn}
use Rattle.sg_histories.specs.Histories.{Entry, claims_of, phase_word}
use Rattle.sg_histories.specs.KeptRows.{row_of_act, rows_of}
use Rattle.sg_histories.specs.Reading.{ReadsActs}
use Rattle.sg_histories.specs.RowLaws.{ValidRowsStand}
use Rattle.sg_histories.specs.ValidRows.{all_done, at_table, ballot_keeps, claim_keeps, climbs, count_done, count_told, damage_of, differ, doer, done_fault, done_keeps, fits, is_drawn_in, is_stamp, or_missing, row_fits, scan_text, stage_keeps, station_of, told_by, void_keeps, void_text}
use Rattle.sg_histories.specs.declared.kept.Claim.{Claim}
use Rattle.sg_histories.specs.inside.RowReading.{ReadsRows}
use Rattle.sg_histories.proofs.Accepted.{early, voids}
use Rattle.sg_histories.proofs.Back.{all_from, each_from, rises_from}
use Rattle.sg_histories.proofs.BackBallots.{Match}
use Rattle.sg_histories.proofs.BackClaims.{Good, Leads, StageFits, claim_acts, claim_of, claims_lead, stage_acts, stages_lead}
use Rattle.sg_histories.proofs.BackTold.{ActsOf, ClaimsOf, StageOf, acts_from, claims_from, count_text, stages_from, texts, void_counts}
use Rattle.sg_histories.proofs.BackVoids.{void_acts, voids_lead}
use Rattle.sg_histories.proofs.DoneOrder.{done_asym}
use Rattle.sg_histories.proofs.Fitting.{claims}
use Rattle.sg_histories.proofs.OutDones.{claim_rows, claims_out, count_cons, count_tables}
use Rattle.sg_histories.proofs.OutRows.{stage_rows, stages_out}
use Rattle.sg_histories.proofs.Pairing.{Rises, how_many, pair_off, put_all}
use Rattle.sg_histories.proofs.Rising.{ballot_order, done_order, void_order}

-- COUNTS

-- no more done rows have an act than tables tell it
count_upto : (stations : ℕ) (told : List (List ℕ)) (earlier rows : List DoneRow) → each_keeps (done_keeps stations told) earlier rows ≡ true
    → (text : List ℕ) → count_done text earlier ≤ count_told text told → count_done text (earlier ++ rows) ≤ count_told text told
count_upto stations told earlier [] e text few = subst (λ (l : List DoneRow). count_done text l ≤ count_told text told) (sym (append-nil earlier)) few
count_upto stations told earlier (x ∷ xs) e text few =
    let parts = and_parts (done_keeps stations told earlier x) (each_keeps (done_keeps stations told) (earlier ++ x ∷ []) xs) e in
    let low = (and_parts (climbs done_before earlier x && is_stamp stations x) (nat_lt (count_done x.act earlier) (count_told x.act told)) parts.0).1 in
    let a = count_by-append (λ (r : DoneRow). bytes_eq r.act text) earlier (x ∷ []) in
    let b = count_cons (λ (r : DoneRow). bytes_eq r.act text) x [] in
    subst (λ (l : List DoneRow). count_done text l ≤ count_told text told) (append_assoc earlier (x ∷ []) xs)
    (count_upto stations told (earlier ++ x ∷ []) xs parts.1 text (by_text (bytes_eq x.act text) refl low a b))
  where
    by_text : (t : Bool) → bytes_eq x.act text ≡ t → nat_lt (count_done x.act earlier) (count_told x.act told) ≡ true
        → count_done text (earlier ++ x ∷ []) ≡ count_done text earlier + count_done text (x ∷ []) → count_done text (x ∷ []) ≡ one_if (bytes_eq x.act text) + 0
        → count_done text (earlier ++ x ∷ []) ≤ count_told text told
    by_text true k low a b =
        let is : x.act ≡ text = (bytes_eq-Decides x.act text).0 k in
        let below : nat_lt (count_done text earlier) (count_told text told) ≡ true = ap (λ (w : List ℕ). nat_lt (count_done w earlier) (count_told w told)) (sym is) ∙ low in
        let less : count_done text earlier < count_told text told = grind (arith, nat_tests, below) in
        let z : one_if (bytes_eq x.act text) ≡ 1 = ap one_if k in
        omega (arith, a, b, z, less)
    by_text false k low a b =
        let z : one_if (bytes_eq x.act text) ≡ 0 = ap one_if k in
        omega (arith, a, b, z, few)

-- and no fewer
all_least : (told some : List (List ℕ)) (rows : List DoneRow) → list_all (λ text. nat_le (count_told text told) (count_done text rows)) some ≡ true
    → (text : List ℕ) → 0 < count_told text some → count_told text told ≤ count_done text rows
all_least told [] rows e text more = absurd (omega (arith, more))
all_least told (x ∷ some) rows e text more =
    let parts = and_parts (nat_le (count_told x told) (count_done x rows)) (list_all (λ w. nat_le (count_told w told) (count_done w rows)) some) e in
    by_text (bytes_eq x text) refl parts.0 (count_cons (λ (w : List ℕ). bytes_eq w text) x some) (all_least told some rows parts.1 text)
  where
    by_text : (t : Bool) → bytes_eq x text ≡ t → nat_le (count_told x told) (count_done x rows) ≡ true → count_told text (x ∷ some) ≡ one_if (bytes_eq x text) + count_told text some
        → (0 < count_told text some → count_told text told ≤ count_done text rows) → count_told text told ≤ count_done text rows
    by_text true k low c ih =
        let is : x ≡ text = (bytes_eq-Decides x text).0 k in
        let here : nat_le (count_told text told) (count_done text rows) ≡ true = ap (λ (w : List ℕ). nat_le (count_told w told) (count_done w rows)) (sym is) ∙ low in
        grind (arith, nat_tests, here)
    by_text false k low c ih =
        let z : one_if (bytes_eq x text) ≡ 0 = ap one_if k in
        ih (let m : 0 < count_told text (x ∷ some) = more in omega (arith, c, z, m))

no_missing : (b : Bool) (last : ℕ) (place : Option ℕ) → or_missing b last place ≡ None → (place ≡ None) × (b ≡ true)
no_missing b last (Some x) e = cc
no_missing true last None e = (refl, refl)
no_missing false last None e = cc

counts_equal : (stations : ℕ) (told : List (List ℕ)) (rows : List DoneRow) → done_fault stations told rows ≡ None → (text : List ℕ) → count_told text told ≡ count_done text rows
counts_equal stations told rows e text =
    let parts = no_missing (all_done told rows) (length rows) (first_bad (done_keeps stations told) [] rows) e in
    let most = count_upto stations told [] rows (each_from (done_keeps stations told) rows parts.0) text (omega arith) in
    by_some (count_told text told) refl most (all_least told told rows parts.1 text)
  where
    by_some : (n : ℕ) → count_told text told ≡ n → count_done text rows ≤ count_told text told → (0 < count_told text told → count_told text told ≤ count_done text rows) → count_told text told ≡ count_done text rows
    by_some zero k most least = omega (arith, k, most)
    by_some (suc n) k most least = (let l = least (omega (arith, k)) in omega (arith, l, most))

how_count : {A : Type 0} (p : A → Bool) (xs : List A) → how_many p xs ≡ count_by p xs
how_count p [] = refl
how_count p (x ∷ xs) = by_test (p x) refl (how_count p xs) (count_cons p x xs)
  where
    by_test : (b : Bool) → p x ≡ b → how_many p xs ≡ count_by p xs → count_by p (x ∷ xs) ≡ one_if (p x) + count_by p xs → how_many p (x ∷ xs) ≡ count_by p (x ∷ xs)
    by_test true k ih c = (let a : how_many p (x ∷ xs) ≡ 1 + how_many p xs = ap (λ b. Rattle.sg_histories.proofs.Pairing.one b + how_many p xs) k in let z : one_if (p x) ≡ 1 = ap one_if k in omega (arith, a, z, ih, c))
    by_test false k ih c = (let a : how_many p (x ∷ xs) ≡ 0 + how_many p xs = ap (λ b. Rattle.sg_histories.proofs.Pairing.one b + how_many p xs) k in let z : one_if (p x) ≡ 0 = ap one_if k in omega (arith, a, z, ih, c))

texts_append : (version : ℕ) (text : List ℕ) (xs ys : List Act) → count_told text (texts version (xs ++ ys)) ≡ count_told text (texts version xs) + count_told text (texts version ys)
texts_append version text [] ys = omega arith
texts_append version text (x ∷ xs) ys =
    let a = count_text version text x (xs ++ ys) in
    let b = count_text version text x xs in
    let c = texts_append version text xs ys in
    omega (arith, a, b, c)

-- PAIRS

match_from : (version : ℕ) (acts : List Act) (items : List DoneRow) → map (λ (d : DoneRow). d.act) items ≡ texts version acts → Match version acts items
match_from version [] [] e = tt
match_from version [] (d ∷ ds) e = cc
match_from version (a ∷ acts) [] e = cc
match_from version (a ∷ acts) (d ∷ ds) e =
    ((cons_parts e).0, match_from version acts ds (cons_parts e).1)

all_out : {A : Type 0} (before : A → A → Bool) (p : A → Bool) (row : A) (xs : List A) → list_all p (put before row xs) ≡ true → (p row ≡ true) × (list_all p xs ≡ true)
all_out before p row [] e = ((and_parts (p row) true e).0, refl)
all_out {A} before p row (x ∷ xs) e = by_order (before row x) e (λ k. all_out before p row xs k)
  where
    by_order : (b : Bool) → list_all p (cond b (row ∷ x ∷ xs) (x ∷ put before row xs)) ≡ true → (list_all p (put before row xs) ≡ true → (p row ≡ true) × (list_all p xs ≡ true)) → (p row ≡ true) × (list_all p (x ∷ xs) ≡ true)
    by_order true k ih = and_parts (p row) (list_all p (x ∷ xs)) k
    by_order false k ih = (let parts = and_parts (p x) (list_all p (put before row xs)) k in let rest = ih parts.1 in (rest.0, rw (parts.0) rest.1))

all_items : {A : Type 0} (before : A → A → Bool) (p : A → Bool) (items : List A) → list_all p (put_all before items) ≡ true → list_all p items ≡ true
all_items before p [] e = refl
all_items before p (x ∷ xs) e = (let parts = all_out before p x (put_all before xs) e in rw (parts.0) (all_items before p xs parts.1))

-- ROWS

rows_same : (a : Option (List ℕ)) (b : List BallotRow) (c : List StageRow) (d : List ClaimRow) (e : List VoidRow) (f : List DoneRow) (g : Option (List ℕ)) (h : List BallotRow) (i : List StageRow) (j : List ClaimRow) (k : List VoidRow) (l : List DoneRow) → a ≡ g → b ≡ h → c ≡ i → d ≡ j → e ≡ k → f ≡ l
    → ◌≡◌ {A = Rows} (record { setup = a; ballots = b; stages = c; claims = d; voids = e; dones = f }) (record { setup = g; ballots = h; stages = i; claims = j; voids = k; dones = l })
rows_same a b c d e f g h i j k l p q r s t u =
    ap (λ (x : Option (List ℕ)). record { setup = x; ballots = b; stages = c; claims = d; voids = e; dones = f }) p
    ∙ (ap (λ (x : List BallotRow). record { setup = g; ballots = x; stages = c; claims = d; voids = e; dones = f }) q
    ∙ (ap (λ (x : List StageRow). record { setup = g; ballots = h; stages = x; claims = d; voids = e; dones = f }) r
    ∙ (ap (λ (x : List ClaimRow). record { setup = g; ballots = h; stages = i; claims = x; voids = e; dones = f }) s
    ∙ (ap (λ (x : List VoidRow). record { setup = g; ballots = h; stages = i; claims = j; voids = x; dones = f }) t
    ∙ ap (λ (x : List DoneRow). record { setup = g; ballots = h; stages = i; claims = j; voids = k; dones = x }) u))))

pub setup_kept : (setup : Setup) (text : List ℕ) (history : List Entry) → (rows_of setup text history).setup ≡ Some text
setup_kept setup text [] = refl
setup_kept setup text (entry ∷ history) = by_act entry.act (setup_kept setup text history)
  where
    by_act : (done : Act) → (rows_of setup text history).setup ≡ Some text → (with_row (rows_of setup text history) (row_of_act setup.plan.version (length (claims_of history)) done)).setup ≡ Some text
    by_act (act.Scan ballot marks) e = e
    by_act (act.Spoil ballot) e = e
    by_act (act.Audit ballot paper) e = e
    by_act (act.Void ballot) e = e
    by_act act.Close e = e
    by_act (act.Draw drawn) e = e
    by_act (act.Claim ballot race code) e = e

-- claims only behind a draw
late_lead : (setup : Setup) (read : List ℕ → Option Act) → ReadsActs setup read → (text : List ℕ) (all : List DoneRow) (ballots : List BallotRow) (voids : List VoidRow) (claims : List Claim) (acts : List Act)
    → Leads setup text all ballots voids acts stage.Voting [] → (now : Stage) → StageFits setup now → (is_drawn (phase_word now) ≡ false → claims ≡ [])
    → list_all (λ claim. fits setup.plan (claim_of claim)) claims ≡ true → 0 + length claims ≤ 10000
    → Leads setup text all ballots voids (claim_acts claims (stage_acts now ++ acts)) now claims
late_lead setup read reads text all ballots voids claims acts base stage.Voting fit early good few =
    subst (λ (l : List Claim). Leads setup text all ballots voids (claim_acts l acts) stage.Voting l) (sym (early refl)) base
late_lead setup read reads text all ballots voids claims acts base stage.Closed fit early good few =
    subst (λ (l : List Claim). Leads setup text all ballots voids (claim_acts l (act.Close ∷ acts)) stage.Closed l) (sym (early refl)) (stages_lead setup read reads text all ballots voids acts base stage.Closed fit)
late_lead setup read reads text all ballots voids claims acts base (stage.Drawn drawn) fit early good few =
    claims_lead setup read reads text all ballots voids drawn claims [] (stage_acts (stage.Drawn drawn) ++ acts) good few (stages_lead setup read reads text all ballots voids acts base (stage.Drawn drawn) fit)

drawn_count : (now : Stage) → nat_le 2 (length (stage_rows now)) ≡ is_drawn (phase_word now)
drawn_count stage.Voting = refl
drawn_count stage.Closed = refl
drawn_count (stage.Drawn drawn) = refl

five_none : (a b c d e : Option ℕ) → first_of (at_table 2 a ∷ at_table 3 b ∷ at_table 4 c ∷ at_table 5 d ∷ at_table 6 e ∷ []) ≡ None → (a ≡ None) × (b ≡ None) × (c ≡ None) × (d ≡ None) × (e ≡ None)
five_none None None None None None p = (refl, refl, refl, refl, refl)
five_none (Some x) b c d e p = cc
five_none None (Some x) c d e p = cc
five_none None None (Some x) d e p = cc
five_none None None None (Some x) e p = cc
five_none None None None None (Some x) p = cc

-- what each table of valid rows gives
pub record Tables (setup : Setup) (rows : Rows) : Type 0 where
  pub ballots_rise : Rises ballot_before rows.ballots
  pub ballots : ActsOf setup rows.ballots
  pub stages : StageOf setup rows.stages
  pub claims : ClaimsOf setup 0 (is_drawn_in rows) rows.claims
  pub dones_rise : Rises done_before rows.dones
  pub stamps : list_all (is_stamp (length setup.secrets)) rows.dones ≡ true
  pub counts : (text : List ℕ) → count_told text (told_by setup.plan.version rows) ≡ count_done text rows.dones
  pub voids_rise : Rises void_before rows.voids
  pub voids_differ : list_all (λ row. differ (doer rows.dones (scan_text row.ballot rows.ballots)) (doer rows.dones (void_text setup.plan.version row))) rows.voids ≡ true

tables_of : (setup : Setup) (read : List ℕ → Option Act) → ReadsActs setup read → ReadsRows setup read → (rows : Rows) → damage_of setup read rows ≡ None → Tables setup rows
unfolding damage_of
tables_of setup read reads spelled rows e =
    let f = five_none (first_bad (ballot_keeps setup.plan read) [] rows.ballots) (first_bad (stage_keeps setup.plan read) [] rows.stages) (first_bad (claim_keeps setup.plan (is_drawn_in rows)) [] rows.claims)
    (done_fault (length setup.secrets) (told_by setup.plan.version rows) rows.dones) (first_bad (void_keeps setup.plan.version rows) [] rows.voids) e in
    let bs = each_from (ballot_keeps setup.plan read) rows.ballots f.0 in
    let vs = each_from (void_keeps setup.plan.version rows) rows.voids f.4 in
    let ds = each_from (done_keeps (length setup.secrets) (told_by setup.plan.version rows)) rows.dones
    (no_missing (all_done (told_by setup.plan.version rows) rows.dones) (length rows.dones) (first_bad (done_keeps (length setup.secrets) (told_by setup.plan.version rows)) [] rows.dones) f.3).0 in
    record {
      ballots_rise = rises_from ballot_before ballot_is (ballot_keeps setup.plan read) ballot_order (λ front x k. (and_parts (climbs ballot_before front x) (row_fits setup.plan read x) k).0) [] rows.ballots bs;
      ballots = acts_from setup read reads spelled rows.ballots
          (all_from (ballot_keeps setup.plan read) (row_fits setup.plan read) (λ front x k. (and_parts (climbs ballot_before front x) (row_fits setup.plan read x) k).1) [] rows.ballots bs);
      stages = stages_from setup read reads spelled rows.stages f.1;
      claims = claims_from setup (is_drawn_in rows) rows.claims [] 0 refl (omega arith) (each_from (claim_keeps setup.plan (is_drawn_in rows)) rows.claims f.2);
      dones_rise = rises_from done_before done_is (done_keeps (length setup.secrets) (told_by setup.plan.version rows)) done_order
          (λ front x k. (and_parts (climbs done_before front x) (is_stamp (length setup.secrets) x) (and_parts (climbs done_before front x && is_stamp (length setup.secrets) x) (nat_lt (count_done x.act front) (count_told x.act (told_by setup.plan.version rows))) k).0).0) [] rows.dones ds;
      stamps = all_from (done_keeps (length setup.secrets) (told_by setup.plan.version rows)) (is_stamp (length setup.secrets))
          (λ front x k. (and_parts (climbs done_before front x) (is_stamp (length setup.secrets) x) (and_parts (climbs done_before front x && is_stamp (length setup.secrets) x) (nat_lt (count_done x.act front) (count_told x.act (told_by setup.plan.version rows))) k).0).1) [] rows.dones ds;
      counts = counts_equal (length setup.secrets) (told_by setup.plan.version rows) rows.dones f.3;
      voids_rise = rises_from void_before void_is (void_keeps setup.plan.version rows) void_order
          (λ front x k. (and_parts (climbs void_before front x) (differ (doer rows.dones (scan_text x.ballot rows.ballots)) (doer rows.dones (void_text setup.plan.version x))) k).0) [] rows.voids vs;
      voids_differ = all_from (void_keeps setup.plan.version rows) (λ row. differ (doer rows.dones (scan_text row.ballot rows.ballots)) (doer rows.dones (void_text setup.plan.version row)))
          (λ front x k. (and_parts (climbs void_before front x) (differ (doer rows.dones (scan_text x.ballot rows.ballots)) (doer rows.dones (void_text setup.plan.version x))) k).1) [] rows.voids vs;
    }

-- the acts of valid rows, the newest first: claims, stages, voids, ballots
abbrev pub all_acts : {setup : Setup} {rows : Rows} → Tables setup rows → List Act
all_acts {setup} {rows} t = claim_acts t.claims.claims (stage_acts t.stages.now ++ (void_acts rows.voids ++ t.ballots.acts))

acts_counted : (setup : Setup) (rows : Rows) (t : Tables setup rows) (text : List ℕ) → count_told text (texts setup.plan.version (all_acts t)) ≡ count_done text rows.dones
acts_counted setup rows t text =
    let a = t.claims.counts text (stage_acts t.stages.now ++ (void_acts rows.voids ++ t.ballots.acts)) in
    let b = texts_append setup.plan.version text (stage_acts t.stages.now) (void_acts rows.voids ++ t.ballots.acts) in
    let c = void_counts setup rows.dones (λ row. doer rows.dones (scan_text row.ballot rows.ballots)) rows.voids t.voids_differ text t.ballots.acts in
    let d = t.ballots.counts text in
    let e = t.stages.counts text in
    let f = count_tables setup.plan.version text rows in
    let g = t.counts text in
    omega (arith, a, b, c, d, e, f, g)

pub rows_stand : (setup : Setup) (read : List ℕ → Option Act) → ReadsActs setup read → ReadsRows setup read → ValidRowsStand setup read
rows_stand setup read reads spelled text rows has e =
    let t = tables_of setup read reads spelled rows e in
    let same : (w : List ℕ) → how_many (λ x. bytes_eq x w) (texts setup.plan.version (all_acts t)) ≡ how_many (λ (x : DoneRow). bytes_eq x.act w) rows.dones
    = λ w. how_count (λ x. bytes_eq x w) (texts setup.plan.version (all_acts t)) ∙ (acts_counted setup rows t w ∙ sym (how_count (λ (x : DoneRow). bytes_eq x.act w) rows.dones)) in
    let paired = pair_off done_before done_asym (λ (d : DoneRow). d.act) (texts setup.plan.version (all_acts t)) rows.dones t.dones_rise same in
    let matched = match_from setup.plan.version (all_acts t) paired.items paired.texts in
    let good : Good setup rows.dones paired.items = record {
      rise = subst (λ (l : List DoneRow). Rises done_before l) (sym paired.put_back) t.dones_rise;
      stamps = all_items done_before (is_stamp (length setup.secrets)) paired.items (ap (list_all (is_stamp (length setup.secrets))) paired.put_back ∙ t.stamps);
      same = λ done is fit for. ap (station_of (act_text setup.plan.version done)) (sym paired.put_back);
    } in
    let drawn : is_drawn_in rows ≡ is_drawn (phase_word t.stages.now) = ap (λ (s : List StageRow). nat_le 2 (length s)) t.stages.rows_are ∙ drawn_count t.stages.now in
    let base = voids_lead setup read reads text rows.dones rows.ballots t.ballots.acts rows.voids t.ballots.are t.ballots_rise t.voids_rise t.voids_differ in
    let stand = late_lead setup read reads text rows.dones rows.ballots rows.voids t.claims.claims (void_acts rows.voids ++ t.ballots.acts) base t.stages.now t.stages.fit
    (λ k. t.claims.early (drawn ∙ k)) t.claims.fit t.claims.few paired.items matched good in
    let s = stand.staged in (
      stand.history,
      s.lawful,
      rows_same rows.setup rows.ballots rows.stages rows.claims rows.voids rows.dones
          (rows_of setup text stand.history).setup (rows_of setup text stand.history).ballots (rows_of setup text stand.history).stages (rows_of setup text stand.history).claims (rows_of setup text stand.history).voids (rows_of setup text stand.history).dones
          (has ∙ sym (setup_kept setup text stand.history))
          (sym s.ballots_are)
          (t.stages.rows_are ∙ sym (stages_out setup text stand.history s.lawful ∙ ap stage_rows s.stage_is))
          (t.claims.rows_are ∙ sym (claims_out setup text stand.history ∙ ap (claim_rows 0) s.claims_are))
          (sym s.voids_are)
          (sym paired.put_back ∙ sym s.dones_are),
    )
