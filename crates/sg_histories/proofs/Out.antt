-- The rows of a lawful history are valid.
use Rattle.std.proofs.Common.{◌≡◌, ℕ, ◌<◌, nat_lt, nat_le, Bool, true, false, ◌&&◌, cond, List, [], ◌∷◌, ◌++◌, length, bytes_eq, Option, Some, None, refl, ap, ◌∙◌, arith, subst}
use Rattle.std.specs.List.{list_all}
use Rattle.std.specs.Option.{option_map_or}
use Rattle.std.specs.Prelude.{pos}
use Rattle.std.proofs.lemmas.Bool.{and_from}
use Rattle.std.proofs.lemmas.Bool.Decides.{nat_tests}
use Rattle.std.proofs.lemmas.Slice.Eq.{bytes_eq-Decides}
use Rattle.sg_lists.proofs.Bools.{one_if}
use Rattle.sg_lists.proofs.Counting.{count_by-append}
use Rattle.sg_lists.proofs.Options.{is_none-true}
use Rattle.sg_plan.specs.Limits.{first_bad, first_of}
use Rattle.sg_plan.specs.declared.plan.Draw.{Draw}
use Rattle.sg_plan.specs.declared.plan.Plan.{Plan}
use Rattle.sg_plan.specs.declared.plan.Stage.{Stage}
use Rattle.sg_plan.specs.declared.plan.Stage.TheVariants as stage
use Rattle.sg_plan.proofs.Lists.{first_bad-each}
use Rattle.sg_keeper.specs.Rows.{ballot_before, done_before, void_before}
use Rattle.sg_acts.specs.declared.asks.Act.{Act}
use Rattle.sg_acts.specs.declared.asks.Act.TheVariants as act
use Rattle.sg_keeper.specs.declared.rows.BallotRow.{BallotRow}
use Rattle.sg_keeper.specs.declared.rows.DoneRow.{DoneRow}
use Rattle.sg_keeper.specs.declared.rows.Rows.{Rows}
use Rattle.sg_keeper.specs.declared.rows.StageRow.{StageRow}
use Rattle.sg_keeper.specs.declared.setup.Setup.{Setup}
use Rattle.sg_desks.specs.ActTexts.{act_text, draw_word}
use Rattle.sg_histories.specs.Answers.{is_drawn, refusal_of}
use Rattle.sg_histories.specs.Histories.{Entry, claims_of, phase_word, stage_after, stage_of}
use Rattle.sg_histories.specs.KeptRows.{rows_of}
use Rattle.sg_histories.specs.Lawful.{IsAskable, Lawful}
use Rattle.sg_histories.specs.Reading.{ReadsActs}
use Rattle.sg_histories.specs.RowLaws.{RowsAreValid}
use Rattle.sg_histories.specs.ValidRows.{all_done, at_table, ballot_keeps, claim_keeps, climbs, count_done, count_told, damage_of, differ, doer, done_fault, done_keeps, fits, is_drawn_in, is_stamp, or_missing, row_fits, scan_text, stage_keeps, stage_text, tells_fit, told_by, void_keeps, void_text}
use Rattle.sg_histories.specs.declared.kept.Claim.{Claim}
use Rattle.sg_histories.specs.inside.RowReading.{HasRaces, SmallBallots}
use Rattle.sg_histories.proofs.Accepted.{passed}
use Rattle.sg_histories.proofs.Fitting.{fits_new}
use Rattle.sg_histories.proofs.OutDones.{ClaimsFit, Dones, claim_rows, claims_each, claims_fit, claims_out, count_cons, count_tables, counts_out, dones_out}
use Rattle.sg_histories.proofs.OutRows.{Ballots, ballots_out, stage_rows, stages_out}
use Rattle.sg_histories.proofs.OutVoids.{void_each, voids_out}
use Rattle.sg_histories.proofs.Pairing.{Rises}
use Rattle.sg_histories.proofs.Rising.{all_inside, none_bad}

ballots_good : (setup : Setup) (read : List ℕ → Option Act) (ballots : List BallotRow) → Ballots setup read ballots → first_bad (ballot_keeps setup.plan read) [] ballots ≡ None
ballots_good setup read ballots good = none_bad ballot_before (ballot_keeps setup.plan read) ballots good.rise
    (λ front x back is up. and_from (climbs ballot_before front x) (row_fits setup.plan read x) up
    (all_inside (row_fits setup.plan read) ballots front x back is good.fit))

-- STAGES

-- the draw of a lawful history is an act that fits
pub drawn_fits : (setup : Setup) (history : List Entry) (drawn : Draw) → Lawful setup history → stage_of history ≡ stage.Drawn drawn → IsAskable setup (act.Draw drawn) × (fits setup.plan (act.Draw drawn) ≡ true)
drawn_fits setup [] drawn lawful e = cc
drawn_fits setup (entry ∷ history) drawn lawful e =
    by_act entry.act lawful.0.act_is (passed setup history lawful.0.stamp entry.act lawful.0.accepted).refusal e (drawn_fits setup history drawn lawful.1)
  where
    same_draw : (a : Draw) → stage.Drawn a ≡ stage.Drawn drawn → a ≡ drawn
    same_draw a k = cc

    by_act : (done : Act) → IsAskable setup done → refusal_of setup history lawful.0.stamp.station done ≡ None → stage_after done (stage_of history) ≡ stage.Drawn drawn
        → (stage_of history ≡ stage.Drawn drawn → IsAskable setup (act.Draw drawn) × (fits setup.plan (act.Draw drawn) ≡ true))
        → IsAskable setup (act.Draw drawn) × (fits setup.plan (act.Draw drawn) ≡ true)
    by_act (act.Scan ballot marks) is r k ih = ih k
    by_act (act.Spoil ballot) is r k ih = ih k
    by_act (act.Audit ballot paper) is r k ih = ih k
    by_act (act.Void ballot) is r k ih = ih k
    by_act (act.Claim ballot race code) is r k ih = ih k
    by_act act.Close is r k ih = cc
    by_act (act.Draw d) is r k ih =
        subst (λ (x : Draw). IsAskable setup (act.Draw x) × (fits setup.plan (act.Draw x) ≡ true)) (same_draw d k) (is, fits_new setup history lawful.0.stamp.station (act.Draw d) is r)

draw_said : (version : ℕ) (drawn : Draw) → stage_text (record { step = pos 2; detail = draw_word drawn }) ≡ act_text version (act.Draw drawn)
unfolding act_text
draw_said version drawn = refl

stages_good : (setup : Setup) (read : List ℕ → Option Act) (now : Stage) → ReadsActs setup read
    → ((drawn : Draw) → now ≡ stage.Drawn drawn → IsAskable setup (act.Draw drawn) × (fits setup.plan (act.Draw drawn) ≡ true))
    → first_bad (stage_keeps setup.plan read) [] (stage_rows now) ≡ None
stages_good setup read stage.Voting reads drawn_is = refl
stages_good setup read stage.Closed reads drawn_is = refl
stages_good setup read (stage.Drawn drawn) reads drawn_is =
    let d = drawn_is drawn refl in
    let row : StageRow = record { step = pos 2; detail = draw_word drawn } in
    let told : tells_fit setup.plan read (Some (stage_text row)) ≡ true
    = ap (λ (w : List ℕ). tells_fit setup.plan read (Some w)) (draw_said setup.plan.version drawn) ∙ (ap (λ (o : Option Act). option_map_or (fits setup.plan) o false) (reads.found (act.Draw drawn) d.0 d.1) ∙ d.1) in
    ap (λ b. cond b None (Some 1)) told

-- CLAIMS

drawn_count : (now : Stage) → nat_le 2 (length (stage_rows now)) ≡ is_drawn (phase_word now)
drawn_count stage.Voting = refl
drawn_count stage.Closed = refl
drawn_count (stage.Drawn drawn) = refl

claims_good : (plan : Plan) (now : Stage) (kept : List Claim) → ClaimsFit plan now kept → (b : Bool) → is_drawn (phase_word now) ≡ b → first_bad (claim_keeps plan b) [] (claim_rows 0 kept) ≡ None
claims_good plan now kept good true e =
    is_none-true (first_bad (claim_keeps plan true) [] (claim_rows 0 kept)) (first_bad-each (claim_keeps plan true) [] (claim_rows 0 kept) ∙ claims_each plan kept [] 0 refl (let f = good.few in omega (arith, f)) good.fit)
claims_good plan now kept good false e = ap (λ (c : List Claim). first_bad (claim_keeps plan false) [] (claim_rows 0 c)) (good.early e)

-- DONE ROWS

more_behind : (text : List ℕ) (front : List DoneRow) (row : DoneRow) (back : List DoneRow) → bytes_eq row.act text ≡ true → count_done text front < count_done text (front ++ row ∷ back)
more_behind text front row back e =
    let a = count_by-append (λ (r : DoneRow). bytes_eq r.act text) front (row ∷ back) in
    let b = count_cons (λ (r : DoneRow). bytes_eq r.act text) row back in
    let c : one_if (bytes_eq row.act text) ≡ 1 = ap one_if e in
    omega (arith, a, b, c)

all_same : (told some : List (List ℕ)) (rows : List DoneRow) → ((words : List ℕ) → count_told words told ≡ count_done words rows) → list_all (λ text. nat_le (count_told text told) (count_done text rows)) some ≡ true
all_same told [] rows same = refl
all_same told (t ∷ some) rows same =
    let k = same t in
    let here : nat_le (count_told t told) (count_done t rows) ≡ true = grind (arith, nat_tests, k) in
    rw (here) (all_same told some rows same)

dones_good : (stations : ℕ) (told : List (List ℕ)) (rows : List DoneRow) → Dones stations rows → ((words : List ℕ) → count_told words told ≡ count_done words rows) → done_fault stations told rows ≡ None
dones_good stations told rows good same =
    let bad : first_bad (done_keeps stations told) [] rows ≡ None = none_bad done_before (done_keeps stations told) rows good.rise each in
    ap (or_missing (all_done told rows) (length rows)) bad ∙ ap (λ b. cond b None (Some (length rows))) (all_same told told rows same)
  where
    each : (front : List DoneRow) (x : DoneRow) (back : List DoneRow) → rows ≡ front ++ x ∷ back → climbs done_before front x ≡ true → done_keeps stations told front x ≡ true
    each front x back is up =
        let stamp = all_inside (is_stamp stations) rows front x back is good.stamps in
        let k = same x.act in
        let more : count_done x.act front < count_done x.act (front ++ x ∷ back) = more_behind x.act front x back ((bytes_eq-Decides x.act x.act).1 refl) in
        let there : count_done x.act rows ≡ count_done x.act (front ++ x ∷ back) = ap (count_done x.act) is in
        let low : nat_lt (count_done x.act front) (count_told x.act told) ≡ true = grind (arith, nat_tests, k, more, there) in
        and_from (climbs done_before front x && is_stamp stations x) (nat_lt (count_done x.act front) (count_told x.act told)) (and_from (climbs done_before front x) (is_stamp stations x) up stamp) low

-- ALL

five : (a b c d e : Option ℕ) → a ≡ None → b ≡ None → c ≡ None → d ≡ None → e ≡ None
    → first_of (at_table 2 a ∷ at_table 3 b ∷ at_table 4 c ∷ at_table 5 d ∷ at_table 6 e ∷ []) ≡ None
five None None None None None p q r s t = refl
five (Some x) b c d e p q r s t = cc
five None (Some x) c d e p q r s t = cc
five None None (Some x) d e p q r s t = cc
five None None None (Some x) e p q r s t = cc
five None None None None (Some x) p q r s t = cc

pub rows_valid : (setup : Setup) (read : List ℕ → Option Act) → ReadsActs setup read → HasRaces setup.plan → SmallBallots setup.plan → RowsAreValid setup read
unfolding damage_of
rows_valid setup read reads races small text history lawful =
    let rows : Rows = rows_of setup text history in
    let stages : rows.stages ≡ stage_rows (stage_of history) = stages_out setup text history lawful in
    let drawn : is_drawn_in rows ≡ is_drawn (phase_word (stage_of history)) = ap (λ (s : List StageRow). nat_le 2 (length s)) stages ∙ drawn_count (stage_of history) in
    let voids : Rises void_before rows.voids = (voids_out setup text history lawful).rise in
    five (first_bad (ballot_keeps setup.plan read) [] rows.ballots) (first_bad (stage_keeps setup.plan read) [] rows.stages) (first_bad (claim_keeps setup.plan (is_drawn_in rows)) [] rows.claims)
    (done_fault (length setup.secrets) (told_by setup.plan.version rows) rows.dones) (first_bad (void_keeps setup.plan.version rows) [] rows.voids)
    (ballots_good setup read rows.ballots (ballots_out setup read text history reads races lawful))
    (ap (first_bad (stage_keeps setup.plan read) []) stages ∙ stages_good setup read (stage_of history) reads (λ d e. drawn_fits setup history d lawful e))
    (ap (λ b. first_bad (claim_keeps setup.plan b) [] rows.claims) drawn ∙ (ap (first_bad (claim_keeps setup.plan (is_drawn (phase_word (stage_of history)))) []) (claims_out setup text history)
    ∙ claims_good setup.plan (stage_of history) (claims_of history) (claims_fit setup history lawful) (is_drawn (phase_word (stage_of history))) refl))
    (dones_good (length setup.secrets) (told_by setup.plan.version rows) rows.dones (dones_out setup text history lawful)
    (λ words. count_tables setup.plan.version words rows ∙ counts_out setup text history races small lawful words))
    (none_bad void_before (void_keeps setup.plan.version rows) rows.voids voids
    (λ front x back is up. and_from (climbs void_before front x) (differ (doer rows.dones (scan_text x.ballot rows.ballots)) (doer rows.dones (void_text setup.plan.version x))) up
    (void_each setup read text history reads small lawful front x back is)))
