-- What the rows of a lawful history tell of each ballot is what the history tells of it.
use Rattle.std.proofs.Common.{◌≡◌, ℕ, ◌≤◌, Bool, true, false, ◌||◌, cond, List, [], ◌∷◌, length, map, Option, Some, None, refl, ap, sym, ◌∙◌, subst}
use Rattle.std.specs.Prelude.{ℤ, pos}
use Rattle.std.specs.List.{join_with_byte, list_any}
use Rattle.std.specs.Option.{option_and_then, option_map}
use Rattle.std.specs.Ordering.{int_eq}
use Rattle.sg_lists.proofs.Integers.{int_eq-pos}
use Rattle.sg_plan.specs.Fates.{fate_fits}
use Rattle.sg_plan.specs.declared.plan.Fate.{Fate}
use Rattle.sg_plan.specs.declared.plan.Fate.TheVariants as fate
use Rattle.sg_plan.specs.declared.plan.Mark.{Mark}
use Rattle.sg_plan.specs.declared.plan.Plan.{Plan}
use Rattle.sg_desks.specs.ActReading.{act_in}
use Rattle.sg_desks.specs.ActTexts.{act_text, codes_word, mark_word}
use Rattle.sg_keeper.specs.Rows.{ballot_before, put, void_before, with_row}
use Rattle.sg_acts.specs.declared.asks.Act.{Act}
use Rattle.sg_acts.specs.declared.asks.Act.TheVariants as act
use Rattle.sg_keeper.specs.declared.rows.BallotRow.{BallotRow}
use Rattle.sg_keeper.specs.declared.rows.VoidRow.{VoidRow}
use Rattle.sg_keeper.specs.declared.rows.Rows.{Rows}
use Rattle.sg_keeper.specs.declared.setup.Setup.{Setup}
use Rattle.sg_histories.specs.Answers.{is_ballot, is_cast_word, refusal_of}
use Rattle.sg_histories.specs.Histories.{Entry, claims_of, fate_after, fate_of, fate_word, phase_of, scanner_after, scanner_of}
use Rattle.sg_histories.specs.KeptRows.{row_of_act, rows_of}
use Rattle.sg_histories.specs.Lawful.{IsAskable, Lawful}
use Rattle.sg_histories.specs.Reading.{ReadsActs}
use Rattle.sg_histories.specs.ValidRows.{ballot_text, ballot_words, fits, natural, scan_text}
use Rattle.sg_histories.specs.inside.RowReading.{HasRaces}
use Rattle.sg_histories.proofs.Accepted.{early, first_none, passed, unused_is, voids}
use Rattle.sg_histories.proofs.Fitting.{audit_row, fits_new, scan_row, spoil_row}
use Rattle.sg_histories.proofs.NewKeys.{any_put, new_ballot}
use Rattle.sg_histories.proofs.OutRows.{paper_long}
use Rattle.sg_histories.proofs.OutVoids.{Tell, fate_else, rows_else, same_numbers, scan_of, scanner_else, self, tells_out, touches}
use Rattle.sg_open.specs.inside.Telling.{act_fate, ballot_told, text_told}
use Rattle.sg_open.proofs.Agreeing.{audit_agrees, scan_agrees, spoil_agrees}
use Rattle.sg_open.proofs.Seats.{Seat, no_seat, one_after, one_else, one_here, told_seat}

-- a row of these tells it
row_told : (plan : Plan) (row : BallotRow) (ballot : ℕ) (text : List ℕ) (done : Act) (made : Fate) → row.ballot ≡ pos ballot → is_ballot plan ballot ≡ true → ballot_text row ≡ Some text
    → act_in plan.version text ≡ Some done → act_fate plan done ≡ Some made → ballot_told plan row ≡ Some (record { ballot = ballot; text = text; fate = made })
row_told plan row ballot text done made b k t r m =
    let number : ballot_told plan row ≡ option_and_then (text_told plan ballot) (ballot_text row)
    = ap (λ (z : ℤ). option_and_then (λ n. option_and_then (text_told plan n) (option_map (join_with_byte 32) (ballot_words row.fate n row.detail))) (option_and_then (λ n. cond (is_ballot plan n) (Some n) None) (natural z))) b
    ∙ (ap (λ c. option_and_then (λ n. option_and_then (text_told plan n) (option_map (join_with_byte 32) (ballot_words row.fate n row.detail))) (cond c (Some ballot) None)) k
    ∙ ap (option_and_then (text_told plan ballot)) (sym (ap (λ (z : ℤ). option_and_then (λ n. option_map (join_with_byte 32) (ballot_words row.fate n row.detail)) (natural z)) b))) in
    number ∙ (ap (option_and_then (text_told plan ballot)) t
    ∙ (ap (λ (o : Option Act). option_map (λ (f : Fate). record { ballot = ballot; text = text; fate = f }) (option_and_then (act_fate plan) o)) r
    ∙ ap (option_map (λ (f : Fate). record { ballot = ballot; text = text; fate = f })) m))

-- the ballot has this seat by its rows, and is voided or not
pub record Sat (setup : Setup) (stations : List ℕ → Option ℤ) (ballots : List BallotRow) (voided : List VoidRow) (ballot : ℕ) (seat : Seat) (void : Bool) : Type 0 where
  pub seat_is : one_after setup.plan stations ballot no_seat ballots ≡ seat
  pub void_is : list_any (λ (kept : VoidRow). int_eq kept.ballot (pos ballot)) voided ≡ void

abbrev pub cast_seat : Setup → (List ℕ → Option ℤ) → ℕ → List Mark → Seat
cast_seat setup stations ballot marks = record { fate = fate.Cast marks; scanner = stations (scan_of setup ballot marks) }

-- the ballot was cast, and then voided
pub record CastSat (setup : Setup) (stations : List ℕ → Option ℤ) (ballots : List BallotRow) (voided : List VoidRow) (ballot : ℕ) : Type 0 where
  pub marks : List Mark
  pub sat : Sat setup stations ballots voided ballot (cast_seat setup stations ballot marks) true
  pub text : scan_text (pos ballot) ballots ≡ Some (scan_of setup ballot marks)

-- what the rows tell of a ballot with this fate
abbrev pub Seats : Setup → (List ℕ → Option ℤ) → List BallotRow → List VoidRow → ℕ → ℕ → Fate → Type 0
Seats setup stations ballots voided ballot scanner fate.Unused = Sat setup stations ballots voided ballot no_seat false × (scanner ≡ 0)
Seats setup stations ballots voided ballot scanner (fate.Cast marks) = Sat setup stations ballots voided ballot (cast_seat setup stations ballot marks) false
Seats setup stations ballots voided ballot scanner fate.Spoiled = Sat setup stations ballots voided ballot (record { fate = fate.Spoiled; scanner = None }) false × (scanner ≡ 0)
Seats setup stations ballots voided ballot scanner (fate.Audited paper) = Sat setup stations ballots voided ballot (record { fate = fate.Audited paper; scanner = None }) false × (scanner ≡ 0)
Seats setup stations ballots voided ballot scanner fate.Voided = CastSat setup stations ballots voided ballot

sat_move : (setup : Setup) (stations : List ℕ → Option ℤ) (ballots more : List BallotRow) (voided others : List VoidRow) (ballot : ℕ) (seat : Seat) (void : Bool)
    → one_after setup.plan stations ballot no_seat more ≡ one_after setup.plan stations ballot no_seat ballots
    → list_any (λ (kept : VoidRow). int_eq kept.ballot (pos ballot)) others ≡ list_any (λ (kept : VoidRow). int_eq kept.ballot (pos ballot)) voided
    → Sat setup stations ballots voided ballot seat void → Sat setup stations more others ballot seat void
sat_move setup stations ballots more voided others ballot seat void same same_voids sat = record { seat_is = same ∙ sat.seat_is; void_is = same_voids ∙ sat.void_is }

seats_move : (setup : Setup) (stations : List ℕ → Option ℤ) (ballots more : List BallotRow) (voided others : List VoidRow) (ballot scanner : ℕ) (told : Fate)
    → one_after setup.plan stations ballot no_seat more ≡ one_after setup.plan stations ballot no_seat ballots
    → list_any (λ (kept : VoidRow). int_eq kept.ballot (pos ballot)) others ≡ list_any (λ (kept : VoidRow). int_eq kept.ballot (pos ballot)) voided
    → scan_text (pos ballot) more ≡ scan_text (pos ballot) ballots
    → Seats setup stations ballots voided ballot scanner told → Seats setup stations more others ballot scanner told
seats_move setup stations ballots more voided others ballot scanner fate.Unused b v t old = (sat_move setup stations ballots more voided others ballot no_seat false b v old.0, old.1)
seats_move setup stations ballots more voided others ballot scanner (fate.Cast marks) b v t old = sat_move setup stations ballots more voided others ballot (cast_seat setup stations ballot marks) false b v old
seats_move setup stations ballots more voided others ballot scanner fate.Spoiled b v t old = (sat_move setup stations ballots more voided others ballot (record { fate = fate.Spoiled; scanner = None }) false b v old.0, old.1)
seats_move setup stations ballots more voided others ballot scanner (fate.Audited paper) b v t old = (sat_move setup stations ballots more voided others ballot (record { fate = fate.Audited paper; scanner = None }) false b v old.0, old.1)
seats_move setup stations ballots more voided others ballot scanner fate.Voided b v t old = record { marks = old.marks; sat = sat_move setup stations ballots more voided others ballot (cast_seat setup stations ballot old.marks) true b v old.sat; text = t ∙ old.text }

-- ACTS ON ANOTHER BALLOT

ballots_else : (setup : Setup) (stations : List ℕ → Option ℤ) (kept ballot : ℕ) (rows : Rows) (done : Act) → touches ballot done ≡ false
    → one_after setup.plan stations ballot no_seat (with_row rows (row_of_act setup.plan.version kept done)).ballots ≡ one_after setup.plan stations ballot no_seat rows.ballots
ballots_else setup stations kept ballot rows (act.Scan b marks) e = one_else setup.plan stations ballot no_seat (record { ballot = pos b; fate = pos 1; detail = join_with_byte 32 (map mark_word marks) }) rows.ballots (int_eq-pos b ballot ∙ e)
ballots_else setup stations kept ballot rows (act.Spoil b) e = one_else setup.plan stations ballot no_seat (record { ballot = pos b; fate = pos 2; detail = [] }) rows.ballots (int_eq-pos b ballot ∙ e)
ballots_else setup stations kept ballot rows (act.Audit b paper) e = one_else setup.plan stations ballot no_seat (record { ballot = pos b; fate = pos 3; detail = join_with_byte 32 (map (codes_word setup.plan.version) paper) }) rows.ballots (int_eq-pos b ballot ∙ e)
ballots_else setup stations kept ballot rows (act.Void b) e = refl
ballots_else setup stations kept ballot rows act.Close e = refl
ballots_else setup stations kept ballot rows (act.Draw drawn) e = refl
ballots_else setup stations kept ballot rows (act.Claim b race code) e = refl

voids_else : (version kept ballot : ℕ) (rows : Rows) (done : Act) → touches ballot done ≡ false
    → list_any (λ (kept : VoidRow). int_eq kept.ballot (pos ballot)) (with_row rows (row_of_act version kept done)).voids ≡ list_any (λ (kept : VoidRow). int_eq kept.ballot (pos ballot)) rows.voids
voids_else version kept ballot rows (act.Scan b marks) e = refl
voids_else version kept ballot rows (act.Spoil b) e = refl
voids_else version kept ballot rows (act.Audit b paper) e = refl
voids_else version kept ballot rows (act.Void b) e =
    any_put void_before (λ (kept : VoidRow). int_eq kept.ballot (pos ballot)) (record { ballot = pos b }) rows.voids
    ∙ ap (λ t. t || list_any (λ (kept : VoidRow). int_eq kept.ballot (pos ballot)) rows.voids) (int_eq-pos b ballot ∙ e)
voids_else version kept ballot rows act.Close e = refl
voids_else version kept ballot rows (act.Draw drawn) e = refl
voids_else version kept ballot rows (act.Claim b race code) e = refl

-- what rows tell of a ballot after an act
abbrev pub After : Setup → (List ℕ → Option ℤ) → List ℕ → List Entry → ℕ → ℕ → Act → Type 0
After setup stations text history ballot station done =
    Seats setup stations (with_row (rows_of setup text history) (row_of_act setup.plan.version (length (claims_of history)) done)).ballots
    (with_row (rows_of setup text history) (row_of_act setup.plan.version (length (claims_of history)) done)).voids ballot
    (scanner_after ballot station done (scanner_of history ballot)) (fate_after ballot done (fate_of history ballot))

abbrev pub Before : Setup → (List ℕ → Option ℤ) → List ℕ → List Entry → ℕ → Fate → Type 0
Before setup stations text history ballot told = Seats setup stations (rows_of setup text history).ballots (rows_of setup text history).voids ballot (scanner_of history ballot) told

untouched : (setup : Setup) (stations : List ℕ → Option ℤ) (text : List ℕ) (history : List Entry) (ballot station : ℕ) (done : Act) → touches ballot done ≡ false
    → Before setup stations text history ballot (fate_of history ballot) → After setup stations text history ballot station done
untouched setup stations text history ballot station done e old =
    let rows : Rows = rows_of setup text history in
    let more : Rows = with_row rows (row_of_act setup.plan.version (length (claims_of history)) done) in
    let moved : Seats setup stations more.ballots more.voids ballot (scanner_of history ballot) (fate_of history ballot)
    = seats_move setup stations rows.ballots more.ballots rows.voids more.voids ballot (scanner_of history ballot) (fate_of history ballot)
    (ballots_else setup stations (length (claims_of history)) ballot rows done e) (voids_else setup.plan.version (length (claims_of history)) ballot rows done e)
    (rows_else setup.plan.version (length (claims_of history)) ballot rows done e) old in
    subst (λ (s : ℕ). Seats setup stations more.ballots more.voids ballot s (fate_after ballot done (fate_of history ballot))) (sym (scanner_else ballot station done (scanner_of history ballot) e))
    (subst (λ (f : Fate). Seats setup stations more.ballots more.voids ballot (scanner_of history ballot) f) (sym (fate_else ballot done (fate_of history ballot) e)) moved)

-- ACTS ON THE BALLOT

some_if : {A : Type 0} (test : Bool) (x : A) → test ≡ true → cond test (Some x) None ≡ Some x
some_if true x e = refl
some_if false x e = cc

-- the row that a ballot without a fate gets
new_seat : (setup : Setup) (stations : List ℕ → Option ℤ) (text : List ℕ) (history : List Entry) (ballot : ℕ) (row : BallotRow) (done : Act) (made : Fate) → ReadsActs setup (act_in setup.plan.version)
    → row.ballot ≡ pos ballot → ballot_text row ≡ Some (act_text setup.plan.version done) → act_fate setup.plan done ≡ Some made
    → IsAskable setup done → fits setup.plan done ≡ true → is_ballot setup.plan ballot ≡ true → fate_of history ballot ≡ fate.Unused
    → one_after setup.plan stations ballot no_seat (put ballot_before row (rows_of setup text history).ballots) ≡ told_seat stations (record { ballot = ballot; text = act_text setup.plan.version done; fate = made })
new_seat setup stations text history ballot row done made reads is words m askable f known u =
    one_here setup.plan stations ballot no_seat row (rows_of setup text history).ballots (record { ballot = ballot; text = act_text setup.plan.version done; fate = made }) is
    (new_ballot setup text history ballot row is u)
    (row_told setup.plan row ballot (act_text setup.plan.version done) done made is known words (reads.found done askable f) m) (self ballot)

unused_sat : (setup : Setup) (stations : List ℕ → Option ℤ) (text : List ℕ) (history : List Entry) (ballot : ℕ) → fate_of history ballot ≡ fate.Unused
    → Before setup stations text history ballot (fate_of history ballot) → Before setup stations text history ballot fate.Unused
unused_sat setup stations text history ballot u old = subst (λ (f : Fate). Before setup stations text history ballot f) u old

scan_here : (setup : Setup) (stations : List ℕ → Option ℤ) (text : List ℕ) (history : List Entry) (ballot station : ℕ) (marks : List Mark) → ReadsActs setup (act_in setup.plan.version)
    → IsAskable setup (act.Scan ballot marks) → fits setup.plan (act.Scan ballot marks) ≡ true → is_ballot setup.plan ballot ≡ true → fate_of history ballot ≡ fate.Unused
    → Before setup stations text history ballot (fate_of history ballot) → After setup stations text history ballot station (act.Scan ballot marks)
scan_here setup stations text history ballot station marks reads askable f known u old =
    let told = unused_sat setup stations text history ballot u old in
    let row : BallotRow = record { ballot = pos ballot; fate = pos 1; detail = join_with_byte 32 (map mark_word marks) } in
    let made : act_fate setup.plan (act.Scan ballot marks) ≡ Some (fate.Cast marks) = some_if (fate_fits setup.plan ballot (fate.Cast marks)) (fate.Cast marks) (sym (scan_agrees setup.plan ballot marks) ∙ f) in
    let sat : Sat setup stations (put ballot_before row (rows_of setup text history).ballots) (rows_of setup text history).voids ballot (cast_seat setup stations ballot marks) false = record {
      seat_is = new_seat setup stations text history ballot row (act.Scan ballot marks) (fate.Cast marks) reads refl (scan_row setup.plan.version ballot marks) made askable f known u;
      void_is = told.0.void_is;
    } in
    subst (λ (t : Bool). Seats setup stations (put ballot_before row (rows_of setup text history).ballots) (rows_of setup text history).voids ballot (cond t station (scanner_of history ballot)) (cond t (fate.Cast marks) (fate_of history ballot)))
    (sym (self ballot)) sat

spoil_here : (setup : Setup) (stations : List ℕ → Option ℤ) (text : List ℕ) (history : List Entry) (ballot station : ℕ) → ReadsActs setup (act_in setup.plan.version)
    → IsAskable setup (act.Spoil ballot) → fits setup.plan (act.Spoil ballot) ≡ true → is_ballot setup.plan ballot ≡ true → fate_of history ballot ≡ fate.Unused
    → Before setup stations text history ballot (fate_of history ballot) → After setup stations text history ballot station (act.Spoil ballot)
spoil_here setup stations text history ballot station reads askable f known u old =
    let told = unused_sat setup stations text history ballot u old in
    let row : BallotRow = record { ballot = pos ballot; fate = pos 2; detail = [] } in
    let made : act_fate setup.plan (act.Spoil ballot) ≡ Some fate.Spoiled = some_if (fate_fits setup.plan ballot fate.Spoiled) fate.Spoiled (sym (spoil_agrees setup.plan ballot) ∙ f) in
    let sat : Sat setup stations (put ballot_before row (rows_of setup text history).ballots) (rows_of setup text history).voids ballot (record { fate = fate.Spoiled; scanner = None }) false = record {
      seat_is = new_seat setup stations text history ballot row (act.Spoil ballot) fate.Spoiled reads refl (spoil_row setup.plan.version ballot) made askable f known u;
      void_is = told.0.void_is;
    } in
    subst (λ (t : Bool). Seats setup stations (put ballot_before row (rows_of setup text history).ballots) (rows_of setup text history).voids ballot (scanner_of history ballot) (cond t fate.Spoiled (fate_of history ballot)))
    (sym (self ballot)) (sat, told.1)

audit_here : (setup : Setup) (stations : List ℕ → Option ℤ) (text : List ℕ) (history : List Entry) (ballot station : ℕ) (paper : List (List ℕ)) → ReadsActs setup (act_in setup.plan.version)
    → IsAskable setup (act.Audit ballot paper) → fits setup.plan (act.Audit ballot paper) ≡ true → 1 ≤ length paper → is_ballot setup.plan ballot ≡ true → fate_of history ballot ≡ fate.Unused
    → Before setup stations text history ballot (fate_of history ballot) → After setup stations text history ballot station (act.Audit ballot paper)
audit_here setup stations text history ballot station paper reads askable f long known u old =
    let told = unused_sat setup stations text history ballot u old in
    let row : BallotRow = record { ballot = pos ballot; fate = pos 3; detail = join_with_byte 32 (map (codes_word setup.plan.version) paper) } in
    let made : act_fate setup.plan (act.Audit ballot paper) ≡ Some (fate.Audited paper) = some_if (fate_fits setup.plan ballot (fate.Audited paper)) (fate.Audited paper) (sym (audit_agrees setup.plan ballot paper askable.codes) ∙ f) in
    let sat : Sat setup stations (put ballot_before row (rows_of setup text history).ballots) (rows_of setup text history).voids ballot (record { fate = fate.Audited paper; scanner = None }) false = record {
      seat_is = new_seat setup stations text history ballot row (act.Audit ballot paper) (fate.Audited paper) reads refl (audit_row setup.plan.version ballot paper long) made askable f known u;
      void_is = told.0.void_is;
    } in
    subst (λ (t : Bool). Seats setup stations (put ballot_before row (rows_of setup text history).ballots) (rows_of setup text history).voids ballot (scanner_of history ballot) (cond t (fate.Audited paper) (fate_of history ballot)))
    (sym (self ballot)) (sat, told.1)

void_here : (setup : Setup) (stations : List ℕ → Option ℤ) (text : List ℕ) (history : List Entry) (ballot : ℕ) (told : Fate) → is_cast_word (fate_word told) ≡ true
    → Before setup stations text history ballot told → Tell setup (rows_of setup text history).ballots (rows_of setup text history).dones ballot (scanner_of history ballot) told
    → Seats setup stations (rows_of setup text history).ballots (put void_before (record { ballot = pos ballot }) (rows_of setup text history).voids) ballot (scanner_of history ballot) fate.Voided
void_here setup stations text history ballot fate.Unused cast old tell = cc
void_here setup stations text history ballot fate.Spoiled cast old tell = cc
void_here setup stations text history ballot (fate.Audited paper) cast old tell = cc
void_here setup stations text history ballot fate.Voided cast old tell = cc
void_here setup stations text history ballot (fate.Cast marks) cast old tell =
    let here : int_eq (pos ballot) (pos ballot) ≡ true = int_eq-pos ballot ballot ∙ self ballot in
    let voided : list_any (λ (kept : VoidRow). int_eq kept.ballot (pos ballot)) (put void_before (record { ballot = pos ballot }) (rows_of setup text history).voids) ≡ true
    = any_put void_before (λ (kept : VoidRow). int_eq kept.ballot (pos ballot)) (record { ballot = pos ballot }) (rows_of setup text history).voids
    ∙ ap (λ t. t || list_any (λ (kept : VoidRow). int_eq kept.ballot (pos ballot)) (rows_of setup text history).voids) here in
    record { marks = marks; sat = record { seat_is = old.seat_is; void_is = voided }; text = tell.1.told }

touched : (setup : Setup) (stations : List ℕ → Option ℤ) (text : List ℕ) (history : List Entry) (ballot station : ℕ) (done : Act) → ReadsActs setup (act_in setup.plan.version) → HasRaces setup.plan
    → IsAskable setup done → fits setup.plan done ≡ true → is_ballot setup.plan ballot ≡ true → refusal_of setup history station done ≡ None → touches ballot done ≡ true
    → Before setup stations text history ballot (fate_of history ballot)
    → Tell setup (rows_of setup text history).ballots (rows_of setup text history).dones ballot (scanner_of history ballot) (fate_of history ballot)
    → After setup stations text history ballot station done
touched setup stations text history ballot station (act.Scan b marks) reads races askable f known r e old tell =
    let same : ballot ≡ b = same_numbers b ballot e in
    let here : fate_of history b ≡ fate.Unused = unused_is (fate_of history b) (early setup.plan (phase_of history) (fate_word (fate_of history b)) b (first_none _ _ r).0).unused in
    let u : fate_of history ballot ≡ fate.Unused = ap (fate_of history) same ∙ here in
    subst (λ (n : ℕ). IsAskable setup (act.Scan n marks) → fits setup.plan (act.Scan n marks) ≡ true → After setup stations text history ballot station (act.Scan n marks)) same
    (λ i g. scan_here setup stations text history ballot station marks reads i g known u old) askable f
touched setup stations text history ballot station (act.Spoil b) reads races askable f known r e old tell =
    let same : ballot ≡ b = same_numbers b ballot e in
    let here : fate_of history b ≡ fate.Unused = unused_is (fate_of history b) (early setup.plan (phase_of history) (fate_word (fate_of history b)) b r).unused in
    let u : fate_of history ballot ≡ fate.Unused = ap (fate_of history) same ∙ here in
    subst (λ (n : ℕ). IsAskable setup (act.Spoil n) → fits setup.plan (act.Spoil n) ≡ true → After setup stations text history ballot station (act.Spoil n)) same
    (λ i g. spoil_here setup stations text history ballot station reads i g known u old) askable f
touched setup stations text history ballot station (act.Audit b paper) reads races askable f known r e old tell =
    let same : ballot ≡ b = same_numbers b ballot e in
    let here : fate_of history b ≡ fate.Unused = unused_is (fate_of history b) (early setup.plan (phase_of history) (fate_word (fate_of history b)) b (first_none _ _ r).0).unused in
    let u : fate_of history ballot ≡ fate.Unused = ap (fate_of history) same ∙ here in
    let long : 1 ≤ length paper = paper_long setup history b station paper races r in
    subst (λ (n : ℕ). IsAskable setup (act.Audit n paper) → fits setup.plan (act.Audit n paper) ≡ true → After setup stations text history ballot station (act.Audit n paper)) same
    (λ i g. audit_here setup stations text history ballot station paper reads i g long known u old) askable f
touched setup stations text history ballot station (act.Void b) reads races askable f known r e old tell =
    let same : ballot ≡ b = same_numbers b ballot e in
    let v = voids setup.plan (phase_of history) (fate_word (fate_of history b)) (scanner_of history b) station b r in
    let cast : is_cast_word (fate_word (fate_of history ballot)) ≡ true = ap (λ n. is_cast_word (fate_word (fate_of history n))) same ∙ v.cast in
    subst (λ (n : ℕ). After setup stations text history ballot station (act.Void n)) same
    (subst (λ (t : Bool). Seats setup stations (rows_of setup text history).ballots (put void_before (record { ballot = pos ballot }) (rows_of setup text history).voids) ballot (scanner_of history ballot) (cond t fate.Voided (fate_of history ballot))) (sym (self ballot))
    (void_here setup stations text history ballot (fate_of history ballot) cast old tell))
touched setup stations text history ballot station act.Close reads races askable f known r e old tell = cc
touched setup stations text history ballot station (act.Draw drawn) reads races askable f known r e old tell = cc
touched setup stations text history ballot station (act.Claim b race code) reads races askable f known r e old tell = cc

-- each ballot of the plan: its rows tell its fate
pub seats_out : (setup : Setup) (stations : List ℕ → Option ℤ) (text : List ℕ) (history : List Entry) → ReadsActs setup (act_in setup.plan.version) → HasRaces setup.plan → Lawful setup history
    → (ballot : ℕ) → is_ballot setup.plan ballot ≡ true → Before setup stations text history ballot (fate_of history ballot)
seats_out setup stations text [] reads races lawful ballot known = (record { seat_is = refl; void_is = refl }, refl)
seats_out setup stations text (entry ∷ history) reads races lawful ballot known =
    let old = seats_out setup stations text history reads races lawful.1 ballot known in
    let p = passed setup history lawful.0.stamp entry.act lawful.0.accepted in
    let station : entry.station ≡ lawful.0.stamp.station = ap (λ (e : Entry). e.station) lawful.0.is in
    let refused : refusal_of setup history entry.station entry.act ≡ None = ap (λ (s : ℕ). refusal_of setup history s entry.act) station ∙ p.refusal in
    let f = fits_new setup history entry.station entry.act lawful.0.act_is refused in
    by_test (touches ballot entry.act) refl old refused f
  where
    by_test : (t : Bool) → touches ballot entry.act ≡ t → Before setup stations text history ballot (fate_of history ballot) → refusal_of setup history entry.station entry.act ≡ None → fits setup.plan entry.act ≡ true
        → After setup stations text history ballot entry.station entry.act
    by_test true e old r f = touched setup stations text history ballot entry.station entry.act reads races lawful.0.act_is f known r e old (tells_out setup (act_in setup.plan.version) text history reads lawful.1 ballot known)
    by_test false e old r f = untouched setup stations text history ballot entry.station entry.act e old
