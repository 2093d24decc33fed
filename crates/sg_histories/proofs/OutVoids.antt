-- Voids of a lawful history: another station did each than the scan.
use Rattle.std.proofs.Common.{◌≡◌, ℕ, ◌+◌, ◌==◌, Bool, true, false, not, cond, List, [], ◌∷◌, ◌++◌, length, map, bytes_eq, Option, Some, None, refl, ap, sym, ◌∙◌, arith, subst}
use Rattle.std.specs.List.{join_with_byte, list_any}
use Rattle.std.specs.Ordering.{int_eq}
use Rattle.std.specs.Prelude.{pos, ℤ}
use Rattle.std.proofs.lemmas.Bool.Decides.{nat_tests}
use Rattle.std.proofs.lemmas.Int.{ints}
use Rattle.std.proofs.lemmas.Slice.Eq.{bytes_eq-Decides}
use Rattle.std.proofs.lemmas.Bool.{both_ways}
use Rattle.sg_lists.proofs.Bools.{not_or_parts, one_if}
use Rattle.sg_lists.proofs.Integers.{int_eq-pos}
use Rattle.sg_plan.specs.declared.plan.Fate.{Fate}
use Rattle.sg_plan.specs.declared.plan.Fate.TheVariants as fate
use Rattle.sg_plan.specs.declared.plan.Mark.{Mark}
use Rattle.sg_plan.specs.declared.plan.Plan.{Plan}
use Rattle.sg_keeper.specs.Rows.{ballot_before, ballot_is, done_before, is_new, put, void_before, void_is, with_row}
use Rattle.sg_acts.specs.declared.asks.Act.{Act}
use Rattle.sg_acts.specs.declared.asks.Act.TheVariants as act
use Rattle.sg_keeper.specs.declared.rows.BallotRow.{BallotRow}
use Rattle.sg_keeper.specs.declared.rows.DoneRow.{DoneRow}
use Rattle.sg_keeper.specs.declared.rows.Rows.{Rows}
use Rattle.sg_keeper.specs.declared.rows.VoidRow.{VoidRow}
use Rattle.sg_keeper.specs.declared.setup.Setup.{Setup}
use Rattle.sg_desks.specs.ActTexts.{act_text, codes_word, mark_word}
use Rattle.sg_histories.specs.Answers.{is_ballot, is_cast_word, refusal_of}
use Rattle.sg_histories.specs.Histories.{Entry, claims_of, fate_after, fate_of, fate_word, phase_of, scanner_after, scanner_of}
use Rattle.sg_histories.specs.KeptRows.{done_row, row_of_act, rows_of}
use Rattle.sg_histories.specs.Lawful.{IsAskable, Lawful}
use Rattle.sg_histories.specs.Reading.{ReadsActs}
use Rattle.sg_histories.specs.ValidRows.{ballot_text, count_done, differ, doer, fits, scan_text, station_of, void_text}
use Rattle.sg_histories.specs.inside.RowReading.{SmallBallots}
use Rattle.sg_histories.proofs.Accepted.{early, first_none, passed, unused_is, voids}
use Rattle.sg_histories.proofs.Fitting.{fits_new, scan_row}
use Rattle.sg_histories.proofs.NewKeys.{new_ballot, new_void}
use Rattle.sg_histories.proofs.OutDones.{count_cons, void_row}
use Rattle.sg_histories.proofs.Pairing.{Rises}
use Rattle.sg_histories.proofs.Rising.{count_put, put_rises, void_order}

-- PUT

none_here : (n : ℕ) (b : Bool) → cond b 1 0 + n ≡ 0 → (b ≡ false) × (n ≡ 0)
none_here n true e = absurd (omega (arith, e))
none_here n false e = (refl, omega (arith, e))

pub station_put : (text : List ℕ) (row : DoneRow) (rows : List DoneRow) → bytes_eq row.act text ≡ false → station_of text (put done_before row rows) ≡ station_of text rows
station_put text row [] e = ap (λ b. cond b (Some row.station) None) e
station_put text row (x ∷ xs) e = by_order (done_before row x) (station_put text row xs e)
  where
    by_order : (b : Bool) → station_of text (put done_before row xs) ≡ station_of text xs → station_of text (cond b (row ∷ x ∷ xs) (x ∷ put done_before row xs)) ≡ station_of text (x ∷ xs)
    by_order true ih = ap (λ b. cond b (Some row.station) (station_of text (x ∷ xs))) e
    by_order false ih = ap (λ o. cond (bytes_eq x.act text) (Some x.station) o) ih

pub station_new : (text : List ℕ) (row : DoneRow) (rows : List DoneRow) → count_done text rows ≡ 0 → bytes_eq row.act text ≡ true → station_of text (put done_before row rows) ≡ Some row.station
station_new text row [] none e = ap (λ b. cond b (Some row.station) None) e
station_new text row (x ∷ xs) none e =
    let parts = none_here (count_done text xs) (bytes_eq x.act text) (sym (count_cons (λ (r : DoneRow). bytes_eq r.act text) x xs) ∙ none) in
    by_order (done_before row x) parts.0 (station_new text row xs parts.1 e)
  where
    by_order : (b : Bool) → bytes_eq x.act text ≡ false → station_of text (put done_before row xs) ≡ Some row.station → station_of text (cond b (row ∷ x ∷ xs) (x ∷ put done_before row xs)) ≡ Some row.station
    by_order true d ih = ap (λ b. cond b (Some row.station) (station_of text (x ∷ xs))) e
    by_order false d ih = ap (λ b. cond b (Some x.station) (station_of text (put done_before row xs))) d ∙ ih

-- what a ballot's row tells of its scan
abbrev pub scan_said : BallotRow → Option (List ℕ)
scan_said row = cond (int_eq row.fate (pos 1)) (ballot_text row) None

pub scan_put : (ballot : ℤ) (row : BallotRow) (rows : List BallotRow) → int_eq row.ballot ballot ≡ false → scan_text ballot (put ballot_before row rows) ≡ scan_text ballot rows
scan_put ballot row [] e = ap (λ b. cond b (scan_said row) None) e
scan_put ballot row (x ∷ xs) e = by_order (ballot_before row x) (scan_put ballot row xs e)
  where
    by_order : (b : Bool) → scan_text ballot (put ballot_before row xs) ≡ scan_text ballot xs → scan_text ballot (cond b (row ∷ x ∷ xs) (x ∷ put ballot_before row xs)) ≡ scan_text ballot (x ∷ xs)
    by_order true ih = ap (λ b. cond b (scan_said row) (scan_text ballot (x ∷ xs))) e
    by_order false ih = ap (λ o. cond (int_eq x.ballot ballot) (scan_said x) o) ih

pub scan_new : (row : BallotRow) (rows : List BallotRow) → int_eq row.ballot row.ballot ≡ true → is_new ballot_is row rows ≡ true → scan_text row.ballot (put ballot_before row rows) ≡ scan_said row
scan_new row [] same new = ap (λ b. cond b (scan_said row) None) same
scan_new row (x ∷ xs) same new =
    let parts = not_or_parts (ballot_is x row) (list_any (λ kept. ballot_is kept row) xs) new in
    by_order (ballot_before row x) parts.0 (scan_new row xs same parts.1)
  where
    by_order : (b : Bool) → int_eq x.ballot row.ballot ≡ false → scan_text row.ballot (put ballot_before row xs) ≡ scan_said row → scan_text row.ballot (cond b (row ∷ x ∷ xs) (x ∷ put ballot_before row xs)) ≡ scan_said row
    by_order true d ih = ap (λ b. cond b (scan_said row) (scan_text row.ballot (x ∷ xs))) same
    by_order false d ih = ap (λ b. cond b (scan_said x) (scan_text row.ballot (put ballot_before row xs))) d ∙ ih

-- ACTS ON ANOTHER BALLOT

abbrev pub touches : ℕ → Act → Bool
touches ballot (act.Scan b marks) = b == ballot
touches ballot (act.Spoil b) = b == ballot
touches ballot (act.Audit b paper) = b == ballot
touches ballot (act.Void b) = b == ballot
touches ballot act.Close = false
touches ballot (act.Draw drawn) = false
touches ballot (act.Claim b race code) = false

pub fate_else : (ballot : ℕ) (done : Act) (before : Fate) → touches ballot done ≡ false → fate_after ballot done before ≡ before
fate_else ballot (act.Scan b marks) before e = ap (λ t. cond t (fate.Cast marks) before) e
fate_else ballot (act.Spoil b) before e = ap (λ t. cond t fate.Spoiled before) e
fate_else ballot (act.Audit b paper) before e = ap (λ t. cond t (fate.Audited paper) before) e
fate_else ballot (act.Void b) before e = ap (λ t. cond t fate.Voided before) e
fate_else ballot act.Close before e = refl
fate_else ballot (act.Draw drawn) before e = refl
fate_else ballot (act.Claim b race code) before e = refl

pub scanner_else : (ballot station : ℕ) (done : Act) (before : ℕ) → touches ballot done ≡ false → scanner_after ballot station done before ≡ before
scanner_else ballot station (act.Scan b marks) before e = ap (λ t. cond t station before) e
scanner_else ballot station (act.Spoil b) before e = refl
scanner_else ballot station (act.Audit b paper) before e = refl
scanner_else ballot station (act.Void b) before e = refl
scanner_else ballot station act.Close before e = refl
scanner_else ballot station (act.Draw drawn) before e = refl
scanner_else ballot station (act.Claim b race code) before e = refl

pub rows_else : (version kept ballot : ℕ) (rows : Rows) (done : Act) → touches ballot done ≡ false
    → scan_text (pos ballot) (with_row rows (row_of_act version kept done)).ballots ≡ scan_text (pos ballot) rows.ballots
rows_else version kept ballot rows (act.Scan b marks) e = scan_put (pos ballot) (record { ballot = pos b; fate = pos 1; detail = join_with_byte 32 (map mark_word marks) }) rows.ballots (int_eq-pos b ballot ∙ e)
rows_else version kept ballot rows (act.Spoil b) e = scan_put (pos ballot) (record { ballot = pos b; fate = pos 2; detail = [] }) rows.ballots (int_eq-pos b ballot ∙ e)
rows_else version kept ballot rows (act.Audit b paper) e = scan_put (pos ballot) (record { ballot = pos b; fate = pos 3; detail = join_with_byte 32 (map (codes_word version) paper) }) rows.ballots (int_eq-pos b ballot ∙ e)
rows_else version kept ballot rows (act.Void b) e = refl
rows_else version kept ballot rows act.Close e = refl
rows_else version kept ballot rows (act.Draw drawn) e = refl
rows_else version kept ballot rows (act.Claim b race code) e = refl

pub self : (n : ℕ) → (n == n) ≡ true
self n = grind (arith, nat_tests)

-- TEXTS

-- the text of an act that fits is that of no other one
pub texts_differ : (setup : Setup) (read : List ℕ → Option Act) → ReadsActs setup read → (a b : Act) → IsAskable setup a → IsAskable setup b → fits setup.plan a ≡ true → fits setup.plan b ≡ true
    → (a ≡ b → ⊥) → bytes_eq (act_text setup.plan.version a) (act_text setup.plan.version b) ≡ false
texts_differ setup read reads a b ia ib fa fb apart = by_test (bytes_eq (act_text setup.plan.version a) (act_text setup.plan.version b)) refl
  where
    some_same : Some a ≡ Some b → a ≡ b
    some_same e = cc

    by_test : (t : Bool) → bytes_eq (act_text setup.plan.version a) (act_text setup.plan.version b) ≡ t → t ≡ false
    by_test true e =
        let is : act_text setup.plan.version a ≡ act_text setup.plan.version b = (bytes_eq-Decides (act_text setup.plan.version a) (act_text setup.plan.version b)).0 e in
        absurd (apart (some_same (sym (reads.found a ia fa) ∙ (ap read is ∙ reads.found b ib fb))))
    by_test false e = refl

pub void_act : (setup : Setup) (ballot : ℕ) → IsAskable setup (act.Void ballot)
void_act setup ballot = record { codes = tt; counted = tt }

-- WHAT IS TOLD OF A BALLOT

abbrev pub scan_of : Setup → ℕ → List Mark → List ℕ
scan_of setup ballot marks = act_text setup.plan.version (act.Scan ballot marks)

abbrev pub void_of : Setup → ℕ → List ℕ
void_of setup ballot = act_text setup.plan.version (act.Void ballot)

-- the scan is told, and this station did it
pub record Scanned (setup : Setup) (ballots : List BallotRow) (dones : List DoneRow) (ballot scanner : ℕ) (marks : List Mark) : Type 0 where
  pub act_is : IsAskable setup (act.Scan ballot marks)
  pub fit : fits setup.plan (act.Scan ballot marks) ≡ true
  pub told : scan_text (pos ballot) ballots ≡ Some (scan_of setup ballot marks)
  pub doer : station_of (scan_of setup ballot marks) dones ≡ Some (pos scanner)

-- the scan was voided by another station
pub record Unscanned (setup : Setup) (ballots : List BallotRow) (dones : List DoneRow) (ballot scanner : ℕ) : Type 0 where
  pub marks : List Mark
  pub scanned : Scanned setup ballots dones ballot scanner marks
  pub station : ℕ
  pub doer : station_of (void_of setup ballot) dones ≡ Some (pos station)
  pub other : (station == scanner) ≡ false

-- what rows tell of a ballot with this fate
abbrev pub Tell : Setup → List BallotRow → List DoneRow → ℕ → ℕ → Fate → Type 0
Tell setup ballots dones ballot scanner fate.Unused = (count_done (void_of setup ballot) dones ≡ 0)
    × ((marks : List Mark) → IsAskable setup (act.Scan ballot marks) → fits setup.plan (act.Scan ballot marks) ≡ true → count_done (scan_of setup ballot marks) dones ≡ 0)
Tell setup ballots dones ballot scanner (fate.Cast marks) = (count_done (void_of setup ballot) dones ≡ 0) × Scanned setup ballots dones ballot scanner marks
Tell setup ballots dones ballot scanner fate.Spoiled = Unit {0}
Tell setup ballots dones ballot scanner (fate.Audited paper) = Unit {0}
Tell setup ballots dones ballot scanner fate.Voided = Unscanned setup ballots dones ballot scanner

count_else : (text : List ℕ) (row : DoneRow) (rows : List DoneRow) → bytes_eq row.act text ≡ false → count_done text rows ≡ 0 → count_done text (put done_before row rows) ≡ 0
count_else text row rows e none =
    let k = count_put done_before (λ (r : DoneRow). bytes_eq r.act text) row rows in
    let z : one_if (bytes_eq row.act text) ≡ 0 = ap one_if e in
    omega (arith, k, z, none)

-- a row of another text
tell_else : (setup : Setup) (ballots more : List BallotRow) (dones : List DoneRow) (row : DoneRow) (ballot scanner : ℕ) (told : Fate)
    → scan_text (pos ballot) more ≡ scan_text (pos ballot) ballots
    → bytes_eq row.act (void_of setup ballot) ≡ false
    → ((marks : List Mark) → IsAskable setup (act.Scan ballot marks) → fits setup.plan (act.Scan ballot marks) ≡ true → bytes_eq row.act (scan_of setup ballot marks) ≡ false)
    → Tell setup ballots dones ballot scanner told → Tell setup more (put done_before row dones) ballot scanner told
tell_else setup ballots more dones row ballot scanner fate.Unused same void scan old =
    (count_else (void_of setup ballot) row dones void old.0, λ marks is f. count_else (scan_of setup ballot marks) row dones (scan marks is f) (old.1 marks is f))
tell_else setup ballots more dones row ballot scanner (fate.Cast marks) same void scan old = (
  count_else (void_of setup ballot) row dones void old.0,
  record { act_is = old.1.act_is; fit = old.1.fit; told = same ∙ old.1.told; doer = station_put (scan_of setup ballot marks) row dones (scan marks old.1.act_is old.1.fit) ∙ old.1.doer },
)
tell_else setup ballots more dones row ballot scanner fate.Spoiled same void scan old = tt
tell_else setup ballots more dones row ballot scanner (fate.Audited paper) same void scan old = tt
tell_else setup ballots more dones row ballot scanner fate.Voided same void scan old =
    let s = old.scanned in
    record {
      marks = old.marks;
      scanned = record { act_is = s.act_is; fit = s.fit; told = same ∙ s.told; doer = station_put (scan_of setup ballot old.marks) row dones (scan old.marks s.act_is s.fit) ∙ s.doer };
      station = old.station;
      doer = station_put (void_of setup ballot) row dones void ∙ old.doer;
      other = old.other;
    }

-- what rows tell of a ballot after an act
abbrev pub After : Setup → List ℕ → List Entry → ℕ → ℕ → DoneRow → Act → Type 0
After setup text history ballot station row done =
    Tell setup (with_row (rows_of setup text history) (row_of_act setup.plan.version (length (claims_of history)) done)).ballots (put done_before row (rows_of setup text history).dones) ballot
    (scanner_after ballot station done (scanner_of history ballot)) (fate_after ballot done (fate_of history ballot))

abbrev pub Before : Setup → List ℕ → List Entry → ℕ → Fate → Type 0
Before setup text history ballot told = Tell setup (rows_of setup text history).ballots (rows_of setup text history).dones ballot (scanner_of history ballot) told

scan_here : (setup : Setup) (read : List ℕ → Option Act) (text : List ℕ) (history : List Entry) (ballot station : ℕ) (row : DoneRow) (marks : List Mark) → ReadsActs setup read
    → row.act ≡ scan_of setup ballot marks → row.station ≡ pos station → IsAskable setup (act.Scan ballot marks) → fits setup.plan (act.Scan ballot marks) ≡ true → is_ballot setup.plan ballot ≡ true
    → fate_of history ballot ≡ fate.Unused
    → Before setup text history ballot (fate_of history ballot) → After setup text history ballot station row (act.Scan ballot marks)
scan_here setup read text history ballot station row marks reads words by is fit known u old =
    let told : Before setup text history ballot fate.Unused = subst (λ (f : Fate). Before setup text history ballot f) u old in
    let brow : BallotRow = record { ballot = pos ballot; fate = pos 1; detail = join_with_byte 32 (map mark_word marks) } in
    let apart : bytes_eq row.act (void_of setup ballot) ≡ false
    = ap (λ (w : List ℕ). bytes_eq w (void_of setup ballot)) words ∙ texts_differ setup read reads (act.Scan ballot marks) (act.Void ballot) is (void_act setup ballot) fit known (λ e. cc) in
    let same : bytes_eq row.act (scan_of setup ballot marks) ≡ true = (bytes_eq-Decides row.act (scan_of setup ballot marks)).1 words in
    subst (λ (t : Bool). Tell setup (put ballot_before brow (rows_of setup text history).ballots) (put done_before row (rows_of setup text history).dones) ballot (cond t station (scanner_of history ballot)) (cond t (fate.Cast marks) (fate_of history ballot)))
    (sym (self ballot)) (
      count_else (void_of setup ballot) row (rows_of setup text history).dones apart told.0,
      record {
        act_is = is;
        fit = fit;
        told = scan_new brow (rows_of setup text history).ballots (int_eq-pos ballot ballot ∙ self ballot) (new_ballot setup text history ballot brow refl u) ∙ scan_row setup.plan.version ballot marks;
        doer = station_new (scan_of setup ballot marks) row (rows_of setup text history).dones (told.1 marks is fit) same ∙ ap (λ (s : ℤ). Some s) by;
      },
    )

void_here : (setup : Setup) (read : List ℕ → Option Act) (text : List ℕ) (history : List Entry) (ballot station : ℕ) (row : DoneRow) → ReadsActs setup read
    → row.act ≡ void_of setup ballot → row.station ≡ pos station → is_ballot setup.plan ballot ≡ true
    → (station == scanner_of history ballot) ≡ false
    → (told : Fate) → is_cast_word (fate_word told) ≡ true
    → Before setup text history ballot told
    → Tell setup (rows_of setup text history).ballots (put done_before row (rows_of setup text history).dones) ballot (scanner_of history ballot) fate.Voided
void_here setup read text history ballot station row reads words by known other fate.Unused cast old = cc
void_here setup read text history ballot station row reads words by known other fate.Spoiled cast old = cc
void_here setup read text history ballot station row reads words by known other (fate.Audited paper) cast old = cc
void_here setup read text history ballot station row reads words by known other fate.Voided cast old = cc
void_here setup read text history ballot station row reads words by known other (fate.Cast marks) cast old =
    let s = old.1 in
    let apart : bytes_eq row.act (scan_of setup ballot marks) ≡ false
    = ap (λ (w : List ℕ). bytes_eq w (scan_of setup ballot marks)) words ∙ texts_differ setup read reads (act.Void ballot) (act.Scan ballot marks) (void_act setup ballot) s.act_is known s.fit (λ e. cc) in
    let same : bytes_eq row.act (void_of setup ballot) ≡ true = (bytes_eq-Decides row.act (void_of setup ballot)).1 words in
    record {
      marks = marks;
      scanned = record { act_is = s.act_is; fit = s.fit; told = s.told; doer = station_put (scan_of setup ballot marks) row (rows_of setup text history).dones apart ∙ s.doer };
      station = station;
      doer = station_new (void_of setup ballot) row (rows_of setup text history).dones old.0 same ∙ ap (λ (n : ℤ). Some n) by;
      other = other;
    }

pub same_numbers : (a b : ℕ) → (a == b) ≡ true → b ≡ a
same_numbers a b e = grind (arith, nat_tests, e)

-- an act on the ballot
touched : (setup : Setup) (read : List ℕ → Option Act) (text : List ℕ) (history : List Entry) (ballot station : ℕ) (row : DoneRow) (done : Act) → ReadsActs setup read
    → row.act ≡ act_text setup.plan.version done → row.station ≡ pos station → IsAskable setup done → fits setup.plan done ≡ true → is_ballot setup.plan ballot ≡ true
    → refusal_of setup history station done ≡ None → touches ballot done ≡ true
    → Before setup text history ballot (fate_of history ballot) → After setup text history ballot station row done
touched setup read text history ballot station row (act.Scan b marks) reads words by is fit known r e old =
    let same : ballot ≡ b = same_numbers b ballot e in
    let here : fate_of history b ≡ fate.Unused = unused_is (fate_of history b) (early setup.plan (phase_of history) (fate_word (fate_of history b)) b (first_none _ _ r).0).unused in
    let u : fate_of history ballot ≡ fate.Unused = ap (fate_of history) same ∙ here in
    subst (λ (n : ℕ). row.act ≡ scan_of setup n marks → IsAskable setup (act.Scan n marks) → fits setup.plan (act.Scan n marks) ≡ true → After setup text history ballot station row (act.Scan n marks)) same
    (λ w i f. scan_here setup read text history ballot station row marks reads w by i f known u old) words is fit
touched setup read text history ballot station row (act.Spoil b) reads words by is fit known r e old =
    subst (λ (t : Bool). Tell setup (put ballot_before (record { ballot = pos b; fate = pos 2; detail = [] }) (rows_of setup text history).ballots) (put done_before row (rows_of setup text history).dones) ballot (scanner_of history ballot) (cond t fate.Spoiled (fate_of history ballot))) (sym e) tt
touched setup read text history ballot station row (act.Audit b paper) reads words by is fit known r e old =
    subst (λ (t : Bool). Tell setup (put ballot_before (record { ballot = pos b; fate = pos 3; detail = join_with_byte 32 (map (codes_word setup.plan.version) paper) }) (rows_of setup text history).ballots) (put done_before row (rows_of setup text history).dones) ballot (scanner_of history ballot) (cond t (fate.Audited paper) (fate_of history ballot))) (sym e) tt
touched setup read text history ballot station row (act.Void b) reads words by is fit known r e old =
    let same : ballot ≡ b = same_numbers b ballot e in
    let v = voids setup.plan (phase_of history) (fate_word (fate_of history b)) (scanner_of history b) station b r in
    let cast : is_cast_word (fate_word (fate_of history ballot)) ≡ true = ap (λ n. is_cast_word (fate_word (fate_of history n))) same ∙ v.cast in
    let other : (station == scanner_of history ballot) ≡ false = ap (λ n. station == scanner_of history n) same ∙ v.other in
    let text_is : row.act ≡ void_of setup ballot = words ∙ ap (void_of setup) (sym same) in
    subst (λ (t : Bool). Tell setup (rows_of setup text history).ballots (put done_before row (rows_of setup text history).dones) ballot (scanner_of history ballot) (cond t fate.Voided (fate_of history ballot))) (sym e)
    (void_here setup read text history ballot station row reads text_is by known other (fate_of history ballot) cast old)
touched setup read text history ballot station row act.Close reads words by is fit known r e old = cc
touched setup read text history ballot station row (act.Draw drawn) reads words by is fit known r e old = cc
touched setup read text history ballot station row (act.Claim b race code) reads words by is fit known r e old = cc

-- each ballot of the plan: its rows tell its fate
pub tells_out : (setup : Setup) (read : List ℕ → Option Act) (text : List ℕ) (history : List Entry) → ReadsActs setup read → Lawful setup history
    → (ballot : ℕ) → is_ballot setup.plan ballot ≡ true
    → Tell setup (rows_of setup text history).ballots (rows_of setup text history).dones ballot (scanner_of history ballot) (fate_of history ballot)
tells_out setup read text [] reads lawful ballot known = (refl, λ marks is f. refl)
tells_out setup read text (entry ∷ history) reads lawful ballot known =
    by_touch (touches ballot entry.act) refl (tells_out setup read text history reads lawful.1 ballot known)
  where
    rows : Rows
    rows = rows_of setup text history

    done : DoneRow
    done = done_row setup.plan.version entry

    refused : refusal_of setup history lawful.0.stamp.station entry.act ≡ None
    refused = (passed setup history lawful.0.stamp entry.act lawful.0.accepted).refusal

    fit : fits setup.plan entry.act ≡ true
    fit = fits_new setup history lawful.0.stamp.station entry.act lawful.0.act_is refused

    differs : (other : Act) → IsAskable setup other → fits setup.plan other ≡ true → (entry.act ≡ other → ⊥) → bytes_eq done.act (act_text setup.plan.version other) ≡ false
    differs other is f apart = texts_differ setup read reads entry.act other lawful.0.act_is is fit f apart

    touched_void : touches ballot entry.act ≡ false → entry.act ≡ act.Void ballot → ⊥
    touched_void e is = both_ways (touches ballot entry.act) e (ap (touches ballot) is ∙ self ballot)

    touched_scan : touches ballot entry.act ≡ false → (marks : List Mark) → entry.act ≡ act.Scan ballot marks → ⊥
    touched_scan e marks is = both_ways (touches ballot entry.act) e (ap (touches ballot) is ∙ self ballot)

    by_touch : (b : Bool) → touches ballot entry.act ≡ b
        → Tell setup rows.ballots rows.dones ballot (scanner_of history ballot) (fate_of history ballot)
        → Tell setup (with_row rows (row_of_act setup.plan.version (length (claims_of history)) entry.act)).ballots (put done_before done rows.dones) ballot
        (scanner_after ballot entry.station entry.act (scanner_of history ballot)) (fate_after ballot entry.act (fate_of history ballot))
    by_touch false e old =
        subst (λ (s : ℕ). Tell setup (with_row rows (row_of_act setup.plan.version (length (claims_of history)) entry.act)).ballots (put done_before done rows.dones) ballot s (fate_after ballot entry.act (fate_of history ballot)))
        (sym (scanner_else ballot entry.station entry.act (scanner_of history ballot) e))
        (subst (λ (f : Fate). Tell setup (with_row rows (row_of_act setup.plan.version (length (claims_of history)) entry.act)).ballots (put done_before done rows.dones) ballot (scanner_of history ballot) f)
        (sym (fate_else ballot entry.act (fate_of history ballot) e))
        (tell_else setup rows.ballots (with_row rows (row_of_act setup.plan.version (length (claims_of history)) entry.act)).ballots rows.dones done ballot (scanner_of history ballot) (fate_of history ballot)
        (rows_else setup.plan.version (length (claims_of history)) ballot rows entry.act e)
        (differs (act.Void ballot) (void_act setup ballot) known (touched_void e))
        (λ marks is f. differs (act.Scan ballot marks) is f (touched_scan e marks))
        old))
    by_touch true e old =
        let station : entry.station ≡ lawful.0.stamp.station = ap (λ (n : Entry). n.station) lawful.0.is in
        let r : refusal_of setup history entry.station entry.act ≡ None = ap (λ n. refusal_of setup history n entry.act) station ∙ refused in
        touched setup read text history ballot entry.station done entry.act reads refl refl lawful.0.act_is fit known r e old

-- VOID ROWS

-- the row is of a voided ballot of the plan
pub record IsVoided (plan : Plan) (history : List Entry) (row : VoidRow) : Type 0 where
  pub ballot : ℕ
  pub row_is : row ≡ record { ballot = pos ballot }
  pub known : is_ballot plan ballot ≡ true
  pub voided : fate_of history ballot ≡ fate.Voided

-- each of these rows is
abbrev pub AreVoided : Plan → List Entry → List VoidRow → Type 0
AreVoided plan history [] = Unit {0}
AreVoided plan history (row ∷ rows) = IsVoided plan history row × AreVoided plan history rows

-- a voided ballot stays voided
voided_stays : (setup : Setup) (history : List Entry) (station ballot : ℕ) (done : Act) → refusal_of setup history station done ≡ None
    → fate_of history ballot ≡ fate.Voided → fate_after ballot done (fate_of history ballot) ≡ fate.Voided
voided_stays setup history station ballot done r v = by_touch (touches ballot done) refl
  where
    not_unused : (b : ℕ) → ballot ≡ b → fate_of history b ≡ fate.Unused → ⊥
    not_unused b same u = let k : fate.Voided ≡ fate.Unused = sym v ∙ (ap (fate_of history) same ∙ u) in (cc)

    not_cast : (b : ℕ) → ballot ≡ b → is_cast_word (fate_word (fate_of history b)) ≡ true → ⊥
    not_cast b same c = let k : is_cast_word (fate_word fate.Voided) ≡ true = ap (λ (f : Fate). is_cast_word (fate_word f)) (sym v ∙ ap (fate_of history) same) ∙ c in (cc)

    clash : (other : Act) → refusal_of setup history station other ≡ None → touches ballot other ≡ true → ⊥
    clash (act.Scan b marks) k e = not_unused b (same_numbers b ballot e) (unused_is (fate_of history b) (early setup.plan (phase_of history) (fate_word (fate_of history b)) b (first_none _ _ k).0).unused)
    clash (act.Spoil b) k e = not_unused b (same_numbers b ballot e) (unused_is (fate_of history b) (early setup.plan (phase_of history) (fate_word (fate_of history b)) b k).unused)
    clash (act.Audit b paper) k e = not_unused b (same_numbers b ballot e) (unused_is (fate_of history b) (early setup.plan (phase_of history) (fate_word (fate_of history b)) b (first_none _ _ k).0).unused)
    clash (act.Void b) k e = not_cast b (same_numbers b ballot e) (voids setup.plan (phase_of history) (fate_word (fate_of history b)) (scanner_of history b) station b k).cast
    clash act.Close k e = cc
    clash (act.Draw drawn) k e = cc
    clash (act.Claim b race code) k e = cc

    by_touch : (t : Bool) → touches ballot done ≡ t → fate_after ballot done (fate_of history ballot) ≡ fate.Voided
    by_touch true e = absurd (clash done r e)
    by_touch false e = fate_else ballot done (fate_of history ballot) e ∙ v

all_stay : (setup : Setup) (history : List Entry) (entry : Entry) (station : ℕ) → refusal_of setup history station entry.act ≡ None → (rows : List VoidRow) → AreVoided setup.plan history rows → AreVoided setup.plan (entry ∷ history) rows
all_stay setup history entry station r [] old = tt
all_stay setup history entry station r (x ∷ xs) old =
    (record { ballot = old.0.ballot; row_is = old.0.row_is; known = old.0.known; voided = voided_stays setup history station old.0.ballot entry.act r old.0.voided }, all_stay setup history entry station r xs old.1)

put_voided : (plan : Plan) (history : List Entry) (ballot : ℕ) → is_ballot plan ballot ≡ true → fate_of history ballot ≡ fate.Voided → (rows : List VoidRow) → AreVoided plan history rows
    → AreVoided plan history (put void_before (record { ballot = pos ballot }) rows)
put_voided plan history ballot known v [] old = (record { ballot = ballot; row_is = refl; known = known; voided = v }, tt)
put_voided plan history ballot known v (x ∷ xs) old = by_order (void_before (record { ballot = pos ballot }) x) (put_voided plan history ballot known v xs old.1)
  where
    row : VoidRow
    row = record { ballot = pos ballot }

    by_order : (b : Bool) → AreVoided plan history (put void_before row xs) → AreVoided plan history (cond b (row ∷ x ∷ xs) (x ∷ put void_before row xs))
    by_order true ih = (record { ballot = ballot; row_is = refl; known = known; voided = v }, old)
    by_order false ih = (old.0, ih)

pub record Voids (setup : Setup) (history : List Entry) (rows : List VoidRow) : Type 0 where
  pub rise : Rises void_before rows
  pub voided : AreVoided setup.plan history rows

pub voids_out : (setup : Setup) (text : List ℕ) (history : List Entry) → Lawful setup history → Voids setup history (rows_of setup text history).voids
voids_out setup text [] lawful = record { rise = tt; voided = tt }
voids_out setup text (entry ∷ history) lawful = by_act entry.act refl (voids_out setup text history lawful.1)
  where
    r : refusal_of setup history lawful.0.stamp.station entry.act ≡ None
    r = (passed setup history lawful.0.stamp entry.act lawful.0.accepted).refusal

    kept : Voids setup history (rows_of setup text history).voids → Voids setup (entry ∷ history) (rows_of setup text history).voids
    kept old = record { rise = old.rise; voided = all_stay setup history entry lawful.0.stamp.station r (rows_of setup text history).voids old.voided }

    by_act : (done : Act) → entry.act ≡ done → Voids setup history (rows_of setup text history).voids
        → Voids setup (entry ∷ history) (with_row (rows_of setup text history) (row_of_act setup.plan.version (length (claims_of history)) done)).voids
    by_act (act.Scan ballot marks) e old = kept old
    by_act (act.Spoil ballot) e old = kept old
    by_act (act.Audit ballot paper) e old = kept old
    by_act act.Close e old = kept old
    by_act (act.Draw drawn) e old = kept old
    by_act (act.Claim ballot race code) e old = kept old
    by_act (act.Void ballot) e old =
        let v = voids setup.plan (phase_of history) (fate_word (fate_of history ballot)) (scanner_of history ballot) lawful.0.stamp.station ballot (ap (refusal_of setup history lawful.0.stamp.station) (sym e) ∙ r) in
        let not_yet : fate_of history ballot ≡ fate.Voided → ⊥ = λ f. (let k : is_cast_word (fate_word fate.Voided) ≡ true = ap (λ (g : Fate). is_cast_word (fate_word g)) (sym f) ∙ v.cast in (cc)) in
        let now : fate_of (entry ∷ history) ballot ≡ fate.Voided = ap (λ (a : Act). fate_after ballot a (fate_of history ballot)) e ∙ ap (λ t. cond t fate.Voided (fate_of history ballot)) (self ballot) in
        record {
          rise = put_rises void_before void_is void_order (record { ballot = pos ballot }) (rows_of setup text history).voids (new_void setup text history ballot lawful.1 not_yet) old.rise;
          voided = put_voided setup.plan (entry ∷ history) ballot v.ballot_is now (rows_of setup text history).voids (kept old).voided;
        }

voided_inside : (plan : Plan) (history : List Entry) (front : List VoidRow) (row : VoidRow) (back rows : List VoidRow) → rows ≡ front ++ row ∷ back → AreVoided plan history rows
    → IsVoided plan history row
voided_inside plan history front row back rows is all = inside front (subst (AreVoided plan history) is all)
  where
    inside : (f : List VoidRow) → AreVoided plan history (f ++ row ∷ back) → IsVoided plan history row
    inside [] a = a.0
    inside (x ∷ f) a = inside f a.1

not_same : (a b : ℕ) → (b == a) ≡ false → not (int_eq (pos a) (pos b)) ≡ true
not_same a b e = let k : int_eq (pos a) (pos b) ≡ false = grind (arith, ints, nat_tests, e) in rw k refl

-- each void row is judged good
pub void_each : (setup : Setup) (read : List ℕ → Option Act) (text : List ℕ) (history : List Entry) → ReadsActs setup read → SmallBallots setup.plan → Lawful setup history
    → (front : List VoidRow) (row : VoidRow) (back : List VoidRow) → (rows_of setup text history).voids ≡ front ++ row ∷ back
    → differ (doer (rows_of setup text history).dones (scan_text row.ballot (rows_of setup text history).ballots)) (doer (rows_of setup text history).dones (void_text setup.plan.version row)) ≡ true
void_each setup read text history reads small lawful front row back is =
    let v = voided_inside setup.plan history front row back (rows_of setup text history).voids is (voids_out setup text history lawful).voided in
    let told : Before setup text history v.ballot fate.Voided = subst (λ (f : Fate). Before setup text history v.ballot f) v.voided (tells_out setup read text history reads lawful v.ballot v.known) in
    let rows : Rows = rows_of setup text history in
    let at : row.ballot ≡ pos v.ballot = ap (λ (w : VoidRow). w.ballot) v.row_is in
    let scan : doer rows.dones (scan_text row.ballot rows.ballots) ≡ Some (pos (scanner_of history v.ballot))
    = ap (λ (z : ℤ). doer rows.dones (scan_text z rows.ballots)) at ∙ (ap (doer rows.dones) told.scanned.told ∙ told.scanned.doer) in
    let void : doer rows.dones (void_text setup.plan.version row) ≡ Some (pos told.station)
    = ap (λ (w : VoidRow). doer rows.dones (void_text setup.plan.version w)) v.row_is ∙ (ap (doer rows.dones) (void_row setup.plan.version v.ballot (small v.ballot v.known)) ∙ told.doer) in
    ap (λ (o : Option ℤ). differ o (doer rows.dones (void_text setup.plan.version row))) scan
    ∙ (ap (λ (o : Option ℤ). differ (Some (pos (scanner_of history v.ballot))) o) void ∙ not_same (scanner_of history v.ballot) told.station told.other)
