-- Valid void rows are put behind the ballots of a history.
use Rattle.std.proofs.Common.{◌≡◌, ℕ, ◌+◌, ◌≤◌, ◌==◌, ◌^◌, nat_lt, Bool, true, false, ◌&&◌, cond, List, [], ◌∷◌, ◌++◌, length, map, bytes_eq, Option, Some, None, refl, ap, sym, ◌∙◌, arith, subst}
use Rattle.std.specs.List.{list_all}
use Rattle.std.specs.Ordering.{int_eq}
use Rattle.std.specs.Prelude.{pos, int_lt, ℤ, negsuc}
use Rattle.std.proofs.lemmas.Bool.{and_parts, not-true}
use Rattle.std.proofs.lemmas.Bool.Decides.{nat_tests}
use Rattle.std.proofs.lemmas.Int.{ints}
use Rattle.std.proofs.lemmas.Slice.Eq.{bytes_eq-Decides}
use Rattle.std.proofs.lemmas.Option.{same_Some}
use Rattle.sg_plan.specs.declared.plan.Fate.{Fate}
use Rattle.sg_plan.specs.declared.plan.Fate.TheVariants as fate
use Rattle.sg_plan.specs.declared.plan.Mark.{Mark}
use Rattle.sg_plan.specs.declared.plan.Stage.TheVariants as stage
use Rattle.sg_keeper.specs.Rows.{ballot_before, done_before, is_new, put, void_before, void_is}
use Rattle.sg_acts.specs.declared.asks.Act.{Act}
use Rattle.sg_acts.specs.declared.asks.Act.TheVariants as act
use Rattle.sg_keeper.specs.declared.rows.BallotRow.{BallotRow}
use Rattle.sg_keeper.specs.declared.rows.DoneRow.{DoneRow}
use Rattle.sg_keeper.specs.declared.rows.VoidRow.{VoidRow}
use Rattle.sg_keeper.specs.declared.setup.Setup.{Setup}
use Rattle.sg_histories.specs.Answers.{is_ballot}
use Rattle.sg_histories.specs.Histories.{Entry, fate_of, scanner_of}
use Rattle.sg_histories.specs.KeptRows.{rows_of}
use Rattle.sg_histories.specs.Lawful.{IsAskable}
use Rattle.sg_histories.specs.Reading.{ReadsActs}
use Rattle.sg_histories.specs.ValidRows.{count_done, differ, doer, fits, is_stamp, scan_text, station_of, void_text}
use Rattle.sg_histories.proofs.Accepted.{voids}
use Rattle.sg_histories.proofs.Back.{nat_is, nat_of, new_before, out_rises, voids_differ}
use Rattle.sg_histories.proofs.BackBallots.{CastIn, Match, RowActs, Voted, ballots_back, story}
use Rattle.sg_histories.proofs.BackClaims.{Leads}
use Rattle.sg_histories.proofs.BackLater.{Closing, Staged, VoidAct, closing_more, closing_start, put_on, staged_start, unvoted, void_number}
use Rattle.sg_histories.proofs.OutVoids.{Scanned, Tell, scan_of, station_new, station_put, tells_out, texts_differ, void_act, void_of}
use Rattle.sg_histories.proofs.Pairing.{BeforeAll, Rises, put_all}

-- what a void's row tells, where the two stations are known and differ
pub record VoidFact (setup : Setup) (base : List Entry) (all : List DoneRow) (ballots : List BallotRow) (row : VoidRow) : Type 0 where
  pub ballot : ℕ
  pub row_is : row ≡ record { ballot = pos ballot }
  pub cast : CastIn setup.plan base ballot
  pub told : List ℕ
  pub scan_is : scan_text (pos ballot) ballots ≡ Some told
  pub test : differ (station_of told all) (station_of (void_of setup ballot) all) ≡ true

abbrev pub VoidFacts : Setup → List Entry → List DoneRow → List BallotRow → List VoidRow → Type 0
VoidFacts setup base all ballots [] = Unit {0}
VoidFacts setup base all ballots (r ∷ rows) = VoidFact setup base all ballots r × VoidFacts setup base all ballots rows

pub differ_none : (a : Option ℤ) → differ a None ≡ true → ⊥
differ_none None e = cc
differ_none (Some a) e = cc

void_fact : (setup : Setup) (text : List ℕ) (base : List Entry) (all : List DoneRow) (ballots : List BallotRow) (dones : List DoneRow) → Voted setup text ballots dones base → (row : VoidRow)
    → differ (doer all (scan_text row.ballot ballots)) (doer all (void_text setup.plan.version row)) ≡ true → VoidFact setup base all ballots row
void_fact setup text base all ballots dones voted row e = by_ballot row.ballot refl
  where
    by_ballot : (z : ℤ) → row.ballot ≡ z → VoidFact setup base all ballots row
    by_ballot (negsuc n) at =
        absurd (differ_none (doer all (scan_text row.ballot ballots)) (ap (λ (v : ℤ). differ (doer all (scan_text row.ballot ballots)) (doer all (void_text setup.plan.version (record { ballot = v })))) (sym at) ∙ e))
    by_ballot (pos b) at = by_small (nat_lt b (2 ^ 32)) refl
      where
        test : differ (doer all (scan_text (pos b) ballots)) (doer all (cond (nat_lt b (2 ^ 32)) (Some (void_of setup b)) None)) ≡ true
        test = ap (λ (v : ℤ). differ (doer all (scan_text v ballots)) (doer all (void_text setup.plan.version (record { ballot = v })))) (sym at) ∙ e

        by_scan : (o : Option (List ℕ)) → scan_text (pos b) ballots ≡ o → differ (doer all o) (doer all (Some (void_of setup b))) ≡ true → VoidFact setup base all ballots row
        by_scan None s k = cc
        by_scan (Some told) s k = record {
          ballot = b;
          row_is = ap (λ (v : ℤ). record { ballot = v }) at;
          cast = voted.cast b told s;
          told = told;
          scan_is = s;
          test = k;
        }

        by_small : (t : Bool) → nat_lt b (2 ^ 32) ≡ t → VoidFact setup base all ballots row
        by_small false k = absurd (differ_none (doer all (scan_text (pos b) ballots)) (ap (λ t. differ (doer all (scan_text (pos b) ballots)) (doer all (cond t (Some (void_of setup b)) None))) (sym k) ∙ test))
        by_small true k = by_scan (scan_text (pos b) ballots) refl (ap (λ t. differ (doer all (scan_text (pos b) ballots)) (doer all (cond t (Some (void_of setup b)) None))) (sym k) ∙ test)

pub void_facts : (setup : Setup) (text : List ℕ) (base : List Entry) (all : List DoneRow) (ballots : List BallotRow) (dones : List DoneRow) → Voted setup text ballots dones base → (voids : List VoidRow)
    → list_all (λ row. differ (doer all (scan_text row.ballot ballots)) (doer all (void_text setup.plan.version row))) voids ≡ true → VoidFacts setup base all ballots voids
void_facts setup text base all ballots dones voted [] e = tt
void_facts setup text base all ballots dones voted (r ∷ voids) e =
    let parts = and_parts (differ (doer all (scan_text r.ballot ballots)) (doer all (void_text setup.plan.version r))) _ e in
    (void_fact setup text base all ballots dones voted r parts.0, void_facts setup text base all ballots dones voted voids parts.1)

-- the least number of these rows is not lower
abbrev pub Low : ℕ → List VoidRow → Type 0
Low bound [] = Unit {0}
Low bound (r ∷ rows) = bound ≤ void_number r

-- the done rows are those of these voids
abbrev pub MatchVoids : Setup → List VoidRow → List DoneRow → Type 0
MatchVoids setup [] [] = Unit {0}
MatchVoids setup [] (d ∷ ds) = ⊥
MatchVoids setup (r ∷ rows) [] = ⊥
MatchVoids setup (r ∷ rows) (d ∷ ds) = (d.act ≡ void_of setup (void_number r)) × MatchVoids setup rows ds

void_same : (a b : ℕ) → act.Void a ≡ act.Void b → a ≡ b
void_same a b e = cc

apart_numbers : (a b : ℕ) → int_eq (pos a) (pos b) ≡ false → (b == a) ≡ false
apart_numbers a b e = grind (arith, ints, nat_tests, e)

next_low : (setup : Setup) (base : List Entry) (all : List DoneRow) (ballots : List BallotRow) (r : VoidRow) (rows : List VoidRow) → VoidFact setup base all ballots r → VoidFacts setup base all ballots rows → BeforeAll void_before r rows → Low (void_number r + 1) rows
next_low setup base all ballots r [] fact facts up = tt
next_low setup base all ballots r (x ∷ rows) fact facts up =
    let a : r.ballot ≡ pos (void_number r) = nat_again r fact.ballot fact.row_is in
    let b : x.ballot ≡ pos (void_number x) = nat_again x facts.0.ballot facts.0.row_is in
    let k : int_lt (pos (void_number r)) (pos (void_number x)) ≡ true = ap (λ (z : ℤ). int_lt z (pos (void_number x))) (sym a) ∙ (ap (λ (z : ℤ). int_lt r.ballot z) (sym b) ∙ up.0) in
    lower (void_number r) (void_number x) k
  where
    nat_again : (row : VoidRow) (n : ℕ) → row ≡ record { ballot = pos n } → row.ballot ≡ pos (void_number row)
    nat_again row n e = ap (λ (v : VoidRow). v.ballot) e ∙ ap (λ (v : VoidRow). pos (void_number v)) (sym e)

    lower : (a b : ℕ) → int_lt (pos a) (pos b) ≡ true → a + 1 ≤ b
    lower a b e = grind (arith, ints, e)

pub voids_on : (setup : Setup) (read : List ℕ → Option Act) → ReadsActs setup read → (text : List ℕ) (base : List Entry) (all : List DoneRow) (ballots : List BallotRow) (dones : List DoneRow) → Voted setup text ballots dones base
    → (voids : List VoidRow) (items : List DoneRow) → VoidFacts setup base all ballots voids → MatchVoids setup voids items
    → Rises void_before voids → Rises done_before (put_on items dones) → list_all (is_stamp (length setup.secrets)) items ≡ true
    → (bound : ℕ) → Low bound voids
    → ((n : ℕ) → is_ballot setup.plan n ≡ true → bound ≤ n → station_of (void_of setup n) all ≡ station_of (void_of setup n) (put_on items dones))
    → ((n : ℕ) (marks : List Mark) → IsAskable setup (act.Scan n marks) → fits setup.plan (act.Scan n marks) ≡ true → station_of (scan_of setup n marks) all ≡ station_of (scan_of setup n marks) (put_on items dones))
    → Closing setup text base ballots voids (put_on items dones) (unvoted voids items base)
voids_on setup read reads text base all ballots dones voted [] [] facts same up rise stamps bound low keep scan = closing_start setup text base ballots dones voted
voids_on setup read reads text base all ballots dones voted [] (d ∷ ds) facts same up rise stamps bound low keep scan = absurd same
voids_on setup read reads text base all ballots dones voted (r ∷ voids) [] facts same up rise stamps bound low keep scan = absurd same
voids_on setup read reads text base all ballots dones voted (r ∷ voids) (d ∷ ds) facts same up rise stamps bound low keep scan =
    let parts = and_parts (is_stamp (length setup.secrets) d) (list_all (is_stamp (length setup.secrets)) ds) stamps in
    let old = voids_on setup read reads text base all ballots dones voted voids ds facts.1 same.1 up.1 (out_rises done_before d (put_on ds dones) rise) parts.1
    (void_number r + 1) (next_low setup base all ballots r voids facts.0 facts.1 up.0) keep_rest scan_rest in
    closing_more setup text base r d ballots voids (put_on ds dones) (unvoted voids ds base) old (fact_of old) parts.0 up rise
  where
    fact : VoidFact setup base all ballots r
    fact = facts.0

    number : void_number r ≡ fact.ballot
    number = ap (λ (v : VoidRow). void_number v) fact.row_is

    words : d.act ≡ void_of setup fact.ballot
    words = same.0 ∙ ap (void_of setup) number

    keep_rest : (n : ℕ) → is_ballot setup.plan n ≡ true → void_number r + 1 ≤ n → station_of (void_of setup n) all ≡ station_of (void_of setup n) (put_on ds dones)
    keep_rest n known more =
        let within : bound ≤ n = (let l : bound ≤ void_number r = low in omega (arith, l, more)) in
        let apart : fact.ballot ≡ n → ⊥ = λ e. (let k : void_number r ≡ n = number ∙ e in absurd (omega (arith, k, more))) in
        keep n known within ∙ station_put (void_of setup n) d (put_on ds dones)
        (ap (λ (w : List ℕ). bytes_eq w (void_of setup n)) words
        ∙ texts_differ setup read reads (act.Void fact.ballot) (act.Void n) (void_act setup fact.ballot) (void_act setup n) fact.cast.known known (λ e. apart (void_same fact.ballot n e)))

    scan_rest : (n : ℕ) (marks : List Mark) → IsAskable setup (act.Scan n marks) → fits setup.plan (act.Scan n marks) ≡ true → station_of (scan_of setup n marks) all ≡ station_of (scan_of setup n marks) (put_on ds dones)
    scan_rest n marks is fit = scan n marks is fit ∙ station_put (scan_of setup n marks) d (put_on ds dones)
        (ap (λ (w : List ℕ). bytes_eq w (scan_of setup n marks)) words ∙ texts_differ setup read reads (act.Void fact.ballot) (act.Scan n marks) (void_act setup fact.ballot) is fact.cast.known fit (λ e. cc))

    fact_of : Closing setup text base ballots voids (put_on ds dones) (unvoted voids ds base) → VoidAct setup base r d
    fact_of old =
        let history : List Entry = unvoted voids ds base in
        let b : ℕ = fact.ballot in
        let marks : List Mark = fact.cast.marks in
        let fresh : is_new void_is (record { ballot = pos b }) voids ≡ true = subst (λ (v : VoidRow). is_new void_is v voids ≡ true) fact.row_is (new_before void_before void_is voids_differ r voids up.0) in
        let fate_is : fate_of history b ≡ fate.Cast marks = old.fates b fresh ∙ fact.cast.fate_is in
        let told : Tell setup (rows_of setup text history).ballots (rows_of setup text history).dones b (scanner_of history b) (fate.Cast marks)
        = subst (λ (f : Fate). Tell setup (rows_of setup text history).ballots (rows_of setup text history).dones b (scanner_of history b) f) fate_is (tells_out setup read text history reads old.lawful b fact.cast.known) in
        let scanned : Scanned setup (rows_of setup text history).ballots (rows_of setup text history).dones b (scanner_of history b) marks = told.1 in
        let text_is : fact.told ≡ scan_of setup b marks = same_Some fact.told (scan_of setup b marks) (sym fact.scan_is ∙ (ap (scan_text (pos b)) (sym old.ballots_are) ∙ scanned.told)) in
        let scan_station : station_of fact.told all ≡ Some (pos (scanner_of base b))
        = ap (λ (w : List ℕ). station_of w all) text_is ∙ (scan_rest b marks scanned.act_is scanned.fit ∙ (ap (station_of (scan_of setup b marks)) (sym old.dones_are) ∙ (scanned.doer ∙ ap (λ (n : ℕ). Some (pos n)) (old.scanners b)))) in
        let none : count_done (void_of setup b) (put_on ds dones) ≡ 0 = ap (count_done (void_of setup b)) (sym old.dones_are) ∙ told.0 in
        let within : bound ≤ b = (let l : bound ≤ void_number r = low in omega (arith, l, number)) in
        let void_station : station_of (void_of setup b) all ≡ Some d.station
        = keep b fact.cast.known within ∙ station_new (void_of setup b) d (put_on ds dones) none ((bytes_eq-Decides d.act (void_of setup b)).1 words) in
        let stamp = (and_parts (is_stamp (length setup.secrets) d) (list_all (is_stamp (length setup.secrets)) ds) stamps).0 in
        let number_is : d.station ≡ pos (nat_of d.station) = (nat_is d.station (length setup.secrets) (and_parts _ _ stamp).0).0 in
        let test : differ (Some (pos (scanner_of base b))) (Some (pos (nat_of d.station))) ≡ true
        = ap (λ (z : ℤ). differ (Some (pos (scanner_of base b))) (Some z)) (sym number_is)
        ∙ (ap (λ (o : Option ℤ). differ (Some (pos (scanner_of base b))) o) (sym void_station) ∙ (ap (λ (o : Option ℤ). differ o (station_of (void_of setup b) all)) (sym scan_station) ∙ fact.test)) in
        record {
          ballot = b;
          row_is = fact.row_is;
          known = fact.cast.known;
          marks = marks;
          cast = fact.cast.fate_is;
          other = apart_numbers (scanner_of base b) (nat_of d.station) (not-true _ test);
          words = words;
        }

-- ALL

abbrev pub void_acts : List VoidRow → List Act
void_acts voids = map (λ row. act.Void (void_number row)) voids

-- done rows of voids, and then those of ballots
pub record Parted (setup : Setup) (voids : List VoidRow) (acts : List Act) (items : List DoneRow) : Type 0 where
  pub first : List DoneRow
  pub rest : List DoneRow
  pub voids_match : MatchVoids setup voids first
  pub acts_match : Match setup.plan.version acts rest
  pub put_is : put_all done_before items ≡ put_on first (put_all done_before rest)
  pub all_are : list_all (is_stamp (length setup.secrets)) items ≡ (list_all (is_stamp (length setup.secrets)) first && list_all (is_stamp (length setup.secrets)) rest)

and_assoc : (a b c : Bool) → (a && (b && c)) ≡ ((a && b) && c)
and_assoc true b c = refl
and_assoc false b c = refl

part : (setup : Setup) (voids : List VoidRow) (acts : List Act) (items : List DoneRow) → Match setup.plan.version (void_acts voids ++ acts) items → Parted setup voids acts items
part setup [] acts items same = record { first = []; rest = items; voids_match = tt; acts_match = same; put_is = refl; all_are = refl }
part setup (r ∷ voids) acts [] same = absurd same
part setup (r ∷ voids) acts (d ∷ ds) same =
    let p = part setup voids acts ds same.1 in
    record {
      first = d ∷ p.first;
      rest = p.rest;
      voids_match = (same.0, p.voids_match);
      acts_match = p.acts_match;
      put_is = ap (put done_before d) p.put_is;
      all_are = ap (λ b. is_stamp (length setup.secrets) d && b) p.all_are ∙ and_assoc (is_stamp (length setup.secrets) d) (list_all (is_stamp (length setup.secrets)) p.first) (list_all (is_stamp (length setup.secrets)) p.rest);
    }

rises_on : (first dones : List DoneRow) → Rises done_before (put_on first dones) → Rises done_before dones
rises_on [] dones rise = rise
rises_on (d ∷ ds) dones rise = rises_on ds dones (out_rises done_before d (put_on ds dones) rise)

low_zero : (voids : List VoidRow) → Low 0 voids
low_zero [] = tt
low_zero (r ∷ voids) = omega arith

-- ballots that fit and voids whose stations differ lead to a history
pub voids_lead : (setup : Setup) (read : List ℕ → Option Act) → ReadsActs setup read → (text : List ℕ) (all : List DoneRow) (ballots : List BallotRow) (acts : List Act) (voids : List VoidRow)
    → RowActs setup ballots acts → Rises ballot_before ballots → Rises void_before voids
    → list_all (λ row. differ (doer all (scan_text row.ballot ballots)) (doer all (void_text setup.plan.version row))) voids ≡ true
    → Leads setup text all ballots voids (void_acts voids ++ acts) stage.Voting []
voids_lead setup read reads text all ballots acts voids are up void_up tests items same good =
    let p = part setup voids acts items same in
    let rise : Rises done_before (put_on p.first (put_all done_before p.rest)) = subst (λ (l : List DoneRow). Rises done_before l) p.put_is good.rise in
    let stamps = and_parts (list_all (is_stamp (length setup.secrets)) p.first) (list_all (is_stamp (length setup.secrets)) p.rest) (sym p.all_are ∙ good.stamps) in
    let voted = ballots_back setup text ballots acts p.rest are p.acts_match up (rises_on p.first (put_all done_before p.rest) rise) stamps.1 in
    let base : List Entry = story acts p.rest [] in
    let closing = voids_on setup read reads text base all ballots (put_all done_before p.rest) voted voids p.first (void_facts setup text base all ballots (put_all done_before p.rest) voted voids tests) p.voids_match void_up rise stamps.0 0 (low_zero voids)
    (λ n known within. good.same (act.Void n) (void_act setup n) known tt ∙ ap (station_of (void_of setup n)) p.put_is)
    (λ n marks is fit. good.same (act.Scan n marks) is fit tt ∙ ap (station_of (scan_of setup n marks)) p.put_is) in
    record {
      history = unvoted voids p.first base;
      staged = subst (λ (l : List DoneRow). Staged setup text ballots voids stage.Voting [] l (unvoted voids p.first base)) (sym p.put_is)
          (staged_start setup text base ballots voids (put_on p.first (put_all done_before p.rest)) (unvoted voids p.first base) closing);
    }
