-- What the tables tell together, and the tests of done rows and voids over what was found.
use Rattle.std.proofs.Common.{◌≡◌, ℕ, ◌==◌, nat_lt, nat_le, Bool, true, false, ◌&&◌, not, cond, List, [], ◌∷◌, ◌++◌, length, get_or, map, bytes_eq, Option, Some, None, refl, ap, sym, ◌∙◌, arith, subst}
use Rattle.std.specs.Prelude.{ℤ, pos, codes, int_lt}
use Rattle.std.specs.List.{filter_map, join_with_byte, list_all}
use Rattle.std.specs.Option.{option_and_then, option_map, option_map_or}
use Rattle.std.specs.Ordering.{int_eq}
use Rattle.std.specs.Str.{is_utf8}
use Rattle.std.proofs.lemmas.Int.{ints}
use Rattle.std.proofs.lemmas.Bool.{and_parts, not-true}
use Rattle.std.proofs.lemmas.Bool.Decides.{nat_tests}
use Rattle.std.proofs.lemmas.List.{append_assoc}
use Rattle.std.proofs.lemmas.List.Folds.{list_all-append}
use Rattle.std.proofs.lemmas.Option.{same_Some}
use Rattle.sg_lists.proofs.Counting.{count_by-append}
use Rattle.sg_lists.proofs.Options.{is_some-true}
use Rattle.sg_plan.specs.Limits.{first_bad}
use Rattle.sg_plan.specs.declared.plan.Fate.{Fate}
use Rattle.sg_plan.specs.declared.plan.Fate.TheVariants as fate
use Rattle.sg_plan.specs.declared.plan.Plan.{Plan}
use Rattle.sg_lines.specs.Words.{decimal}
use Rattle.sg_desks.specs.ActReading.{act_in}
use Rattle.sg_desks.specs.ActTexts.{act_text}
use Rattle.sg_desks.proofs.ActsFound.{acts_are_spelled}
use Rattle.sg_keeper.specs.Rows.{ballot_before, ballot_is, done_before}
use Rattle.sg_acts.specs.declared.asks.Act.{Act}
use Rattle.sg_acts.specs.declared.asks.Act.TheVariants as act
use Rattle.sg_keeper.specs.declared.rows.BallotRow.{BallotRow}
use Rattle.sg_keeper.specs.declared.rows.DoneRow.{DoneRow}
use Rattle.sg_keeper.specs.declared.rows.Rows.{Rows}
use Rattle.sg_histories.specs.Answers.{is_ballot}
use Rattle.sg_histories.specs.ValidRows.{all_done, ballot_keeps, ballot_text, ballot_words, claim_text, climbs, count_done, count_told, doer, done_fault, done_keeps, is_stamp, natural, or_missing, row_fits, scan_text, stage_text, station_of, tells_fit, told_by, void_text}
use Rattle.sg_histories.proofs.Back.{all_from, each_from, rises_from, same_bad}
use Rattle.sg_histories.proofs.Pairing.{BeforeAll, Rises}
use Rattle.sg_histories.proofs.Rising.{ballot_order}
use Rattle.sg_open.specs.declared.ballots.BallotTold.{BallotTold}
use Rattle.sg_open.specs.declared.ballots.Found.{Found}
use Rattle.sg_open.specs.inside.Finding.{found_after, found_row, scanner_by}
use Rattle.sg_open.specs.inside.Telling.{act_fate, ballot_told}
use Rattle.sg_open.proofs.Agreeing.{all_same}
use Rattle.sg_open.proofs.Seats.{Seat, no_seat, one_after, one_row, passed_over, told_seat}
use Rattle.sg_open.proofs.TellingRows.{audit_first, first_byte, row_tells, scan_first, told_is, told_utf8}

-- ORDER OF TEXTS

-- the same texts in another order
pub record SameTexts (a b : List (List ℕ)) : Type 0 where
  pub counts : (text : List ℕ) → count_told text a ≡ count_told text b
  pub all : (p : List ℕ → Bool) → list_all p a ≡ list_all p b

pub turned : (b s c v : List (List ℕ)) → SameTexts (((b ++ s) ++ c) ++ v) (c ++ (s ++ (v ++ b)))
turned b s c v = record {
  counts = λ text.
      (let p : List ℕ → Bool = λ t. bytes_eq t text in
      let one = count_by-append p ((b ++ s) ++ c) v in
      let two = count_by-append p (b ++ s) c in
      let three = count_by-append p b s in
      let four = count_by-append p c (s ++ (v ++ b)) in
      let five = count_by-append p s (v ++ b) in
      let six = count_by-append p v b in
      omega (arith, one, two, three, four, five, six));
  all = λ p.
      (let one = list_all-append p ((b ++ s) ++ c) v in
      let two = list_all-append p (b ++ s) c in
      let three = list_all-append p b s in
      let four = list_all-append p c (s ++ (v ++ b)) in
      let five = list_all-append p s (v ++ b) in
      let six = list_all-append p v b in
      one ∙ (ap (λ t. t && list_all p v) (two ∙ ap (λ t. t && list_all p c) three)
      ∙ (and_turned (list_all p b) (list_all p s) (list_all p c) (list_all p v)
      ∙ sym (four ∙ ap (λ t. list_all p c && t) (five ∙ ap (λ t. list_all p s && t) six)))));
}
  where
    and_turned : (b s c v : Bool) → (((b && s) && c) && v) ≡ (c && (s && (v && b)))
    and_turned true true true true = refl
    and_turned true true true false = refl
    and_turned true true false v = refl
    and_turned true false true v = refl
    and_turned true false false v = refl
    and_turned false true true true = refl
    and_turned false true true false = refl
    and_turned false true false v = refl
    and_turned false false true v = refl
    and_turned false false false v = refl

pub same_fault : (stations : ℕ) (a b : List (List ℕ)) (rows : List DoneRow) → SameTexts a b → done_fault stations a rows ≡ done_fault stations b rows
same_fault stations a b rows same =
    let tests : all_done a rows ≡ all_done b rows
    = all_same (λ text. nat_le (count_told text a) (count_done text rows)) (λ text. nat_le (count_told text b) (count_done text rows)) a (λ text. ap (λ n. nat_le n (count_done text rows)) (same.counts text))
    ∙ same.all (λ text. nat_le (count_told text b) (count_done text rows)) in
    ap (λ t. or_missing t (length rows) (first_bad (done_keeps stations a) [] rows)) tests
    ∙ ap (or_missing (all_done b rows) (length rows))
    (same_bad (done_keeps stations a) (done_keeps stations b) [] rows (λ front row. ap (λ n. (climbs done_before front row && is_stamp stations row) && nat_lt (count_done row.act front) n) (same.counts row.act)))

pub told_in_order : (version : ℕ) (rows : Rows) → SameTexts (((filter_map ballot_text rows.ballots ++ map stage_text rows.stages) ++ filter_map (claim_text version) rows.claims) ++ filter_map (void_text version) rows.voids) (told_by version rows)
unfolding told_by
told_in_order version rows = turned (filter_map ballot_text rows.ballots) (map stage_text rows.stages) (filter_map (claim_text version) rows.claims) (filter_map (void_text version) rows.voids)

-- BALLOTS

-- each row fits
pub all_fit : (plan : Plan) (rows : List BallotRow) → first_bad (ballot_keeps plan (act_in plan.version)) [] rows ≡ None → list_all (row_fits plan (act_in plan.version)) rows ≡ true
all_fit plan rows good =
    all_from (ballot_keeps plan (act_in plan.version)) (row_fits plan (act_in plan.version)) (λ front (row : BallotRow) k. (and_parts (climbs ballot_before front row) (row_fits plan (act_in plan.version) row) k).1) [] rows
    (each_from (ballot_keeps plan (act_in plan.version)) rows good)

filter_some : {A B : Type 0} (f : A → Option B) (x : A) (xs : List A) (y : B) → f x ≡ Some y → filter_map f (x ∷ xs) ≡ y ∷ filter_map f xs
filter_some f x xs y e = rw e refl

pub found_told : (plan : Plan) (stations : List ℕ → Option ℤ) (found : Found) (rows : List BallotRow) → list_all (row_fits plan (act_in plan.version)) rows ≡ true
    → (found_after plan stations found rows).told ≡ found.told ++ filter_map ballot_text rows
found_told plan stations found [] all = sym (append_nil found.told)
  where
    append_nil : (l : List (List ℕ)) → (l ++ []) ≡ l
    append_nil [] = refl
    append_nil (x ∷ l) = ap (λ k. x ∷ k) (append_nil l)
found_told plan stations found (row ∷ rows) all =
    let parts = and_parts (row_fits plan (act_in plan.version) row) (list_all (row_fits plan (act_in plan.version)) rows) all in
    let some = is_some-true (ballot_told plan row) (row_tells plan row ∙ parts.0) in
    let told : BallotTold = some.0 in
    let text : filter_map ballot_text (row ∷ rows) ≡ told.text ∷ filter_map ballot_text rows = filter_some ballot_text row rows told.text (told_is plan row told some.1).text in
    found_told plan stations (found_row stations found (ballot_told plan row)) rows parts.1
    ∙ (ap (λ (o : Option BallotTold). (found_row stations found o).told ++ filter_map ballot_text rows) some.1
    ∙ (append_assoc found.told (told.text ∷ []) (filter_map ballot_text rows) ∙ ap (λ l. found.told ++ l) (sym text)))

-- SCANNERS

-- the second byte of a text tells a scan from a spoiled ballot
abbrev pub second_byte : List ℕ → ℕ
second_byte text = get_or text 1 0

scan_second : (version ballot : ℕ) (marks : _) → second_byte (act_text version (act.Scan ballot marks)) ≡ 99
unfolding act_text
scan_second version ballot marks = refl

spoil_second : (version ballot : ℕ) → second_byte (act_text version (act.Spoil ballot)) ≡ 112
unfolding act_text
spoil_second version ballot = refl

-- a row of fate 1 tells a scan, and no other row does
abbrev pub SaysScan : Bool → List ℕ → Type 0
SaysScan true text = (first_byte text ≡ 115) × (second_byte text ≡ 99)
SaysScan false text = first_byte text ≡ 115 → second_byte text ≡ 112

words_say : (kind : ℤ) (ballot : ℕ) (detail : List ℕ) (words : List (List ℕ)) → ballot_words kind ballot detail ≡ Some words → SaysScan (int_eq kind (pos 1)) (join_with_byte 32 words)
words_say kind ballot detail words = by_tests (int_eq kind (pos 1)) (int_eq kind (pos 2)) (int_eq kind (pos 3)) (length detail == 0)
  where
    same : {A : Type 0} (a b : A) → Some a ≡ Some b → a ≡ b
    same a b e = cc

    by_tests : (one two three empty : Bool)
        → cond one (Some (codes "scan" ∷ decimal ballot ∷ cond empty [] (detail ∷ []))) (cond two (cond empty (Some (codes "spoil" ∷ decimal ballot ∷ [])) None) (cond three (Some (codes "audit" ∷ decimal ballot ∷ detail ∷ [])) None)) ≡ Some words
        → SaysScan one (join_with_byte 32 words)
    by_tests true two three empty e = subst (λ (w : List (List ℕ)). SaysScan true (join_with_byte 32 w)) (same _ _ e) (refl, refl)
    by_tests false true three true e = subst (λ (w : List (List ℕ)). SaysScan false (join_with_byte 32 w)) (same _ _ e) (λ k. refl)
    by_tests false true three false e = cc
    by_tests false false true empty e = subst (λ (w : List (List ℕ)). SaysScan false (join_with_byte 32 w)) (same _ _ e) (λ k. (let no_scan : 97 ≡ 115 = k in absurd (omega (arith, no_scan))))
    by_tests false false false empty e = cc

row_says : (plan : Plan) (row : BallotRow) (text : List ℕ) → ballot_text row ≡ Some text → SaysScan (int_eq row.fate (pos 1)) text
row_says plan row text = by_number (natural row.ballot)
  where
    by_words : (ballot : ℕ) (words : Option (List (List ℕ))) → ballot_words row.fate ballot row.detail ≡ words → option_map (join_with_byte 32) words ≡ Some text → SaysScan (int_eq row.fate (pos 1)) text
    by_words ballot None w e = cc
    by_words ballot (Some words) w e = subst (λ (t : List ℕ). SaysScan (int_eq row.fate (pos 1)) t) (same_Some (join_with_byte 32 words) text e) (words_say row.fate ballot row.detail words w)

    by_number : (number : Option ℕ) → option_and_then (λ b. option_map (join_with_byte 32) (ballot_words row.fate b row.detail)) number ≡ Some text → SaysScan (int_eq row.fate (pos 1)) text
    by_number None e = cc
    by_number (Some ballot) e = by_words ballot (ballot_words row.fate ballot row.detail) refl e

some_fate : (plan : Plan) (test : Bool) (made told : Fate) → cond test (Some made) None ≡ Some told → made ≡ told
some_fate plan true made told e = cc
some_fate plan false made told e = cc

-- the station is asked for exactly where the row is of a scan
scan_asked : (plan : Plan) (stations : List ℕ → Option ℤ) (row : BallotRow) (told : BallotTold) → ballot_told plan row ≡ Some told
    → scanner_by stations told.text told.fate ≡ cond (int_eq row.fate (pos 1)) (stations told.text) None
scan_asked plan stations row told e =
    let tells = told_is plan row told e in
    let spelled = (acts_are_spelled plan.version told.text tells.done tells.read).1 in
    by_kind (int_eq row.fate (pos 1)) tells.done spelled tells.fate (row_says plan row told.text tells.text)
  where
    by_kind : (scan : Bool) (done : Act) → told.text ≡ act_text plan.version done → act_fate plan done ≡ Some told.fate → SaysScan scan told.text
        → scanner_by stations told.text told.fate ≡ cond scan (stations told.text) None
    by_kind true (act.Scan ballot marks) t m says = ap (scanner_by stations told.text) (sym (some_fate plan _ (fate.Cast marks) told.fate m))
    by_kind false (act.Scan ballot marks) t m says =
        let first : first_byte told.text ≡ 115 = ap first_byte t ∙ scan_first plan.version ballot marks in
        let clash : 99 ≡ 112 = sym (scan_second plan.version ballot marks) ∙ (sym (ap second_byte t) ∙ says first) in
        absurd (omega (arith, clash))
    by_kind true (act.Spoil ballot) t m says =
        let clash : 112 ≡ 99 = sym (spoil_second plan.version ballot) ∙ (sym (ap second_byte t) ∙ says.1) in
        absurd (omega (arith, clash))
    by_kind false (act.Spoil ballot) t m says = ap (scanner_by stations told.text) (sym (some_fate plan _ fate.Spoiled told.fate m))
    by_kind true (act.Audit ballot paper) t m says =
        let clash : 97 ≡ 115 = sym (audit_first plan.version ballot paper) ∙ (sym (ap first_byte t) ∙ says.0) in
        absurd (omega (arith, clash))
    by_kind false (act.Audit ballot paper) t m says = ap (scanner_by stations told.text) (sym (some_fate plan _ (fate.Audited paper) told.fate m))
    by_kind scan act.Close t m says = cc
    by_kind scan (act.Draw drawn) t m says = cc
    by_kind scan (act.Claim ballot race code) t m says = cc
    by_kind scan (act.Void ballot) t m says = cc

-- ROWS THAT RISE

-- no row of these has the number
abbrev pub none_has : ℤ → List BallotRow → Bool
none_has number rows = list_all (λ (row : BallotRow). not (int_eq row.ballot number)) rows

-- of each ballot there is one row
abbrev pub Once : List BallotRow → Type 0
Once [] = Unit {0}
Once (row ∷ rows) = (none_has row.ballot rows ≡ true) × Once rows

-- higher numbers are other ones
low_none : (row : BallotRow) (rows : List BallotRow) → BeforeAll ballot_before row rows → none_has row.ballot rows ≡ true
low_none row [] low = refl
low_none row (x ∷ rows) low = rw (apart row.ballot x.ballot low.0) (low_none row rows low.1)
  where
    apart : (a b : ℤ) → int_lt a b ≡ true → int_eq b a ≡ false
    apart a b l = grind (arith, ints, l)

once_from : (rows : List BallotRow) → Rises ballot_before rows → Once rows
once_from [] rise = tt
once_from (row ∷ rows) rise = (low_none row rows rise.0, once_from rows rise.1)

-- good rows have one for each ballot
pub good_once : (plan : Plan) (rows : List BallotRow) → first_bad (ballot_keeps plan (act_in plan.version)) [] rows ≡ None → Once rows
good_once plan rows good = once_from rows (rises_from ballot_before ballot_is (ballot_keeps plan (act_in plan.version)) ballot_order
    (λ front (row : BallotRow) k. (and_parts (climbs ballot_before front row) (row_fits plan (act_in plan.version) row) k).0) [] rows
    (each_from (ballot_keeps plan (act_in plan.version)) rows good))

one_no : (plan : Plan) (stations : List ℕ → Option ℤ) (ballot : ℕ) (seat : Seat) (rows : List BallotRow) → none_has (pos ballot) rows ≡ true → one_after plan stations ballot seat rows ≡ seat
one_no plan stations ballot seat [] all = refl
one_no plan stations ballot seat (row ∷ rows) all =
    let parts = and_parts (not (int_eq row.ballot (pos ballot))) (none_has (pos ballot) rows) all in
    let other : int_eq row.ballot (pos ballot) ≡ false = not-true (int_eq row.ballot (pos ballot)) parts.0 in
    ap (λ (s : Seat). one_after plan stations ballot s rows) (passed_over plan stations ballot seat row other) ∙ one_no plan stations ballot seat rows parts.1

-- the scanner that is found is the one that did the scan's text
pub scanner_is : (plan : Plan) (stations : List ℕ → Option ℤ) (dones : List DoneRow) (ballot : ℕ) (rows : List BallotRow)
    → ((text : List ℕ) → is_utf8 text ≡ true → stations text ≡ station_of text dones)
    → list_all (row_fits plan (act_in plan.version)) rows ≡ true → Once rows
    → (one_after plan stations ballot no_seat rows).scanner ≡ doer dones (scan_text (pos ballot) rows)
scanner_is plan stations dones ballot [] first all once = refl
scanner_is plan stations dones ballot (row ∷ rows) first all once =
    let parts = and_parts (row_fits plan (act_in plan.version) row) (list_all (row_fits plan (act_in plan.version)) rows) all in
    let some = is_some-true (ballot_told plan row) (row_tells plan row ∙ parts.0) in
    by_same (int_eq row.ballot (pos ballot)) refl some.0 some.1 (scanner_is plan stations dones ballot rows first parts.1 once.1)
  where
    same_int : (a : ℤ) (n : ℕ) → int_eq a (pos n) ≡ true → a ≡ pos n
    same_int a n e = grind (arith, ints, e)

    numbers : (a b : ℕ) → pos a ≡ pos b → (a == b) ≡ true
    numbers a b e = grind (arith, nat_tests, ints, e)

    asked : (t : Bool) (text : List ℕ) → is_utf8 text ≡ true → cond t (stations text) None ≡ doer dones (cond t (Some text) None)
    asked true text u = first text u
    asked false text u = refl

    by_same : (same : Bool) → int_eq row.ballot (pos ballot) ≡ same → (told : BallotTold) → ballot_told plan row ≡ Some told
        → (one_after plan stations ballot no_seat rows).scanner ≡ doer dones (scan_text (pos ballot) rows)
        → (one_after plan stations ballot (one_row stations ballot no_seat (ballot_told plan row)) rows).scanner
        ≡ doer dones (cond same (cond (int_eq row.fate (pos 1)) (ballot_text row) None) (scan_text (pos ballot) rows))
    by_same false s told e ih = ap (λ (x : Seat). (one_after plan stations ballot x rows).scanner) (passed_over plan stations ballot no_seat row s) ∙ ih
    by_same true s told e ih =
        let is : row.ballot ≡ pos ballot = same_int row.ballot ballot s in
        let tells = told_is plan row told e in
        let here : one_row stations ballot no_seat (ballot_told plan row) ≡ told_seat stations told
        = ap (one_row stations ballot no_seat) e ∙ ap (λ b. cond b (told_seat stations told) no_seat) (numbers told.ballot ballot (sym tells.number ∙ is)) in
        let rest : one_after plan stations ballot (told_seat stations told) rows ≡ told_seat stations told = one_no plan stations ballot (told_seat stations told) rows (ap (λ (z : ℤ). none_has z rows) (sym is) ∙ once.0) in
        ap (λ (x : Seat). (one_after plan stations ballot x rows).scanner) here
        ∙ (ap (λ (x : Seat). x.scanner) rest
        ∙ (scan_asked plan stations row told e
        ∙ (asked (int_eq row.fate (pos 1)) told.text (told_utf8 plan row told e)
        ∙ ap (λ (t : Option (List ℕ)). doer dones (cond (int_eq row.fate (pos 1)) t None)) (sym tells.text))))

-- a number that is no ballot of the plan has no scan
pub no_scan : (plan : Plan) (number : ℤ) (rows : List BallotRow) → list_all (row_fits plan (act_in plan.version)) rows ≡ true → option_map_or (is_ballot plan) (natural number) false ≡ false → scan_text number rows ≡ None
no_scan plan number [] all none = refl
no_scan plan number (row ∷ rows) all none =
    let parts = and_parts (row_fits plan (act_in plan.version) row) (list_all (row_fits plan (act_in plan.version)) rows) all in
    let known : option_map_or (is_ballot plan) (natural row.ballot) false ≡ true = (and_parts (option_map_or (is_ballot plan) (natural row.ballot) false) (tells_fit plan (act_in plan.version) (ballot_text row)) parts.0).0 in
    by_same (int_eq row.ballot number) refl known (no_scan plan number rows parts.1 none)
  where
    same_int : (a b : ℤ) → int_eq a b ≡ true → a ≡ b
    same_int a b e = grind (arith, ints, e)

    by_same : (same : Bool) → int_eq row.ballot number ≡ same → option_map_or (is_ballot plan) (natural row.ballot) false ≡ true → scan_text number rows ≡ None
        → cond same (cond (int_eq row.fate (pos 1)) (ballot_text row) None) (scan_text number rows) ≡ None
    by_same false s k ih = ih
    by_same true s k ih = let clash : true ≡ false = sym k ∙ (ap (λ (z : ℤ). option_map_or (is_ballot plan) (natural z) false) (same_int row.ballot number s) ∙ none) in cc
