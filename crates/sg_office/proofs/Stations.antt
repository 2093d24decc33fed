-- The rows of the stations' acts: the text at a stamp, one more act, and one less.
use Rattle.std.proofs.Common.{◌≡◌, ℕ, ℤ, Bool, true, false, ◌&&◌, cond, List, [], ◌∷◌, ◌++◌, map, Some, None, Result, Ok, Err, OnErr, OnOk, Ordering, Less, Equal, Greater, refl, ap, sym, subst, ◌∙◌, arith}
use Rattle.std.proofs.lemmas.Int.{ints}
use Rattle.std.proofs.lemmas.Map.Keys.{sorted_head, sorted_tail}
use Rattle.std.specs.BTreeMap.{insert_entry, is_at}
use Rattle.std.specs.List.{AllByRecursion}
use Rattle.std.specs.Map.{keys_of, lookup, remove_entry, set_value}
use Rattle.std.specs.Ordering.{int_cmp, int_eq, is_eq, match_ordering, ordering_then}
use Rattle.std.specs.Prelude.{pos}
use Rattle.std.proofs.lemmas.Option.{same_Some}
use Rattle.sg_keeper.specs.Rows.{done_before, done_is, is_new, put}
use Rattle.sg_keeper.specs.declared.rows.DoneRow.{DoneRow}
use Rattle.sg_histories.specs.Standing.{text_at}
use Rattle.sg_office.specs.Acts.{without}
use Rattle.sg_office.specs.inside.Runs.{Act, AreApart, Inserted, IsWhole, Stations, acts_of, gathered, row_of, rows_in, rows_of_late, rows_of_runs, text_in, text_of, without_number}
use Rattle.sg_office.proofs.Gathered.{first_new, inserted_before, inserted_behind, new_behind, new_gathered, or_else, row_in, text_both, text_gathered, without_both}

abbrev pub Runs : Type 0
Runs = List (ℤ × List Act)

abbrev pub Late : Type 0
Late = List ((ℤ × ℤ) × List ℕ)

-- how a stamp stands to another one: by its station, and then by its number
abbrev pub stamp_cmp : ℤ × ℤ → ℤ × ℤ → Ordering
stamp_cmp a b = ordering_then (int_cmp a.0 b.0) (int_cmp a.1 b.1)

-- KEYS

same_key : (a b : ℤ) → is_eq (int_cmp a b) ≡ true → b ≡ a
same_key a b e = grind (arith, ints, e)

other_key : (a b : ℤ) → is_eq (int_cmp a b) ≡ false → int_eq b a ≡ false
other_key a b e = grind (arith, ints, e)

key_itself : (a : ℤ) → int_eq a a ≡ true
key_itself a = grind (arith, ints)

-- a key that is another one's is not those behind it
not_behind : (a b c : ℤ) → is_eq (int_cmp a b) ≡ true → int_cmp b c ≡ Less → int_eq c a ≡ false
not_behind a b c e f = grind (arith, ints, e, f)

stamp_is : (a b : ℤ × ℤ) → is_eq (stamp_cmp a b) ≡ (int_eq b.0 a.0 && int_eq b.1 a.1)
stamp_is a b = grind (arith, ints)

-- ROWS OF OTHER STATIONS

-- no key is the station's
abbrev NoneIs : ℤ → List ℤ → Type 0
NoneIs station keys = AllByRecursion (λ other. int_eq other station ≡ false) keys

behind_none : (station key : ℤ) (keys : List ℤ) → is_eq (int_cmp station key) ≡ true → AllByRecursion (λ other. int_cmp key other ≡ Less) keys → NoneIs station keys
behind_none station key [] same all = tt
behind_none station key (k ∷ ks) same all = (not_behind station key k same all.0, behind_none station key ks same all.1)

-- the acts of another station have no text at a stamp of this one
text_of_others : (station number : ℕ) (other : ℤ) (acts : List Act) (rows : List DoneRow) → int_eq other (pos station) ≡ false
    → text_at station number (map (row_of other) acts ++ rows) ≡ text_at station number rows
text_of_others station number other [] rows differs = refl
text_of_others station number other (x ∷ xs) rows differs =
    ap (λ b. cond (b && int_eq x.0 (pos number)) (Some x.1) (text_at station number (map (row_of other) xs ++ rows))) differs
    ∙ text_of_others station number other xs rows differs

text_of_none : (station number : ℕ) (runs : Runs) → NoneIs (pos station) (keys_of runs) → text_at station number (rows_of_runs runs) ≡ None
text_of_none station number [] none = refl
text_of_none station number (run ∷ runs) none = text_of_others station number run.0 run.1 (rows_of_runs runs) none.0 ∙ text_of_none station number runs none.1

-- the acts of the station, and no others behind them
text_of_these : (station number : ℕ) (key : ℤ) (acts : List Act) (rows : List DoneRow) → key ≡ pos station → text_at station number rows ≡ None
    → text_at station number (map (row_of key) acts ++ rows) ≡ text_of (pos number) acts
text_of_these station number key [] rows is none = none
text_of_these station number key (x ∷ xs) rows is none = by_key (int_eq key (pos station)) (ap (λ k. int_eq k (pos station)) is ∙ key_itself (pos station)) (text_of_these station number key xs rows is none)
  where
    by_key : (b : Bool) → b ≡ true → text_at station number (map (row_of key) xs ++ rows) ≡ text_of (pos number) xs
        → cond (b && int_eq x.0 (pos number)) (Some x.1) (text_at station number (map (row_of key) xs ++ rows)) ≡ cond (int_eq x.0 (pos number)) (Some x.1) (text_of (pos number) xs)
    by_key true is rest = ap (λ o. cond (int_eq x.0 (pos number)) (Some x.1) o) rest
    by_key false is rest = cc

pub text_in_runs : (station number : ℕ) (runs : Runs) → Stations runs → text_at station number (rows_of_runs runs) ≡ text_in (pos number) (acts_of (pos station) runs)
text_in_runs station number [] rise = refl
text_in_runs station number (run ∷ runs) rise = by_test (is_eq (int_cmp (pos station) run.0)) refl (text_in_runs station number runs (sorted_tail int_cmp run.0 (keys_of runs) rise))
  where
    by_test : (b : Bool) → is_eq (int_cmp (pos station) run.0) ≡ b → text_at station number (rows_of_runs runs) ≡ text_in (pos number) (acts_of (pos station) runs)
        → text_at station number (map (row_of run.0) run.1 ++ rows_of_runs runs) ≡ text_in (pos number) (cond b (Some run.1) (acts_of (pos station) runs))
    by_test true same rest =
        text_of_these station number run.0 run.1 (rows_of_runs runs) (same_key (pos station) run.0 same)
        (text_of_none station number runs (behind_none (pos station) run.0 (keys_of runs) same (sorted_head int_cmp run.0 (keys_of runs) rise)))
    by_test false other rest = text_of_others station number run.0 run.1 (rows_of_runs runs) (other_key (pos station) run.0 other) ∙ rest

pub text_in_late : (station number : ℕ) (late : Late) → lookup (is_at (stamp_cmp (pos station, pos number))) late ≡ text_at station number (rows_of_late late)
text_in_late station number [] = refl
text_in_late station number (e ∷ es) =
    ap (λ b. cond b (Some e.1) (lookup (is_at (stamp_cmp (pos station, pos number))) es)) (stamp_is (pos station, pos number) e.0)
    ∙ ap (λ o. cond (int_eq e.0.0 (pos station) && int_eq e.0.1 (pos number)) (Some e.1) o) (text_in_late station number es)

-- the text at a stamp, where the acts are whole
pub text_found : (station number : ℕ) (runs : Runs) (late : Late) → IsWhole runs late
    → or_else (text_in (pos number) (acts_of (pos station) runs)) (lookup (is_at (stamp_cmp (pos station, pos number))) late) ≡ text_at station number (gathered (rows_in runs late))
text_found station number runs late whole =
    sym (text_gathered station number (rows_in runs late) whole.apart
    ∙ (text_both station number (rows_of_runs runs) (rows_of_late late)
    ∙ (ap (λ o. or_else o (text_at station number (rows_of_late late))) (text_in_runs station number runs whole.stations)
    ∙ ap (or_else (text_in (pos number) (acts_of (pos station) runs))) (sym (text_in_late station number late)))))

-- ONE MORE ACT

-- an act behind a station's others
inserted_last : (station : ℤ) (acts : List Act) (act : Act) → Inserted (row_of station act) (map (row_of station) acts) (map (row_of station) (acts ++ act ∷ []))
inserted_last station [] act = record { front = []; rest = []; old_is = refl; new_is = refl }
inserted_last station (x ∷ xs) act = inserted_behind (row_of station act) (row_of station x ∷ []) (map (row_of station) xs) (map (row_of station) (xs ++ act ∷ [])) (inserted_last station xs act)

-- behind the run of a station that has one
pub inserted_at_end : (station : ℤ) (runs : Runs) (acts : List Act) (act : Act) → acts_of station runs ≡ Some acts
    → Inserted (row_of station act) (rows_of_runs runs) (rows_of_runs (set_value (is_at (int_cmp station)) runs (acts ++ act ∷ [])))
inserted_at_end station [] acts act e = cc
inserted_at_end station (run ∷ runs) acts act e = by_test (is_eq (int_cmp station run.0)) refl (inserted_at_end station runs acts act) e
  where
    by_test : (b : Bool) → is_eq (int_cmp station run.0) ≡ b
        → (acts_of station runs ≡ Some acts → Inserted (row_of station act) (rows_of_runs runs) (rows_of_runs (set_value (is_at (int_cmp station)) runs (acts ++ act ∷ []))))
        → cond b (Some run.1) (acts_of station runs) ≡ Some acts
        → Inserted (row_of station act) (rows_of_runs (run ∷ runs)) (rows_of_runs (cond b ((run.0, acts ++ act ∷ []) ∷ runs) (run ∷ set_value (is_at (int_cmp station)) runs (acts ++ act ∷ []))))
    by_test true same rest found =
        inserted_before (row_of station act) (map (row_of run.0) run.1) (map (row_of run.0) (acts ++ act ∷ [])) (rows_of_runs runs)
        (subst (λ (k : ℤ). Inserted (row_of station act) (map (row_of k) run.1) (map (row_of k) (acts ++ act ∷ []))) (sym (same_key station run.0 same))
        (subst (λ (l : List Act). Inserted (row_of station act) (map (row_of station) l) (map (row_of station) (acts ++ act ∷ []))) (sym (same_Some run.1 acts found)) (inserted_last station acts act)))
    by_test false other rest found =
        inserted_behind (row_of station act) (map (row_of run.0) run.1) (rows_of_runs runs) (rows_of_runs (set_value (is_at (int_cmp station)) runs (acts ++ act ∷ []))) (rest found)

-- as the first act of a station
pub inserted_as_first : (station : ℤ) (runs : Runs) (act : Act) → acts_of station runs ≡ None
    → Inserted (row_of station act) (rows_of_runs runs) (rows_of_runs (insert_entry int_cmp runs station (act ∷ [])))
inserted_as_first station [] act e = record { front = []; rest = []; old_is = refl; new_is = refl }
inserted_as_first station (run ∷ runs) act e = by_order (int_cmp station run.0) (inserted_as_first station runs act) e
  where
    by_order : (o : Ordering) → (acts_of station runs ≡ None → Inserted (row_of station act) (rows_of_runs runs) (rows_of_runs (insert_entry int_cmp runs station (act ∷ []))))
        → cond (is_eq o) (Some run.1) (acts_of station runs) ≡ None
        → Inserted (row_of station act) (rows_of_runs (run ∷ runs)) (rows_of_runs (match_ordering o ((station, act ∷ []) ∷ run ∷ runs) ((run.0, act ∷ []) ∷ runs) (run ∷ insert_entry int_cmp runs station (act ∷ []))))
    by_order Less rest_in none = record { front = []; rest = rows_of_runs (run ∷ runs); old_is = refl; new_is = refl }
    by_order Equal rest_in none = cc
    by_order Greater rest_in none =
        inserted_behind (row_of station act) (map (row_of run.0) run.1) (rows_of_runs runs) (rows_of_runs (insert_entry int_cmp runs station (act ∷ []))) (rest_in none)

-- by its station and number
pub inserted_late : (station number : ℤ) (text : List ℕ) (late : Late) → is_new done_is (row_of station (number, text)) (rows_of_late late) ≡ true
    → Inserted (row_of station (number, text)) (rows_of_late late) (rows_of_late (insert_entry stamp_cmp late (station, number) text))
inserted_late station number text [] new = record { front = []; rest = []; old_is = refl; new_is = refl }
inserted_late station number text (e ∷ es) new = by_order (stamp_cmp (station, number) e.0) (stamp_is (station, number) e.0) (inserted_late station number text es news.1)
  where
    row : DoneRow
    row = row_of station (number, text)

    entry_row : DoneRow
    entry_row = row_of e.0.0 (e.0.1, e.1)

    news : (done_is entry_row row ≡ false) × (is_new done_is row (rows_of_late es) ≡ true)
    news = first_new row entry_row (rows_of_late es) new

    by_order : (o : Ordering) → is_eq o ≡ done_is entry_row row → Inserted row (rows_of_late es) (rows_of_late (insert_entry stamp_cmp es (station, number) text))
        → Inserted row (entry_row ∷ rows_of_late es) (rows_of_late (match_ordering o (((station, number), text) ∷ e ∷ es) ((e.0, text) ∷ es) (e ∷ insert_entry stamp_cmp es (station, number) text)))
    by_order Less same rest_in = record { front = []; rest = entry_row ∷ rows_of_late es; old_is = refl; new_is = refl }
    by_order Equal same rest_in = let clash : true ≡ false = same ∙ news.0 in (absurd cc)
    by_order Greater same rest_in = inserted_behind row (entry_row ∷ []) (rows_of_late es) (rows_of_late (insert_entry stamp_cmp es (station, number) text)) rest_in

-- a run that is written as it was
pub written_same : (station : ℤ) (runs : Runs) (acts : List Act) → acts_of station runs ≡ Some acts → set_value (is_at (int_cmp station)) runs acts ≡ runs
written_same station [] acts e = cc
written_same station (run ∷ runs) acts e = by_test (is_eq (int_cmp station run.0)) (written_same station runs acts) e
  where
    by_test : (b : Bool) → (acts_of station runs ≡ Some acts → set_value (is_at (int_cmp station)) runs acts ≡ runs) → cond b (Some run.1) (acts_of station runs) ≡ Some acts → cond b ((run.0, acts) ∷ runs) (run ∷ set_value (is_at (int_cmp station)) runs acts) ≡ run ∷ runs
    by_test true rest found = ap (λ (l : List Act). (run.0, l) ∷ runs) (sym (same_Some run.1 acts found))
    by_test false rest found = ap (λ l. run ∷ l) (rest found)

-- ONE ACT LESS

-- rows of other stations stay
without_others : (done : DoneRow) (other : ℤ) (acts : List Act) (rows : List DoneRow) → int_eq other done.station ≡ false
    → without done (map (row_of other) acts ++ rows) ≡ map (row_of other) acts ++ without done rows
without_others done other [] rows differs = refl
without_others done other (x ∷ xs) rows differs =
    ap (λ b. cond (b && int_eq x.0 done.number) (map (row_of other) xs ++ rows) (row_of other x ∷ without done (map (row_of other) xs ++ rows))) differs
    ∙ ap (λ l. row_of other x ∷ l) (without_others done other xs rows differs)

without_runs : (done : DoneRow) (runs : Runs) → NoneIs done.station (keys_of runs) → without done (rows_of_runs runs) ≡ rows_of_runs runs
without_runs done [] none = refl
without_runs done (run ∷ runs) none = without_others done run.0 run.1 (rows_of_runs runs) none.0 ∙ ap (λ l. map (row_of run.0) run.1 ++ l) (without_runs done runs none.1)

-- an act of the station goes, where the rows behind stay as they are
without_these : (done : DoneRow) (key : ℤ) (acts : List Act) (rows : List DoneRow) → key ≡ done.station → without done rows ≡ rows
    → without done (map (row_of key) acts ++ rows) ≡ map (row_of key) (without_number done.number acts) ++ rows
without_these done key [] rows is stay = stay
without_these done key (x ∷ xs) rows is stay =
    ap (λ b. cond (b && int_eq x.0 done.number) (map (row_of key) xs ++ rows) (row_of key x ∷ without done (map (row_of key) xs ++ rows))) (ap (λ k. int_eq k done.station) is ∙ key_itself done.station)
    ∙ by_test (int_eq x.0 done.number) (without_these done key xs rows is stay)
  where
    by_test : (b : Bool) → without done (map (row_of key) xs ++ rows) ≡ map (row_of key) (without_number done.number xs) ++ rows
        → cond b (map (row_of key) xs ++ rows) (row_of key x ∷ without done (map (row_of key) xs ++ rows)) ≡ map (row_of key) (cond b xs (x ∷ without_number done.number xs)) ++ rows
    by_test true rest = refl
    by_test false rest = ap (λ l. row_of key x ∷ l) rest

-- out of the run of a station that has one
pub out_of_run : (done : DoneRow) (runs : Runs) (acts : List Act) → Stations runs → acts_of done.station runs ≡ Some acts
    → rows_of_runs (set_value (is_at (int_cmp done.station)) runs (without_number done.number acts)) ≡ without done (rows_of_runs runs)
out_of_run done [] acts rise e = cc
out_of_run done (run ∷ runs) acts rise e =
    by_test (is_eq (int_cmp done.station run.0)) refl (out_of_run done runs acts (sorted_tail int_cmp run.0 (keys_of runs) rise)) e
  where
    by_test : (b : Bool) → is_eq (int_cmp done.station run.0) ≡ b
        → (acts_of done.station runs ≡ Some acts → rows_of_runs (set_value (is_at (int_cmp done.station)) runs (without_number done.number acts)) ≡ without done (rows_of_runs runs))
        → cond b (Some run.1) (acts_of done.station runs) ≡ Some acts
        → rows_of_runs (cond b ((run.0, without_number done.number acts) ∷ runs) (run ∷ set_value (is_at (int_cmp done.station)) runs (without_number done.number acts)))
        ≡ without done (map (row_of run.0) run.1 ++ rows_of_runs runs)
    by_test true same rest found =
        ap (λ (l : List Act). map (row_of run.0) (without_number done.number l) ++ rows_of_runs runs) (sym (same_Some run.1 acts found))
        ∙ sym (without_these done run.0 run.1 (rows_of_runs runs) (same_key done.station run.0 same)
        (without_runs done runs (behind_none done.station run.0 (keys_of runs) same (sorted_head int_cmp run.0 (keys_of runs) rise))))
    by_test false other rest found =
        ap (λ l. map (row_of run.0) run.1 ++ l) (rest found)
        ∙ sym (without_others done run.0 run.1 (rows_of_runs runs) (other_key done.station run.0 other))

-- where the station has no run
pub out_of_none : (done : DoneRow) (runs : Runs) → acts_of done.station runs ≡ None → without done (rows_of_runs runs) ≡ rows_of_runs runs
out_of_none done [] e = refl
out_of_none done (run ∷ runs) e = by_test (is_eq (int_cmp done.station run.0)) refl (out_of_none done runs) e
  where
    by_test : (b : Bool) → is_eq (int_cmp done.station run.0) ≡ b → (acts_of done.station runs ≡ None → without done (rows_of_runs runs) ≡ rows_of_runs runs) → cond b (Some run.1) (acts_of done.station runs) ≡ None
        → without done (map (row_of run.0) run.1 ++ rows_of_runs runs) ≡ map (row_of run.0) run.1 ++ rows_of_runs runs
    by_test true same rest none = cc
    by_test false other rest none =
        without_others done run.0 run.1 (rows_of_runs runs) (other_key done.station run.0 other) ∙ ap (λ l. map (row_of run.0) run.1 ++ l) (rest none)

pub out_of_late : (done : DoneRow) (late : Late) → rows_of_late (remove_entry (is_at (stamp_cmp (done.station, done.number))) late) ≡ without done (rows_of_late late)
out_of_late done [] = refl
out_of_late done (e ∷ es) =
    ap (λ b. rows_of_late (cond b es (e ∷ remove_entry (is_at (stamp_cmp (done.station, done.number))) es))) (stamp_is (done.station, done.number) e.0)
    ∙ by_test (int_eq e.0.0 done.station && int_eq e.0.1 done.number) (out_of_late done es)
  where
    by_test : (b : Bool) → rows_of_late (remove_entry (is_at (stamp_cmp (done.station, done.number))) es) ≡ without done (rows_of_late es)
        → rows_of_late (cond b es (e ∷ remove_entry (is_at (stamp_cmp (done.station, done.number))) es))
        ≡ cond b (rows_of_late es) (row_of e.0.0 (e.0.1, e.1) ∷ without done (rows_of_late es))
    by_test true rest = refl
    by_test false rest = ap (λ l. row_of e.0.0 (e.0.1, e.1) ∷ l) rest

-- THE WHOLE

-- a station's run, to which an act is pushed, or there is no memory
pub pushed : {A B : Type 0} (station number : ℤ) (text : List ℕ) (runs new : Runs) (acts written : List Act) (r : Result A B) → acts_of station runs ≡ Some acts
    → new ≡ set_value (is_at (int_cmp station)) runs written → OnOk r (written ≡ acts ++ (number, text) ∷ []) → OnErr r (written ≡ acts)
    → OnOk r (Inserted (row_of station (number, text)) (rows_of_runs runs) (rows_of_runs new)) × OnErr r (rows_of_runs new ≡ rows_of_runs runs)
pushed station number text runs new acts written (Ok a) found is ok err = (
  subst (λ (l : Runs). Inserted (row_of station (number, text)) (rows_of_runs runs) (rows_of_runs l)) (sym (is ∙ ap (set_value (is_at (int_cmp station)) runs) ok))
      (inserted_at_end station runs acts (number, text) found),
  tt,
)
pushed station number text runs new acts written (Err e) found is ok err =
    (tt, ap rows_of_runs (is ∙ (ap (set_value (is_at (int_cmp station)) runs) err ∙ written_same station runs acts found)))

-- an act that goes to the stations' runs, or to the late ones
pub to_runs : {A B : Type 0} (r : Result A B) (row : DoneRow) (runs new : Runs) (late : Late) → OnOk r (Inserted row (rows_of_runs runs) (rows_of_runs new)) → OnOk r (Inserted row (rows_in runs late) (rows_in new late))
to_runs (Ok a) row runs new late i = inserted_before row (rows_of_runs runs) (rows_of_runs new) (rows_of_late late) i
to_runs (Err e) row runs new late i = tt

pub to_late : {A B : Type 0} (r : Result A B) (row : DoneRow) (runs : Runs) (late new : Late) → OnOk r (Inserted row (rows_of_late late) (rows_of_late new)) → OnOk r (Inserted row (rows_in runs late) (rows_in runs new))
to_late (Ok a) row runs late new i = inserted_behind row (rows_of_runs runs) (rows_of_late late) (rows_of_late new) i
to_late (Err e) row runs late new i = tt

pub runs_stay : {A B : Type 0} (r : Result A B) (runs new : Runs) (late : Late) → OnErr r (rows_of_runs new ≡ rows_of_runs runs) → OnErr r (rows_in new late ≡ rows_in runs late)
runs_stay (Ok a) runs new late e = tt
runs_stay (Err f) runs new late e = ap (λ l. l ++ rows_of_late late) e

pub late_stay : {A B : Type 0} (r : Result A B) (runs : Runs) (late new : Late) → OnErr r (rows_of_late new ≡ rows_of_late late) → OnErr r (rows_in runs new ≡ rows_in runs late)
late_stay (Ok a) runs late new e = tt
late_stay (Err f) runs late new e = ap (λ l. rows_of_runs runs ++ l) e

-- the rows with one more
pub rows_after : {A B : Type 0} (r : Result A B) (row : DoneRow) (runs new_runs : Runs) (late new_late : Late) → IsWhole runs late → is_new done_is row (gathered (rows_in runs late)) ≡ true
    → OnOk r (Inserted row (rows_in runs late) (rows_in new_runs new_late)) → OnOk r (gathered (rows_in new_runs new_late) ≡ put done_before row (gathered (rows_in runs late)))
rows_after (Ok a) row runs new_runs late new_late whole new ok = (row_in row (rows_in runs late) (rows_in new_runs new_late) ok whole.apart new).0
rows_after (Err e) row runs new_runs late new_late whole new ok = tt

-- the acts are whole with one more
pub whole_after : {A B : Type 0} (r : Result A B) (row : DoneRow) (runs new_runs : Runs) (late new_late : Late) → IsWhole runs late → Stations new_runs
    → is_new done_is row (gathered (rows_in runs late)) ≡ true → OnOk r (Inserted row (rows_in runs late) (rows_in new_runs new_late)) → OnErr r (rows_in new_runs new_late ≡ rows_in runs late)
    → IsWhole new_runs new_late
whole_after (Ok a) row runs new_runs late new_late whole rise new ok err = record { stations = rise; apart = (row_in row (rows_in runs late) (rows_in new_runs new_late) ok whole.apart new).1 }
whole_after (Err e) row runs new_runs late new_late whole rise new ok err = record { stations = rise; apart = subst AreApart (sym err) whole.apart }

-- a row that no list has is in none of the late acts
pub new_late : (row : DoneRow) (runs : Runs) (late : Late) → is_new done_is row (gathered (rows_in runs late)) ≡ true → is_new done_is row (rows_of_late late) ≡ true
new_late row runs late new = new_behind row (rows_of_runs runs) (rows_of_late late) (sym (new_gathered row (rows_in runs late)) ∙ new)

-- the rows without one
pub taken : (done : DoneRow) (runs new_runs : Runs) (late new_late : Late) → IsWhole runs late → rows_of_runs new_runs ≡ without done (rows_of_runs runs) → rows_of_late new_late ≡ without done (rows_of_late late)
    → rows_in new_runs new_late ≡ without done (rows_in runs late)
taken done runs new_runs late new_late whole of_runs of_late =
    ap (λ l. l ++ rows_of_late new_late) of_runs ∙ (ap (λ l. without done (rows_of_runs runs) ++ l) of_late ∙ sym (without_both done (rows_of_runs runs) (rows_of_late late) whole.apart))
