-- The pass over done rows.
use Rattle.std.proofs.Common.{◌≡◌, ℕ, ◌+◌, ◌<◌, ◌≤◌, ◌==◌, nat_lt, nat_le, Bool, true, false, ◌&&◌, cond, List, [], ◌∷◌, ◌++◌, length, take, drop, bytes_eq, Option, Some, None, refl, ap, sym, ◌∙◌, arith}
use Rattle.std.specs.Prelude.{String}
use Rattle.std.specs.List.{list_all}
use Rattle.std.specs.Str.{is_utf8}
use Rattle.std.specs.BTreeMap.{BTreeMap}
use Rattle.std.proofs.lemmas.Grind.{common_steps}
use Rattle.std.proofs.lemmas.Bool.Decides.{nat_tests}
use Rattle.std.proofs.lemmas.List.{length-append}
use Rattle.std.proofs.lemmas.Slice.Eq.{bytes_eq-Decides}
use Rattle.std.proofs.lemmas.Option.{same_Some}
use Rattle.sg_lists.proofs.Counting.{count_by-append}
use Rattle.sg_plan.specs.Limits.{first_bad}
use Rattle.sg_keeper.specs.Rows.{done_before}
use Rattle.sg_keeper.specs.declared.rows.DoneRow.{DoneRow}
use Rattle.sg_histories.specs.ValidRows.{all_done, climbs, count_done, count_told, done_fault, done_keeps, is_stamp, or_missing}
use Rattle.sg_open.specs.inside.Counts.{all_used, left_of}
use Rattle.sg_open.specs.inside.Passing.{Passes}

-- a text that is none is not told
pub not_told : (told : List (List ℕ)) (text : List ℕ) → list_all is_utf8 told ≡ true → is_utf8 text ≡ false → count_told text told ≡ 0
not_told [] text all none = refl
not_told (t ∷ told) text all none = by_tests (bytes_eq t text) (is_utf8 t) refl refl all (λ rest. not_told told text rest none)
  where
    same_text : bytes_eq t text ≡ true → is_utf8 t ≡ false
    same_text e = let is : t ≡ text = (bytes_eq-Decides t text).0 e in ap (λ (w : List ℕ). is_utf8 w) is ∙ none

    by_tests : (b u : Bool) → bytes_eq t text ≡ b → is_utf8 t ≡ u → (u && list_all is_utf8 told) ≡ true → (list_all is_utf8 told ≡ true → count_told text told ≡ 0) → count_told text (t ∷ told) ≡ 0
    by_tests true true e k all later = let clash : true ≡ false = sym k ∙ same_text e in cc
    by_tests true false e k all later = cc
    by_tests false true e k all later = let rest = later all in grind (arith, common_steps, e, rest)
    by_tests false false e k all later = cc

pub passes_start : {A : Type 0} (stations : ℕ) (told : List (List ℕ)) (counts : BTreeMap (String A) ℕ) (rows : List DoneRow)
    → ((text : List ℕ) → left_of counts text ≡ count_told text told) → Passes stations told counts rows 0
passes_start stations told counts rows h = record { left = λ text. (let k = h text in grind (arith, common_steps, k)); bad = grind (arith, common_steps) }

-- what is left is what is told and not yet done
left_is : {A : Type 0} (stations : ℕ) (told : List (List ℕ)) (counts : BTreeMap (String A) ℕ) (rows : List DoneRow) (at : ℕ) (text : List ℕ)
    → Passes stations told counts rows at → nat_lt 0 (left_of counts text) ≡ nat_lt (count_done text (take at rows)) (count_told text told)
left_is stations told counts rows at text passes = let k = passes.left text in grind (arith, nat_tests, k)

pub may_not : {A : Type 0} (stations : ℕ) (told : List (List ℕ)) (counts : BTreeMap (String A) ℕ) (rows : List DoneRow) (at : ℕ) (text : List ℕ)
    → Passes stations told counts rows at → list_all is_utf8 told ≡ true → is_utf8 text ≡ false → left_of counts text ≡ 0
may_not stations told counts rows at text passes all none =
    let k = passes.left text in
    let z = not_told told text all none in
    omega (arith, k, z)

-- a good row, and then on
pub passes_on : {A : Type 0} (stations : ℕ) (told : List (List ℕ)) (counts after : BTreeMap (String A) ℕ) (rows : List DoneRow) (at : ℕ) (row : DoneRow)
    → Passes stations told counts rows at
    → take (at + 1) rows ≡ take at rows ++ row ∷ [] → drop at rows ≡ row ∷ drop (at + 1) rows
    → climbs done_before (take at rows) row ≡ true → is_stamp stations row ≡ true → nat_lt 0 (left_of counts row.act) ≡ true
    → ((text : List ℕ) → left_of counts text ≡ left_of after text + cond (bytes_eq row.act text) 1 0)
    → Passes stations told after rows (at + 1)
passes_on stations told counts after rows at row passes front rest up stamp some used = record {
  left = λ text. (
      let k = passes.left text in
      let u = used text in
      let c : count_done text (take at rows ++ row ∷ []) ≡ count_done text (take at rows) + cond (bytes_eq row.act text) 1 0
      = count_by-append (λ (r : DoneRow). bytes_eq r.act text) (take at rows) (row ∷ []) ∙ grind (arith, common_steps) in
      rw front (omega (arith, k, u, c)));
  bad =
      let few : nat_lt (count_done row.act (take at rows)) (count_told row.act told) ≡ true = sym (left_is stations told counts rows at row.act passes) ∙ some in
      let keeps : done_keeps stations told (take at rows) row ≡ true = rw (up, stamp, few) refl in
      let step : first_bad (done_keeps stations told) (take at rows) (row ∷ drop (at + 1) rows) ≡ first_bad (done_keeps stations told) (take at rows ++ row ∷ []) (drop (at + 1) rows)
      = ap (λ b. cond b (first_bad (done_keeps stations told) (take at rows ++ row ∷ []) (drop (at + 1) rows)) (Some (length (take at rows)))) keeps in
      rw front (sym step ∙ (sym (ap (first_bad (done_keeps stations told) (take at rows)) rest) ∙ passes.bad));
}

-- a bad row
pub found_bad : {A : Type 0} (stations : ℕ) (told : List (List ℕ)) (counts : BTreeMap (String A) ℕ) (rows : List DoneRow) (at : ℕ) (row : DoneRow)
    → Passes stations told counts rows at → at < length rows
    → drop at rows ≡ row ∷ drop (at + 1) rows
    → ((climbs done_before (take at rows) row && is_stamp stations row) && nat_lt 0 (left_of counts row.act)) ≡ false
    → done_fault stations told rows ≡ Some at
found_bad stations told counts rows at row passes within rest fails =
    let keeps : done_keeps stations told (take at rows) row ≡ false = ap (λ b. (climbs done_before (take at rows) row && is_stamp stations row) && b) (sym (left_is stations told counts rows at row.act passes)) ∙ fails in
    let step : first_bad (done_keeps stations told) (take at rows) (row ∷ drop (at + 1) rows) ≡ Some (length (take at rows))
    = ap (λ b. cond b (first_bad (done_keeps stations told) (take at rows ++ row ∷ []) (drop (at + 1) rows)) (Some (length (take at rows)))) keeps in
    let many : length (take at rows) ≡ at = grind (arith, common_steps) in
    let found : first_bad (done_keeps stations told) [] rows ≡ Some at = sym passes.bad ∙ (ap (first_bad (done_keeps stations told) (take at rows)) rest ∙ (step ∙ ap (λ n. Some n) many)) in
    ap (or_missing (all_done told rows) (length rows)) found

-- no bad row
all_same : {A : Type 0} (stations : ℕ) (told some : List (List ℕ)) (counts : BTreeMap (String A) ℕ) (rows : List DoneRow)
    → ((text : List ℕ) → left_of counts text + count_done text rows ≡ count_told text told)
    → all_used counts some ≡ list_all (λ text. nat_le (count_told text told) (count_done text rows)) some
all_same stations told [] counts rows left = refl
all_same stations told (t ∷ some) counts rows left =
    let k = left t in
    let here : (left_of counts t == 0) ≡ nat_le (count_told t told) (count_done t rows) = grind (arith, nat_tests, k) in
    let rest = all_same stations told some counts rows left in
    rw (here, rest) refl

ends : {A : Type 0} (stations : ℕ) (told : List (List ℕ)) (counts : BTreeMap (String A) ℕ) (rows : List DoneRow) (at : ℕ)
    → Passes stations told counts rows at → length rows ≤ at
    → done_fault stations told rows ≡ cond (all_used counts told) None (Some (length rows))
ends stations told counts rows at passes past =
    let whole : take at rows ≡ rows = grind (arith, common_steps, past) in
    let none : drop at rows ≡ [] = grind (arith, common_steps, past) in
    let good : first_bad (done_keeps stations told) [] rows ≡ None = sym passes.bad ∙ ap (first_bad (done_keeps stations told) (take at rows)) none in
    let left : (text : List ℕ) → left_of counts text + count_done text rows ≡ count_told text told = λ text. ap (λ l. left_of counts text + count_done text l) (sym whole) ∙ passes.left text in
    ap (or_missing (all_done told rows) (length rows)) good ∙ ap (λ b. cond b None (Some (length rows))) (sym (all_same stations told told counts rows left))

pub found_none : {A : Type 0} (stations : ℕ) (told : List (List ℕ)) (counts : BTreeMap (String A) ℕ) (rows : List DoneRow) (at : ℕ)
    → Passes stations told counts rows at → length rows ≤ at → all_used counts told ≡ true
    → None ≡ done_fault stations told rows
found_none stations told counts rows at passes past used = sym (ends stations told counts rows at passes past ∙ ap (λ b. cond b None (Some (length rows))) used)

pub found_missing : {A : Type 0} (stations : ℕ) (told : List (List ℕ)) (counts : BTreeMap (String A) ℕ) (rows : List DoneRow) (at : ℕ)
    → Passes stations told counts rows at → length rows ≤ at → all_used counts told ≡ false
    → Some (length rows) ≡ done_fault stations told rows
found_missing stations told counts rows at passes past left = sym (ends stations told counts rows at passes past ∙ ap (λ b. cond b None (Some (length rows))) left)

-- the place of a bad row is that of a row
bad_within : {A : Type 0} (keeps : List A → A → Bool) (earlier rows : List A) (at : ℕ) → first_bad keeps earlier rows ≡ Some at → at < length earlier + length rows
bad_within keeps earlier [] at e = cc
bad_within {A} keeps earlier (row ∷ rows) at e = by_test (keeps earlier row) e (bad_within keeps (earlier ++ row ∷ []) rows at)
  where
    longer : length (earlier ++ row ∷ []) ≡ length earlier + 1
    longer = length-append earlier (row ∷ [])

    by_test : (good : Bool) → cond good (first_bad keeps (earlier ++ row ∷ []) rows) (Some (length earlier)) ≡ Some at
        → (first_bad keeps (earlier ++ row ∷ []) rows ≡ Some at → at < length (earlier ++ row ∷ []) + length rows) → at < length earlier + length (row ∷ rows)
    by_test true k later = let h = later k in omega (arith, h, longer)
    by_test false k later = let h = same_Some (length earlier) at k in omega (arith, h)

-- a fault is at a row, or one past the last
pub fault_within : (stations : ℕ) (told : List (List ℕ)) (rows : List DoneRow) (at : ℕ) → done_fault stations told rows ≡ Some at → at ≤ length rows
fault_within stations told rows at e = by_bad (first_bad (done_keeps stations told) [] rows) refl e
  where
    by_all : (all : Bool) → or_missing all (length rows) None ≡ Some at → at ≤ length rows
    by_all true k = cc
    by_all false k = let h = same_Some (length rows) at k in omega (arith, h)

    by_bad : (bad : Option ℕ) → first_bad (done_keeps stations told) [] rows ≡ bad → or_missing (all_done told rows) (length rows) bad ≡ Some at → at ≤ length rows
    by_bad None f k = by_all (all_done told rows) k
    by_bad (Some n) f k =
        let h = bad_within (done_keeps stations told) [] rows n f in
        let s = same_Some n at k in
        omega (arith, h, s)

pub ruleset passing = (passes_start, may_not, passes_on, found_bad)
