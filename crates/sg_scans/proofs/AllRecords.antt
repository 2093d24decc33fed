-- The rows that a reader gave are all records of the text.
use Rattle.std.proofs.Common.{◌≡◌, ℕ, zero, suc, ◌+◌, ◌≤◌, ◌<◌, Bool, true, false, if◌then◌else◌, List, [], ◌∷◌, ◌++◌, length, Some, None, refl, ap, sym, ◌∙◌, arith}
use Rattle.csv.specs.Machine.{Read, ends_at_end, field_after, fields_after, is_end, next_record, step}
use Rattle.csv.specs.Reading.{default_config, Reached, records, records_from}
use Rattle.sg_scans.specs.FileRecords.{StartsWith}
use Rattle.std.proofs.lemmas.List.{append_assoc, length-append}
use Rattle.csv.specs.declared.parser.Config.{Config}
use Rattle.csv.specs.declared.parser.State.{State}
use Rattle.csv.specs.declared.parser.State.TheVariants as st

-- how many bytes are behind the first
abbrev behind : List ℕ → ℕ
behind [] = 0
behind (c ∷ rest) = length rest

behind_le : (xs : List ℕ) → behind xs ≤ length xs
behind_le [] = zero_le
  where
    zero_le : behind [] ≤ 0
    zero_le = let e : behind [] ≡ 0 = refl in rw e (omega arith)
behind_le (c ∷ rest) = let e : behind (c ∷ rest) ≡ length rest = refl in rw e (omega arith)

-- the end of the text leaves nothing
record AtEnd (p : Read) : Type 0 where
  state : p.1 ≡ st.StartRecord
  rest : p.2 ≡ []

at_end : (cfg : Config) (s : State) (f : List (List ℕ)) (field : List ℕ) (p : Read) → next_record cfg s f field [] ≡ Some p → AtEnd p
unfolding next_record
at_end cfg s f field p e = by_end (ends_at_end s) e
  where
    by_end : (b : Bool) → (if b then Some (f ++ (field ∷ []), st.StartRecord, []) else None) ≡ Some p → AtEnd p
    by_end true h =
        let same : (f ++ (field ∷ []), st.StartRecord, []) ≡ p = cc h in
        record { state = sym (ap (λ (q : Read). q.1) same); rest = sym (ap (λ (q : Read). q.2) same) }
    by_end false h = cc h

-- a record takes a byte, where there is one
used : (cfg : Config) (s : State) (f : List (List ℕ)) (field xs : List ℕ) (p : Read) → next_record cfg s f field xs ≡ Some p → length p.2 ≤ behind xs
unfolding next_record
used cfg s f field [] p e = let r : p.2 ≡ [] = (at_end cfg s f field p e).rest in rw r (omega arith)
used cfg s f field (c ∷ rest) p e = by_act (is_end (step cfg s c).1) e (used cfg (step cfg s c).0 (fields_after (step cfg s c).1 f field) (field_after (step cfg s c).1 c field) rest p)
  where
    by_act : (b : Bool) → (if b then Some (fields_after (step cfg s c).1 f field, (step cfg s c).0, rest)
        else next_record cfg (step cfg s c).0 (fields_after (step cfg s c).1 f field) (field_after (step cfg s c).1 c field) rest) ≡ Some p
        → (next_record cfg (step cfg s c).0 (fields_after (step cfg s c).1 f field) (field_after (step cfg s c).1 c field) rest ≡ Some p → length p.2 ≤ behind rest)
        → length p.2 ≤ length rest
    by_act true h ih =
        let same : (fields_after (step cfg s c).1 f field, (step cfg s c).0, rest) ≡ p = cc h in
        let r : rest ≡ p.2 = ap (λ (q : Read). q.2) same in
        let len : length p.2 ≡ length rest = ap (λ (z : List ℕ). length z) (sym r) in
        omega (len, arith)
    by_act false h ih =
        let less : length p.2 ≤ behind rest = ih h in
        let more : behind rest ≤ length rest = behind_le rest in
        omega (less, more, arith)

-- at the end of the text
nothing : (cfg : Config) (n : ℕ) → records_from cfg n st.StartRecord [] ≡ []
unfolding records_from next_record
nothing cfg zero = refl
nothing cfg (suc n) = refl

none_after : (cfg : Config) (rows : List (List (List ℕ))) (s2 : State) (ys : List ℕ) → Reached cfg st.StartRecord [] rows s2 ys → rows ≡ []
unfolding Reached next_record
none_after cfg [] s2 ys r = refl
none_after cfg (row ∷ rows) s2 ys r = cc (r.1)

-- these rows are all of them
pub are_records : (cfg : Config) (rows : List (List (List ℕ))) (s : State) (xs : List ℕ) (s2 : State) (ys : List ℕ) (n : ℕ)
    → Reached cfg s xs rows s2 ys → next_record cfg s2 [] [] ys ≡ None → length xs + 1 ≤ n → records_from cfg n s xs ≡ rows
unfolding Reached records_from
are_records cfg rows s xs s2 ys zero r stop fuel = absurd (omega (fuel, arith))
are_records cfg [] s xs s2 ys (suc n) r stop fuel =
    let none : next_record cfg s [] [] xs ≡ None = rw (r.0, r.1) stop in
    rw none refl
are_records cfg (row ∷ rows) s xs s2 ys (suc n) r stop fuel =
    rw r.1 (rw (sym r.2) (ap (λ (more : List (List (List ℕ))). row ∷ more) (by_rest xs fuel r.1 (are_records cfg rows (r.0).1 (r.0).2 s2 ys n r.3 stop))))
  where
    by_rest : (zs : List ℕ) → length zs + 1 ≤ suc n → next_record cfg s [] [] zs ≡ Some r.0
        → (length (r.0).2 + 1 ≤ n → records_from cfg n (r.0).1 (r.0).2 ≡ rows) → records_from cfg n (r.0).1 (r.0).2 ≡ rows
    by_rest [] f e ih =
        let end = at_end cfg s [] [] r.0 e in
        let rest : Reached cfg st.StartRecord [] rows s2 ys = rw (end.state, end.rest) at r.3 in
        let none : rows ≡ [] = none_after cfg rows s2 ys rest in
        rw (end.state, end.rest, none) (nothing cfg n)
    by_rest (c ∷ zs) f e ih =
        let less : length (r.0).2 ≤ length zs = used cfg s [] [] (c ∷ zs) r.0 e in
        ih (omega (less, f, arith))

pub all_records : (xs : List ℕ) (rows : List (List (List ℕ))) (s2 : State) (ys : List ℕ)
    → Reached default_config st.StartRecord xs rows s2 ys → next_record default_config s2 [] [] ys ≡ None → rows ≡ records default_config xs
all_records xs rows s2 ys r stop = sym (are_records default_config rows st.StartRecord xs s2 ys (length xs + 1) r stop (omega arith))

-- these rows come first
record Front (rows all : List (List (List ℕ))) : Type 0 where
  more : List (List (List ℕ))
  is : all ≡ rows ++ more

are_front : (cfg : Config) (rows : List (List (List ℕ))) (s : State) (xs : List ℕ) (s2 : State) (ys : List ℕ) (n : ℕ)
    → Reached cfg s xs rows s2 ys → length xs + 1 ≤ n → Front rows (records_from cfg n s xs)
unfolding Reached records_from
are_front cfg rows s xs s2 ys zero r fuel = absurd (omega (fuel, arith))
are_front cfg [] s xs s2 ys (suc n) r fuel = record { more = records_from cfg (suc n) s xs; is = refl }
are_front cfg (row ∷ rows) s xs s2 ys (suc n) r fuel =
    let tail = by_rest xs fuel r.1 (are_front cfg rows (r.0).1 (r.0).2 s2 ys n r.3) in
    rw r.1 (rw (sym r.2) (record { more = tail.more; is = ap (λ (more : List (List (List ℕ))). row ∷ more) tail.is }))
  where
    by_rest : (zs : List ℕ) → length zs + 1 ≤ suc n → next_record cfg s [] [] zs ≡ Some r.0
        → (length (r.0).2 + 1 ≤ n → Front rows (records_from cfg n (r.0).1 (r.0).2)) → Front rows (records_from cfg n (r.0).1 (r.0).2)
    by_rest [] f e ih =
        let end = at_end cfg s [] [] r.0 e in
        let rest : Reached cfg st.StartRecord [] rows s2 ys = rw (end.state, end.rest) at r.3 in
        let none : rows ≡ [] = none_after cfg rows s2 ys rest in
        rw (end.state, end.rest, none) (record { more = []; is = nothing cfg n })
    by_rest (c ∷ zs) f e ih =
        let less : length (r.0).2 ≤ length zs = used cfg s [] [] (c ∷ zs) r.0 e in
        ih (omega (less, f, arith))

pub starts_with : (xs : List ℕ) (rows : List (List (List ℕ))) (row : List (List ℕ)) (s2 : State) (ys : List ℕ)
    → Reached default_config st.StartRecord xs (rows ++ row ∷ []) s2 ys → StartsWith rows (records default_config xs)
starts_with xs rows row s2 ys r =
    let front = are_front default_config (rows ++ row ∷ []) st.StartRecord xs s2 ys (length xs + 1) r (omega arith) in
    (row, front.more, front.is ∙ append_assoc rows (row ∷ []) front.more)

pub one_more : {A : Type 0} (rows items : List A) (x : A) (limit : ℕ) → items ≡ rows ++ x ∷ [] → length rows < limit → length items ≤ limit
one_more rows items x limit e less =
    let len : length items ≡ length rows + 1 = ap (λ (l : List _). length l) e ∙ length-append rows (x ∷ []) in
    omega (len, less, arith)
