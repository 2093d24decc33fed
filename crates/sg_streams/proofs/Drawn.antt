-- The codes of a row are different, and codes of the version.
use Rattle.std.proofs.Common.{inl, inr, ◌≡◌, ◌≢◌, AllPairs, slice_get, Some, add-zero, ℕ, zero, suc, ◌+◌, ◌-◌, ◌*◌, ◌/◌, ◌^◌, ◌<◌, ◌≤◌, ◌⊎◌, List, [], ◌∷◌, ◌++◌, false, cond, eqb, ltb, length, get_or, set, take, replicate, All, add-one, append_assoc, arith, refl, sym, ap, ◌∙◌}
use Rattle.std.specs.List.{list_any}
use Rattle.std.proofs.lemmas.Bool.{cases_eq, ne_eqb, eq-eqb}
use Rattle.std.proofs.lemmas.Bool.Decides.{nat_tests}
use Rattle.std.proofs.lemmas.Nat.{div_below, mul-le}
use Rattle.std.proofs.lemmas.List.{take_at, take_all, take-append-le, set_at, length_push, get_or-take, get_or_at}
use Rattle.std.proofs.lemmas.List.Kept.{AllPairs-cons}
use Rattle.std.proofs.lemmas.Option.{slice_get-get_or}
use Rattle.std.proofs.lemmas.List.Elements.{All-nil, All-push}
use Rattle.std.proofs.lemmas.List.Sums.{sum_by_push, sum_by-cons, get_or-le-sum_by, count_by-le-length}
use Rattle.sg_plan.specs.Codes.{codes_of}
use Rattle.sg_streams.specs.Streams.{word_of}
use Rattle.sg_streams.specs.RowCodes.{unused_codes, row_codes, draw_of, AreDrawn}
use Rattle.sg_streams.specs.Laws.{RowsAreCodes}
use Rattle.sg_streams.proofs.Counts.{count_below, count_at, IsOnce, count_at-none}
use Rattle.sg_streams.proofs.WordFacts.{word_of-below}
use Rattle.sg_streams.proofs.Unused.{unused_codes-at, unused_codes-sound, length-unused_codes}

-- each version has more codes than a row can
pub codes_of-many : (version : ℕ) → (version ≡ 1) ⊎ (version ≡ 2) → 16 < codes_of version
codes_of-many version known = elim known [ inl first ↦ rw first (omega arith) | inr second ↦ rw second (omega arith) ]

-- a word draws one of those that are left
pub draw_of-below : (version word used : ℕ) → word < 2 ^ 32 → used < codes_of version → draw_of version word used + used < codes_of version
draw_of-below version word used small some =
    let left = codes_of version - used in
    let product = mul-le word left (2 ^ 32 - 1) left (omega arith) (omega arith) in
    let low : word * left / 2 ^ 32 < left = div_below (word * left) (2 ^ 32) left (omega arith) (omega (arith, product)) in
    omega (arith, low)

-- so many codes, different, and below the number of codes of the version
pub record AreRowCodes (version k : ℕ) (codes : List ℕ) : Type 0 where
  pub many : length codes ≡ k
  pub once : IsOnce codes
  pub below : All (λ code. code < codes_of version) codes

-- one more that is not among them
IsOnce-push : (used : List ℕ) (code : ℕ) → IsOnce used → list_any (λ u. eqb u code) used ≡ false → IsOnce (used ++ code ∷ [])
IsOnce-push used code once free x =
    let more = sum_by_push (λ u. cond (eqb u x) 1 0) used code in
    elim (cases_eq code x) [
      | inl same ↦
          let none : count_at x used ≡ 0 = ap (λ n. count_at n used) (sym same) ∙ count_at-none code used free in
          grind (arith, more, none, nat_tests)
      | inr other ↦
          let none : eqb code x ≡ false = ne_eqb code x other in
          let here : ◌≡◌ {A = ℕ} (cond (eqb code x) 1 0) 0 = rw none refl in
          omega (arith, more, here, once x)
    ]

pub row_codes-none : (version : ℕ) (seed : List ℕ) (stream : ℕ) → row_codes version seed stream 0 ≡ []
unfolding row_codes
row_codes-none version seed stream = refl

pub row_codes-next : (version : ℕ) (seed : List ℕ) (stream k : ℕ) → row_codes version seed stream (k + 1)
    ≡ row_codes version seed stream k ++ get_or (unused_codes version (row_codes version seed stream k)) (draw_of version (word_of seed stream k) k) 0 ∷ []
unfolding row_codes
row_codes-next version seed stream k = ap (λ n. row_codes version seed stream n) (add-one k)

pub row_codes-are : (version : ℕ) (seed : List ℕ) (stream k : ℕ) → k ≤ codes_of version → AreRowCodes version k (row_codes version seed stream k)
unfolding row_codes
row_codes-are version seed stream zero h = record { many = refl; once = λ x. omega arith; below = All-nil (λ code. code < codes_of version) }
row_codes-are version seed stream (suc k) h =
    let used = row_codes version seed stream k in
    let draw = draw_of version (word_of seed stream k) k in
    let so_far : AreRowCodes version k used = row_codes-are version seed stream k (omega arith) in
    let low = draw_of-below version (word_of seed stream k) k (word_of-below seed stream k) (omega arith) in
    let sound = unused_codes-sound version draw used so_far.once (omega (arith, low, so_far.many)) in
    record {
      many = omega (arith, length_push used (get_or (unused_codes version used) draw 0), so_far.many);
      once = IsOnce-push used _ so_far.once sound.0;
      below = All-push (λ code. code < codes_of version) used _ so_far.below sound.1;
    }

-- the code that the loop puts into the row is the next one
pub row_codes-set : (version : ℕ) (seed : List ℕ) (stream k code : ℕ) (row : List ℕ) → k < 16 → k < codes_of version
    → row ≡ row_codes version seed stream k ++ replicate (16 - k) 0
    → list_any (λ u. eqb u code) (take k row) ≡ false
    → code ≡ draw_of version (word_of seed stream k) k + count_below code (take k row)
    → set row k code ≡ row_codes version seed stream (k + 1) ++ replicate (16 - (k + 1)) 0
row_codes-set version seed stream k code row few some is free place =
    let used = row_codes version seed stream k in
    let draw = draw_of version (word_of seed stream k) k in
    let so_far = row_codes-are version seed stream k (omega arith) in
    let front : take k row ≡ used = ap (take k) is ∙ take_at used (replicate (16 - k) 0) k so_far.many in
    let free' : list_any (λ u. eqb u code) used ≡ false = ap (list_any (λ u. eqb u code)) (sym front) ∙ free in
    let place' : code ≡ draw + count_below code used = place ∙ ap (λ l. draw + count_below code l) front in
    let low = draw_of-below version (word_of seed stream k) k (word_of-below seed stream k) some in
    let below : code < codes_of version = omega (arith, low, so_far.many, place', count_by-le-length (λ u. ltb u code) used) in
    let drawn = unused_codes-at version draw code used so_far.once free' place' below in
    let one_less : 16 - k ≡ suc (16 - (k + 1)) = omega arith in
    let zeros : replicate (16 - k) 0 ≡ 0 ∷ replicate (16 - (k + 1)) 0 = ap (λ n. replicate n 0) one_less in
    let split : row ≡ used ++ (0 ∷ replicate (16 - (k + 1)) 0) = is ∙ ap (λ l. used ++ l) zeros in
    ap (λ l. set l k code) split
    ∙ set_at used 0 (replicate (16 - (k + 1)) 0) code k so_far.many
    ∙ sym (append_assoc used (code ∷ []) (replicate (16 - (k + 1)) 0))
    ∙ ap (λ l. l ++ replicate (16 - (k + 1)) 0) (ap (λ n. used ++ n ∷ []) (sym drawn) ∙ sym (row_codes-next version seed stream k))

-- in a list that has no number twice, no two places have the same
AllPairs-from_IsOnce : (xs : List ℕ) → IsOnce xs → AllPairs (λ a b. a ≢ b) xs
AllPairs-from_IsOnce [] once = λ i j d less inside. absurd (omega arith)
AllPairs-from_IsOnce (x ∷ xs) once = AllPairs-cons (λ a b. a ≢ b) x xs others (AllPairs-from_IsOnce xs rest)
  where
    rest : IsOnce xs
    rest y = omega (arith, once y, sum_by-cons (λ u. cond (eqb u y) 1 0) x xs)

    others : All (λ b. x ≢ b) xs
    others k d inside same =
        let counted = get_or-le-sum_by (λ u. cond (eqb u x) 1 0) xs k d inside in
        let here : ◌≡◌ {A = ℕ} (cond (eqb (get_or xs k d) x) 1 0) 1 = rw (eq-eqb (get_or xs k d) x (sym same)) refl in
        let first : ◌≡◌ {A = ℕ} (cond (eqb x x) 1 0) 1 = rw (eq-eqb x x refl) refl in
        omega (arith, once x, sum_by-cons (λ u. cond (eqb u x) 1 0) x xs, counted, here, first)

-- the first codes of a longer row are those of a shorter one
pub take-row_codes : (version : ℕ) (seed : List ℕ) (stream j more : ℕ) → j + more ≤ codes_of version
    → take j (row_codes version seed stream (j + more)) ≡ row_codes version seed stream j
take-row_codes version seed stream j zero few =
    rw add-zero (take_all j (row_codes version seed stream j) (omega (arith, (row_codes-are version seed stream j (omega arith)).many)))
take-row_codes version seed stream j (suc more) few =
    let longer : j + suc more ≡ j + more + 1 = omega arith in
    let many = (row_codes-are version seed stream (j + more) (omega arith)).many in
    ap (λ n. take j (row_codes version seed stream n)) longer
    ∙ ap (take j) (row_codes-next version seed stream (j + more))
    ∙ take-append-le j (row_codes version seed stream (j + more)) _ (omega (arith, many))
    ∙ take-row_codes version seed stream j more (omega arith)

-- each code is drawn among those that are not used before it
row_codes-drawn : (version : ℕ) (seed : List ℕ) (stream k : ℕ) → k ≤ codes_of version → AreDrawn version seed stream (row_codes version seed stream k)
row_codes-drawn version seed stream k few t less =
    let row = row_codes version seed stream k in
    let used = row_codes version seed stream t in
    let draw = draw_of version (word_of seed stream t) t in
    let inside : t < k = omega (arith, less, (row_codes-are version seed stream k few).many) in
    let so_far = row_codes-are version seed stream t (omega arith) in
    let low = draw_of-below version (word_of seed stream t) t (word_of-below seed stream t) (omega arith) in
    let long = length-unused_codes version draw used so_far.once (omega (arith, low, so_far.many)) in
    let whole : t + (k - t) ≡ k = omega arith in
    let next : t + 1 + (k - (t + 1)) ≡ k = omega arith in
    let front : take t row ≡ used = rw whole at (take-row_codes version seed stream t (k - t) (omega arith)) in
    let front_next : take (t + 1) row ≡ row_codes version seed stream (t + 1) = rw next at (take-row_codes version seed stream (t + 1) (k - (t + 1)) (omega arith)) in
    let code : get_or row t 0 ≡ get_or (unused_codes version used) draw 0 =
    sym (get_or-take (t + 1) row t 0 (omega arith))
    ∙ ap (λ l. get_or l t 0) (front_next ∙ row_codes-next version seed stream t)
    ∙ get_or_at used _ [] 0 t so_far.many in
    slice_get-get_or row t 0 less
    ∙ ap (λ n. Some n) code
    ∙ sym (slice_get-get_or (unused_codes version used) draw 0 long)
    ∙ ap (λ l. slice_get (unused_codes version l) draw) (sym front)

-- the codes of a row are what its rule says
pub row_codes_law : RowsAreCodes
row_codes_law version seed stream k few =
    let are = row_codes-are version seed stream k few in
    (record { many = are.many; different = AllPairs-from_IsOnce _ are.once; below = are.below }, row_codes-drawn version seed stream k few)
