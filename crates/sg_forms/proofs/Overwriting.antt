-- Words that are written one behind another.
use Rattle.std.proofs.Common.{◌≡◌, ℕ, ◌+◌, ◌-◌, ◌<◌, ◌≤◌, List, [], ◌∷◌, ◌++◌, length, take, drop, get_or, slice_set, refl, sym, ap, ◌∙◌, arith, append_assoc, length-append, length-drop}
use Rattle.std.proofs.Math.Seq.{set-append_seam, take-append_seam, drop-append-add}
use Rattle.std.proofs.lemmas.List.{append-nil, take_all, drop_all, drop-drop, drop_more, length-take-le}
use borrow.Rule.Slice.PartMut.{put_mid, mid_of}
use Rattle.std.specs.List.{join_with_byte}
use Rattle.sg_forms.specs.inside.Writing.{spaced, overwritten, IsWritten}

-- a space behind a word in front
pub space_behind : (word old : List ℕ) → length word < length old
    → slice_set (word ++ drop (length word) old) (length word) 32 ≡ (word ++ 32 ∷ []) ++ drop (length word + 1) old
space_behind word old room =
    ap (λ rest. slice_set (word ++ rest) (length word) 32) (drop_more old (length word) 0 room)
    ∙ set-append_seam word (get_or old (length word) 0) (drop (length word + 1) old) 32
    ∙ sym (append_assoc word (32 ∷ []) (drop (length word + 1) old))

-- a word and a space, written at the front of the bytes from a place on
pub written_from : (at : ℕ) (word old part : List ℕ) → at ≤ length old
    → part ≡ (word ++ 32 ∷ []) ++ drop (length word + 1) (mid_of at (length old - at) old)
    → put_mid at (length old - at) old part ≡ overwritten at (word ++ 32 ∷ []) old
written_from at word old part within is =
    let bytes : List ℕ = word ++ 32 ∷ [] in
    let count : length word + 1 ≡ length bytes = sym (length-append word (32 ∷ [])) in
    let whole : take (length old - at) (drop at old) ≡ drop at old = take_all _ (drop at old) (omega (arith, length-drop at old)) in
    let nothing : drop (length old - at) (drop at old) ≡ [] = drop_all _ (drop at old) (omega (arith, length-drop at old)) in
    let rest : drop (length word + 1) (mid_of at (length old - at) old) ≡ drop (at + length bytes) old =
    ap (λ n. drop n (mid_of at (length old - at) old)) count ∙ ap (drop (length bytes)) whole ∙ drop-drop (length bytes) at old in
    let here : part ≡ bytes ++ drop (at + length bytes) old = is ∙ ap (λ l. bytes ++ l) rest in
    ap (λ l. take at old ++ l) (ap (λ l. part ++ l) nothing ∙ append-nil part ∙ here)

-- written behind what was written
pub written_behind : (at : ℕ) (bytes more old : List ℕ) → at ≤ length old
    → overwritten (at + length bytes) more (overwritten at bytes old) ≡ overwritten at (bytes ++ more) old
written_behind at bytes more old within =
    let front : List ℕ = take at old ++ bytes in
    let rest : List ℕ = drop (at + length bytes) old in
    let count : length front ≡ at + length bytes = length-append (take at old) bytes ∙ ap (λ n. n + length bytes) (length-take-le at old within) in
    let now : overwritten at bytes old ≡ front ++ rest = sym (append_assoc (take at old) bytes rest) in
    let before : take (at + length bytes) (front ++ rest) ≡ front = ap (λ n. take n (front ++ rest)) (sym count) ∙ take-append_seam front rest in
    let places : at + length bytes + length more ≡ at + length (bytes ++ more) = omega (arith, length-append bytes more) in
    let behind : drop (at + length bytes + length more) (front ++ rest) ≡ drop (at + length (bytes ++ more)) old =
    ap (λ n. drop (n + length more) (front ++ rest)) (sym count) ∙ drop-append-add front rest (length more)
    ∙ drop-drop (length more) (at + length bytes) old ∙ ap (λ n. drop n old) places in
    ap (overwritten (at + length bytes) more) now
    ∙ ap (λ l. l ++ (more ++ drop (at + length bytes + length more) (front ++ rest))) before
    ∙ ap (λ l. front ++ (more ++ l)) behind
    ∙ append_assoc (take at old) bytes (more ++ drop (at + length (bytes ++ more)) old)
    ∙ ap (λ l. take at old ++ l) (sym (append_assoc bytes more (drop (at + length (bytes ++ more)) old)))

-- what is written so far, and the words that are left, give all the words
pub record IsOnTheWay (start : ℕ) (words : List (List ℕ)) (old : List ℕ) (at : ℕ) (left : List (List ℕ)) (out : List ℕ) : Type 0 where
  pub count : at + length (spaced left) ≡ start + length (spaced words)
  pub size : length out ≡ length old
  pub written : overwritten at (spaced left) out ≡ overwritten start (spaced words) old

-- one word more is written
pub way_step : (start : ℕ) (words : List (List ℕ)) (old : List ℕ) (at : ℕ) (left : List (List ℕ)) (out : List ℕ) (word : List ℕ) (behind : List (List ℕ)) (end : ℕ) (new : List ℕ)
    → IsOnTheWay start words old at left out → left ≡ word ∷ behind → at ≤ length out
    → end ≡ at + length word + 1 → length new ≡ length out → new ≡ overwritten at (word ++ 32 ∷ []) out
    → IsOnTheWay start words old end behind new
way_step start words old at left out word behind end new way is within ends same written =
    let spelled : spaced left ≡ (word ++ 32 ∷ []) ++ spaced behind = ap spaced is ∙ sym (append_assoc word (32 ∷ []) (spaced behind)) in
    let place : end ≡ at + length (word ++ 32 ∷ []) = omega (arith, ends, length-append word (32 ∷ [])) in
    record {
      count = omega (arith, way.count, ap length spelled, length-append (word ++ 32 ∷ []) (spaced behind), place);
      size = same ∙ way.size;
      written =
          ap (λ n. overwritten n (spaced behind) new) place
          ∙ ap (overwritten (at + length (word ++ 32 ∷ [])) (spaced behind)) written
          ∙ written_behind at (word ++ 32 ∷ []) (spaced behind) out within
          ∙ ap (λ l. overwritten at l out) (sym spelled)
          ∙ way.written;
    }

-- ---- the words of a line

-- words behind words
spaced-append : (front behind : List (List ℕ)) → spaced (front ++ behind) ≡ spaced front ++ spaced behind
spaced-append [] behind = refl
spaced-append (word ∷ front) behind =
    ap (λ l. word ++ 32 ∷ l) (spaced-append front behind) ∙ sym (append_assoc word (32 ∷ spaced front) (spaced behind))

-- words are written behind those that are written
pub words_behind : (front behind : List (List ℕ)) (old middle new : List ℕ) (at end : ℕ) → IsWritten front old middle at
    → end ≡ at + length (spaced behind) → new ≡ overwritten at (spaced behind) middle → IsWritten (front ++ behind) old new end
words_behind front behind old middle new at end written ends is =
    let all = spaced-append front behind in
    let place : at ≡ 0 + length (spaced front) = omega (arith, written.ends) in
    record {
      ends = omega (arith, ends, written.ends, ap length all, length-append (spaced front) (spaced behind));
      bytes =
          is
          ∙ ap (λ n. overwritten n (spaced behind) middle) place
          ∙ ap (overwritten (0 + length (spaced front)) (spaced behind)) written.bytes
          ∙ written_behind 0 (spaced front) (spaced behind) old (omega arith)
          ∙ ap (λ l. overwritten 0 l old) (sym all);
    }

-- words with a space behind each are the words joined by spaces, and one space
spaced_joined : (first : List ℕ) (words : List (List ℕ)) → spaced (first ∷ words) ≡ join_with_byte 32 (first ∷ words) ++ 32 ∷ []
spaced_joined first [] = refl
spaced_joined first (next ∷ words) =
    ap (λ l. first ++ 32 ∷ l) (spaced_joined next words) ∙ sym (append_assoc first (32 ∷ join_with_byte 32 (next ∷ words)) (32 ∷ []))

-- the same of words of which there is one
pub spaced_some : (words : List (List ℕ)) → 0 < length words → spaced words ≡ join_with_byte 32 words ++ 32 ∷ []
spaced_some [] some = absurd (omega arith)
spaced_some (first ∷ words) some = spaced_joined first words
