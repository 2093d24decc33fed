-- A short order, made in an array.
use Rattle.std.proofs.Common.{◌≡◌, ℕ, suc, ◌+◌, ◌-◌, ◌<◌, ◌≤◌, List, [], ◌∷◌, ◌++◌, length, get_or, set, map, replicate, take, sym, ap, ◌∙◌, append_assoc, arith}
use Rattle.std.proofs.lemmas.List.{length-map, length-take-le, map-append, set-append_right, take_more, take_more_set}
use Rattle.sg_streams.specs.Numbers.{numbers_below}
use Rattle.sg_streams.specs.Order.{keyed, sort_key}
use Rattle.sg_streams.proofs.NumberLists.{numbers_below-push}

-- the pair of the next number is written
pub pairs-more : (seed : List ℕ) (stream at key : ℕ) (pairs : List (ℕ × ℕ)) → at < length pairs → key ≡ sort_key seed stream at
    → take at pairs ≡ map (keyed seed stream) (numbers_below at) → take (at + 1) (set pairs at (key, at)) ≡ map (keyed seed stream) (numbers_below (at + 1))
pairs-more seed stream at key pairs room is so_far =
    take_more_set pairs at (key, at) room
    ∙ ap (λ l. l ++ (key, at) ∷ []) so_far
    ∙ ap (λ k. map (keyed seed stream) (numbers_below at) ++ (k, at) ∷ []) is
    ∙ sym (ap (map (keyed seed stream)) (numbers_below-push at) ∙ map-append (keyed seed stream) (numbers_below at) (at ∷ []))

-- the number of the next pair is written
pub numbers-more : (pairs : List (ℕ × ℕ)) (numbers : List ℕ) (at : ℕ) → at < length pairs → length pairs ≤ 16
    → numbers ≡ map (λ (p : ℕ × ℕ). p.1) (take at pairs) ++ replicate (16 - at) 0
    → set numbers at (get_or pairs at (0, 0)).1 ≡ map (λ (p : ℕ × ℕ). p.1) (take (at + 1) pairs) ++ replicate (16 - (at + 1)) 0
numbers-more pairs numbers at within few so_far =
    let number : ℕ × ℕ → ℕ = λ p. p.1 in
    let front = map number (take at pairs) in
    let next = (get_or pairs at (0, 0)).1 in
    let left : ℕ = 16 - (at + 1) in
    let long : length front ≡ at = length-map (take at pairs) number ∙ length-take-le at pairs (omega arith) in
    let room : 16 - at ≡ suc left = omega arith in
    let none : at - at ≡ 0 = omega arith in
    ap (λ l. set l at next) so_far
    ∙ set-append_right front (replicate (16 - at) 0) at at next long (omega arith)
    ∙ ap (λ n. front ++ set (replicate n 0) (at - at) next) room
    ∙ ap (λ n. front ++ set (replicate (suc left) 0) n next) none
    ∙ sym (append_assoc front (next ∷ []) (replicate left 0))
    ∙ ap (λ l. l ++ replicate left 0) (sym (ap (map number) (take_more pairs at (0, 0) within) ∙ map-append number (take at pairs) (get_or pairs at (0, 0) ∷ [])))
