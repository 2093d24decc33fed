-- What a read and a put of objects in memory do to their bytes.
use Rattle.std.proofs.Common.{◌≡◌, ℕ, ◌+◌, ◌≤◌, List, ◌++◌, length, take, drop, sym, ap, ◌∙◌, arith, length-take, take-append-drop}
use Rattle.std.proofs.lemmas.List.{take_at, drop-drop}

-- what was copied to the front of a buffer is what left the front of the bytes
pub taken_from_front : (bytes old new : List ℕ) (taken count : ℕ) → count ≤ length (drop taken bytes)
    → new ≡ take count (drop taken bytes) ++ drop count old
    → drop taken bytes ≡ take count new ++ drop (taken + count) bytes
taken_from_front bytes old new taken count fits copied =
    let copy : take count new ≡ take count (drop taken bytes) =
    ap (take count) copied ∙ take_at (take count (drop taken bytes)) (drop count old) count (omega (arith, length-take count (drop taken bytes))) in
    sym (take-append-drop count (drop taken bytes)) ∙ (ap (λ l. l ++ drop count (drop taken bytes)) (sym copy)
    ∙ ap (λ l. take count new ++ l) (drop-drop count taken bytes))
