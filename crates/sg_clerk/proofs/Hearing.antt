-- What the bytes of a source are, where they were read into the front of a buffer.
use Rattle.std.proofs.Common.{◌≡◌, ℕ, ◌+◌, ◌-◌, ◌<◌, List, ◌++◌, length, take, drop, None, Some, sym, ap, subst, ◌∙◌, arith, take-add, slice_range, length-append}
use Rattle.std.specs.Prelude.{Option, IfSome}
use Rattle.std.specs.Io.KnownBytes.{Consumes, IsAtEnd}
use Rattle.sg_outside.proofs.StreamLemmas.{Consumes-all, Consumes-trans}
use Rattle.sg_clerk.specs.inside.Hearing.{HasRead}

-- a longer front is a shorter one and what lies behind it
front_then : (xs : List ℕ) (end count : ℕ) → take (end + count) xs ≡ take end xs ++ slice_range xs end (end + count)
front_then xs end count =
    let some : count ≡ (end + count) - end = omega arith in
    take-add end count xs ∙ ap (λ n. take end xs ++ take n (drop end xs)) some

-- what a read brings comes behind what was taken before
pub take_read : (a b c : Option (List ℕ)) (old new : List ℕ) (end count : ℕ)
    → Consumes a b (take end old) → HasRead old new end count b c → Consumes a c (take (end + count) new)
take_read a b c old new end count before read =
    let parts : take (end + count) new ≡ take end old ++ slice_range new end (end + count) =
    front_then new end count ∙ ap (λ l. l ++ slice_range new end (end + count)) read.front in
    subst (Consumes a c) (sym parts) (Consumes-trans a b c (take end old) (slice_range new end (end + count)) before read.came)

-- at the end the bytes that were told are those that were taken
pub told_all : (known left : Option (List ℕ)) (taken : List ℕ) (P : List ℕ → Type 0) → Consumes known left taken → IsAtEnd left → P taken → IfSome known P
told_all None left taken P came ended is = tt
told_all (Some bytes) left taken P came ended is = subst P (sym (Consumes-all bytes left taken came ended)) is

-- no fewer were told than were taken
pub told_more : (known left : Option (List ℕ)) (taken : List ℕ) (few : ℕ) → Consumes known left taken → few < length taken → IfSome known (λ bytes. few < length bytes)
told_more None left taken few came more = tt
told_more (Some bytes) None taken few came more = absurd came
told_more (Some bytes) (Some rest) taken few came more =
    let both : length bytes ≡ length taken + length rest = ap length came ∙ length-append taken rest in
    omega (arith, both, more)
