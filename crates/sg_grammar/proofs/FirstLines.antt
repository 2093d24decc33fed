-- Where a walk over some lines comes from: its first line, and the walk over the others.
use Rattle.std.proofs.Common.{◌≡◌, ℕ, List, [], ◌∷◌, Some, sym, ap}
use Rattle.std.specs.Option.{option_map}
use Rattle.std.proofs.lemmas.Option.{same_Some}
use Rattle.sg_lists.proofs.Options.{option_and_then-some, option_map-some}
use Rattle.sg_forms.specs.Reading.{line_of}
use Rattle.sg_forms.specs.Said.{Said}
use Rattle.sg_grammar.specs.Walk.{Next, Taken, Walked, take_bytes, take_line, walk, walked_on}

-- a line's bytes are taken where the line is
pub take_bytes-line : (next : Next) (bytes : List ℕ) (t : Taken) → take_bytes next bytes ≡ Some t → (said : Said) × (line_of next.plan.version bytes ≡ Some said) × (take_line next said ≡ Some t)
unfolding take_bytes
take_bytes-line next bytes t e = option_and_then-some (take_line next) (line_of next.plan.version bytes) t e

-- where a walk over a line and others comes from
pub record WalkedOn (next : Next) (bytes : List ℕ) (lines : List (List ℕ)) (w : Walked) : Type 0 where
  pub taken : Taken
  pub rest : Walked
  pub first : take_bytes next bytes ≡ Some taken
  pub others : walk taken.next lines ≡ Some rest
  pub is : walked_on bytes taken rest ≡ w

pub walk-first : (next : Next) (bytes : List ℕ) (lines : List (List ℕ)) (w : Walked) → walk next (bytes ∷ lines) ≡ Some w → WalkedOn next bytes lines w
unfolding walk
walk-first next bytes lines w e =
    let one = option_and_then-some (λ (taken : Taken). option_map (walked_on bytes taken) (walk taken.next lines)) (take_bytes next bytes) w e in
    let more = option_map-some (walked_on bytes one.0) (walk one.0.next lines) w one.2 in
    record { taken = one.0; rest = more.0; first = one.1; others = more.1; is = more.2 }

pub walk-none : (next : Next) (w : Walked) → walk next [] ≡ Some w → w.next ≡ next
unfolding walk
walk-none next w e = ap (λ (x : Walked). x.next) (sym (same_Some (record { posted = []; next = next }) w e))
