-- What the system is asked to wait for, and what follows of its answer. No public clause cites this.
use Rattle.std.specs.Prelude.{ℕ, ◌+◌, ◌-◌, ◌^◌, ◌||◌, min, Bool, false, not, ℤ, pos, negsuc, Option, Some, None, List, [], ◌∷◌, slice_get, nat_le, if◌then◌else◌}
use Rattle.std.specs.Option.{option_map_or}
use Rattle.std.specs.Int.{div_ceil}
use Rattle.std.specs.Ordering.{int_eq}
use Rattle.std.specs.Duration.{as_nanos}
use Rattle.std.specs.Time.{instant_nanos}
use Rattle.std.specs.declared.time.Duration.{Duration}
use Rattle.libc.specs.declared.types.pollfd.{pollfd}
use Rattle.sg_system.specs.declared.talk.Talk.{Talk}

-- a time in milliseconds, rounded up, and cut to the 24 days that fit; without an end -1
abbrev pub millis : Option Duration → ℤ
millis (Some time) = pos (min (div_ceil (as_nanos time) 1000000) (2 ^ 31 - 1))
millis None = negsuc 0

-- whether the system told something of the descriptor at this place
abbrev pub is_told : List pollfd → ℕ → Bool
is_told asked at = option_map_or (λ fd. not (int_eq fd.revents (pos 0))) (slice_get asked at) false

-- which of the connections is the first at which something is to be read or whose time is over; the descriptor of the one
-- at the first place stands behind one other
abbrev pub first_due : ℕ → List pollfd → ℕ → List Talk → Option ℕ
first_due at asked now [] = None
first_due at asked now (talk ∷ talks) =
    if is_told asked (at + 1) || nat_le (instant_nanos talk.until) now then Some at else first_due (at + 1) asked now talks
