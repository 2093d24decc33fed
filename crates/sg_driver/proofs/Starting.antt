-- Before the first line.
use Rattle.std.proofs.Common.{◌≡◌, ℕ, List, [], None, Some, refl, sym, subst, arith}
use Rattle.std.specs.Prelude.{Option, false}
use Rattle.std.specs.Io.KnownBytes.{Consumes, prepend_known}
use Rattle.sg_outside.specs.Cutting.{Cutting}
use Rattle.sg_outside.specs.Streams.{Seen}
use Rattle.sg_outside.proofs.StreamLemmas.{Consumes-nil}
use Rattle.sg_driver.specs.Judging.{Judging}
use Rattle.sg_driver.specs.Taken.{TookLines}
use Rattle.sg_driver.specs.inside.Stopping.{IsFed}

-- nothing was taken
pub took_nothing : (Are : List (List ℕ) → Type 0) (known : Option (List ℕ)) → Are [] → TookLines Are known known
took_nothing Are known are = record { done = []; rest = []; lines = tt; are = are; short = omega arith; few = omega arith; taken = Consumes-nil known }

none-held : (known : Option (List ℕ)) → Consumes known (prepend_known [] known) []
none-held None = tt
none-held (Some bytes) = refl

-- at first no line was taken
pub fed-start : {Answer : Type 0} (judging : Judging Answer) (Stands : List (List ℕ) → Type 0) (lines : Cutting) (now : Seen) → Stands [] → judging.Unsettled []
    → lines ≡ record { limit = 16384; text = []; ahead = []; is_over = false } → IsFed judging Stands lines now now
fed-start judging Stands lines now stands unsettled fresh =
    subst (λ (l : Cutting). IsFed judging Stands l now now) (sym fresh)
    (record { done = []; stands = stands; unsettled = unsettled; are_lines = tt; short = omega arith; taken = none-held now.bytes; goes_on = refl; limit = refl; later = omega arith })
