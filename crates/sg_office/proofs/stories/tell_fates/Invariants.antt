use Rattle.std.proofs.Common.{◌≡◌, ◌+◌, not, map}
use Rattle.std.specs.List.{filter}
use Rattle.sg_streams.specs.Numbers.{numbers_below}
use Rattle.sg_histories.specs.Stories.{is_unused_fate, told_of}
use Rattle.sg_office.specs.inside.Now.{fate_at}
use Rattle.sg_office.proofs.stories.tell_fates.Given as goal

abbrev pub invariant-loop-place : goal.invariant-loop-place
invariant-loop-place l = l.fates ≡ filter (λ told. not (is_unused_fate told.fate)) (map (λ place. told_of (fate_at l.slots) (place + 1)) (numbers_below l.place))
