-- The bytes given left the front of those still to come, and none are given only at the end.
use Rattle.std.proofs.Common.{arith, ◌≤◌, ◌+◌, length, drop, length-drop}
use Rattle.std.proofs.lemmas.List.{drop_all, take_rest}
use Rattle.sg_outside.proofs.MemoryLemmas.{taken_from_front}
use Rattle.sg_outside.proofs.memory.BytesSource.read.Goals as goal

pub returns-clause-bytes : goal.returns-clause-bytes
returns-clause-bytes c =
    let items = c.self.inside.bytes.items in
    let taken = c.self.inside.taken in
    let count = c.min-count.result in
    let fits : count ≤ length (drop taken items) = omega (arith, length-drop taken items) in
    let copied = rw take_rest at (rw c.deref-2.ensures.value at c.copy_front.ensures) in
    rw (← c.self.view_is) (
      taken_from_front items c.args.buf.now c.copy_front.new.buf taken count fits copied,
      λ none room. drop_all (taken + count) items (omega arith),
    )
