-- So many lists stand.
use Rattle.std.proofs.Common.{◌≡◌, replicate, []}
use Rattle.sg_parts.proofs.sheet.blank_lists.Given as goal

abbrev pub invariant-loop-race : goal.invariant-loop-race
invariant-loop-race l = l.lists ≡ replicate l._race []
