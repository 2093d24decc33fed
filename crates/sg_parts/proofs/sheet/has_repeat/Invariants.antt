-- No code so far stands twice.
use Rattle.std.proofs.Common.{◌≡◌, drop}
use Rattle.sg_check.specs.Kinds.{has_repeat}
use Rattle.sg_parts.proofs.sheet.has_repeat.Given as goal

abbrev pub invariant-loop-at : goal.invariant-loop-at
invariant-loop-at l = has_repeat (drop l.at l.codes) ≡ has_repeat l.codes
