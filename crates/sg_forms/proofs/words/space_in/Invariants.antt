-- No space stands so far.
use Rattle.std.proofs.Common.{take}
use Rattle.sg_lines.specs.Words.{HasNoSpace}
use Rattle.sg_forms.proofs.words.space_in.Given as goal

abbrev pub invariant-loop-at : goal.invariant-loop-at
invariant-loop-at l = HasNoSpace (take l.at l.text)
