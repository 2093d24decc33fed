-- What is written so far, and the words that are left, give all the words.
use Rattle.std.proofs.Common.{drop}
use Rattle.std.specs.Prelude.{map}
use Rattle.sg_lines.specs.Words.{decimal}
use Rattle.sg_forms.proofs.Overwriting.{IsOnTheWay}
use Rattle.sg_forms.proofs.parts.put_numbers.Given as goal

abbrev pub invariant-loop-number : goal.invariant-loop-number
invariant-loop-number l = IsOnTheWay l.fn.at (map (decimal) l.numbers) l.fn.out l.end (map (decimal) (drop l.number-index l.numbers)) l.out
