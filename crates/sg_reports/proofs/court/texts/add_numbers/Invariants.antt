-- The numbers so far stand in the line.
use Rattle.std.proofs.Common.{◌≡◌, ◌+◌, ◌*◌, ◌≤◌, ◌++◌, drop, take}
use Rattle.sg_reports.specs.court.Texts.{numbers_text}
use Rattle.sg_reports.proofs.court.texts.add_numbers.Given as goal

abbrev pub invariant-loop-number : goal.invariant-loop-number
invariant-loop-number l = record {
  text : take l.end l.line ++ numbers_text (drop l.number-index l.numbers) ≡ take l.fn.at l.fn.line ++ numbers_text l.numbers;
  few : l.end ≤ l.fn.at + 21 * l.number-index;
}
