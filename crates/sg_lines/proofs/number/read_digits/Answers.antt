-- A number past the limit only grows with more digits.
use Rattle.std.proofs.Common.{◌≡◌, ◌+◌, ◌*◌, ◌∙◌, sym, drop, get_or, arith}
use Rattle.std.proofs.lemmas.List.{at_drop_more}
use Rattle.std.specs.Char.{digit_value}
use Rattle.std.specs.Str.Parse.{digits_value_after}
use Rattle.sg_lines.proofs.Numbers.{digit_value-digit, digits_value_after-from}
use Rattle.sg_lines.proofs.number.read_digits.Goals as goal

pub returns-then-value-from-clause-none : goal.returns-then-value-from-clause-none
returns-then-value-from-clause-none c = λ _.
    let l = c.loop-byte in
    let word = c.args.word.now in
    let byte = get_or word l.byte-index 0 in
    let rest = drop (l.byte-index + 1) word in
    let digit = digit_value-digit byte (omega arith) (omega arith) in
    let step : digits_value_after 10 l.value (drop l.byte-index word) ≡ digits_value_after 10 (l.value * 10 + digit_value byte) rest =
    at_drop_more (digits_value_after 10 l.value) word l.byte-index 0 (omega arith) in
    omega (arith, digits_value_after-from (l.value * 10 + digit_value byte) rest, sym step ∙ l.invariant.value, digit)
