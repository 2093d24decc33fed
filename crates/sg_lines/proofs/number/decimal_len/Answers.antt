-- A number has one digit more than its whole logarithm to base ten.
use Rattle.std.proofs.Common.{length, sym, ap, ◌∙◌, arith}
use Rattle.std.proofs.lemmas.Fmt.{decimal_digit}
use Rattle.sg_lines.specs.Words.{decimal}
use Rattle.sg_lines.proofs.Numbers.{length-decimal_power}
use Rattle.sg_lines.proofs.number.decimal_len.Goals as goal

pub returns-in-Some : goal.returns-in-Some
returns-in-Some c =
    sym (length-decimal_power c.args.value c.in-Some.log c.ranges.value.fits c.in-Some.ensures.power_le c.in-Some.ensures.next_power_gt)

pub returns-in-None : goal.returns-in-None
returns-in-None c = sym (ap (λ n. length (decimal n)) c.in-None.ensures.none ∙ ap length (decimal_digit 0 (omega arith)))
