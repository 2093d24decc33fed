-- What is found by its spelling is what `decimal_of` reads.
use Rattle.std.proofs.Common.{sym, ◌∙◌}
use Rattle.std.proofs.lemmas.Bool.{eqb-true, eqb-false, iff_false}
use Rattle.std.specs.Prelude.{None}
use Rattle.sg_lines.proofs.Numbers.{FindsDigits, decimal_of-is, digits-found, digits-only, digits-spelled, empty-only, lead-only}
use Rattle.sg_lines.proofs.number.read_decimal.Goals as goal

pub returns-then-is_empty-clause-only : goal.returns-then-is_empty-clause-only
returns-then-is_empty-clause-only c = empty-only c.args.word.now (eqb-true _ _ (sym c.is_empty.ensures ∙ c.if-is_empty.true))

pub returns-then-is_empty-clause-exact : goal.returns-then-is_empty-clause-exact
returns-then-is_empty-clause-exact c =
    decimal_of-is c.args.word.now None tt (empty-only c.args.word.now (eqb-true _ _ (sym c.is_empty.ensures ∙ c.if-is_empty.true)))

pub returns-then-has_leading_zero-clause-only : goal.returns-then-has_leading_zero-clause-only
returns-then-has_leading_zero-clause-only c =
    let lead = c.has_leading_zero.ensures.0 c.if-has_leading_zero.true in
    lead-only c.args.word.now lead.0 lead.1

pub returns-then-has_leading_zero-clause-exact : goal.returns-then-has_leading_zero-clause-exact
returns-then-has_leading_zero-clause-exact c =
    let lead = c.has_leading_zero.ensures.0 c.if-has_leading_zero.true in
    decimal_of-is c.args.word.now None tt (lead-only c.args.word.now lead.0 lead.1)

pub returns-clause-only : goal.returns-clause-only
returns-clause-only c = digits-only c.args.word.now c.read_digits.result (c.read_digits.ensures.some, c.read_digits.ensures.none)

pub returns-clause-found : goal.returns-clause-found
returns-clause-found c =
    digits-spelled c.args.word.now c.read_digits.result
    (digits-found c.args.word.now c.read_digits.result (c.read_digits.ensures.some, c.read_digits.ensures.none)
    (eqb-false _ _ (sym c.is_empty.ensures ∙ c.if-is_empty.false)) (iff_false c.has_leading_zero.ensures c.if-has_leading_zero.false))

pub returns-clause-exact : goal.returns-clause-exact
returns-clause-exact c =
    let finds : FindsDigits c.args.word.now c.read_digits.result = (c.read_digits.ensures.some, c.read_digits.ensures.none) in
    decimal_of-is c.args.word.now c.read_digits.result
    (digits-found c.args.word.now c.read_digits.result finds
    (eqb-false _ _ (sym c.is_empty.ensures ∙ c.if-is_empty.false)) (iff_false c.has_leading_zero.ensures c.if-has_leading_zero.false))
    (digits-only c.args.word.now c.read_digits.result finds)
