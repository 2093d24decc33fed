-- Each turn writes the place of one more number.
use Rattle.std.proofs.Common.{◌≤◌, length, length-set, arith, ◌∙◌}
use Rattle.sg_tables.proofs.Inverses.{inverse-all, inverse-more}
use Rattle.sg_tables.proofs.drawing.inverse_of.Goals as goal

pub loop-at-preserved : goal.loop-at-preserved
loop-at-preserved c =
    let fits : length c.args.order.now ≤ length c.loop-at.places = omega (arith, c.requires.few, c.loop-at.invariant.long) in
    record {
      long = length-set _ _ _ ∙ c.loop-at.invariant.long;
      written = inverse-more c.args.order.now c.loop-at.places c.loop-at.at c.requires.one_to_one fits c.loop-at-test.true c.loop-at.invariant.written;
    }

pub returns : goal.returns
returns c =
    let fits : length c.args.order.now ≤ length c.loop-at.places = omega (arith, c.requires.few, c.loop-at.invariant.long) in
    inverse-all c.args.order.now c.loop-at.places c.requires.one_to_one fits
    (λ k less. c.loop-at.invariant.written k (omega (arith, less, c.loop-at-test.false)))
