-- Each turn writes the pair of the next number.
use Rattle.std.proofs.Common.{◌≡◌, length-set, refl, arith, rules, ap, ◌∙◌, sym}
use Rattle.sg_streams.specs.Order.{keyed, sort_key}
use Rattle.sg_streams.proofs.NumberLists.{numbers_below-none}
use Rattle.sg_streams.proofs.ShortOrders.{pairs-more}
use Rattle.std.proofs.Common.{map}
use Rattle.sg_streams.proofs.short_orders.keyed_few.Goals as goal

pub loop-number-init : goal.loop-number-init
loop-number-init c = record { many = refl; pairs = ap (map (keyed c.args.seed.now.0 c.args.stream)) (sym numbers_below-none); words = c.at-words.ensures }

pub loop-number-preserved : goal.loop-number-preserved
loop-number-preserved c =
    let key : c.next_key.result ≡ sort_key c.args.seed.now.0 c.args.stream c.loop-number.number = search rules in
    record {
      many = length-set _ _ _ ∙ c.loop-number.invariant.many;
      pairs = pairs-more c.args.seed.now.0 c.args.stream c.loop-number.number c.next_key.result c.loop-number.pairs
          (omega (arith, c.loop-number.invariant.many, c.loop-number-test.true, c.requires)) key c.loop-number.invariant.pairs;
      words = search rules;
    }
