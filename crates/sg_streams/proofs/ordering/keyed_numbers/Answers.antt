-- Each turn makes the pair of the next number.
use Rattle.std.proofs.Common.{◌≡◌, arith, rules}
use Rattle.sg_streams.specs.Numbers.{numbers_below}
use Rattle.sg_streams.specs.Order.{sort_key}
use Rattle.sg_streams.proofs.Ordered.{keyed_more, keyed_all}
use Rattle.sg_streams.proofs.ordering.keyed_numbers.Goals as goal

pub loop-number-preserved : goal.loop-number-preserved
loop-number-preserved c =
    let key : c.next_key.result ≡ sort_key c.args.seed.now.0 c.args.stream c.loop-number.number = search rules in
    record {
      pairs = rw c.in_ok-push.ensures.items
          (keyed_more c.args.seed.now.0 c.args.stream c.args.n c.loop-number.number c.next_key.result c.loop-number.pairs.items _ c.loop-number-test.true key
          c.loop-number.invariant.pairs);
      words = search rules;
    }

pub returns : goal.returns
returns c = keyed_all c.args.seed.now.0 c.args.stream c.args.n c.loop-number.number c.loop-number.pairs.items _ (omega arith) c.loop-number.invariant.pairs

pub loop-number-init : goal.loop-number-init
unfolding numbers_below
loop-number-init c = search rules
