-- Two digits more are one byte more.
use Rattle.std.proofs.Common.{◌/◌, ◌%◌, ◌<◌, length, slice_index, refl, ap, ◌∙◌, arith}
use Rattle.std.proofs.lemmas.Bool.{and_parts, and_from, ltb-true, lt-ltb}
use Rattle.sg_lines.proofs.Hex.{IsBytes-set, found_start, found_step, only_step, only_end, next_digits, length-encode_lower}
use Rattle.sg_lines.proofs.bytes.read_hex.Goals as goal

pub loop-at-init : goal.loop-at-init
loop-at-init c = record { bytes = λ i. (c.type_inv.out i).fits; found = λ _. found_start c.args.word.now; only = λ bytes fits is. (refl, (refl, is)) }

pub loop-at-preserved : goal.loop-at-preserved
loop-at-preserved c =
    let l = c.loop-at in
    let high = c.digit_value-high in
    let low = c.digit_value-low in
    record {
      bytes = IsBytes-set l.out l.at _ l.invariant.bytes (omega arith);
      found = λ is_hex.
          let tests = and_parts _ _ is_hex in
          let both = and_parts _ _ tests.1 in
          let high_fits = ltb-true _ _ both.0 in
          let low_fits = ltb-true _ _ both.1 in
          found_step c.args.word.now l.out l.at high.result low.result _ (omega arith) (omega arith)
          (high.ensures.found high_fits) (low.ensures.found low_fits) high_fits low_fits (omega arith) (l.invariant.found tests.0);
      only = λ bytes fits is.
          let before = l.invariant.only bytes fits is in
          let count = ap length is ∙ length-encode_lower bytes in
          let digits = next_digits c.args.word.now bytes l.at count (omega arith) before.1.1 in
          let byte : slice_index bytes l.at < 256 = fits l.at in
          let high_is = high.ensures.only (slice_index bytes l.at / 16) (omega arith) digits.0 in
          let low_is = low.ensures.only (slice_index bytes l.at % 16) (omega arith) digits.1 in (
            and_from _ _ before.0 (and_from _ _ (lt-ltb high.result 16 (omega arith)) (lt-ltb low.result 16 (omega arith))),
            only_step c.args.word.now l.out bytes l.at _ count (omega arith) (omega arith) (omega arith) before.1,
          );
    }

pub returns-clause-only : goal.returns-clause-only
returns-clause-only c = λ bytes fits is.
    let last = c.loop-at.invariant.only bytes fits is in
    (last.0, only_end c.args.word.now c.loop-at.out bytes c.loop-at.at (ap length is ∙ length-encode_lower bytes) (omega arith) (omega arith) last.1)
