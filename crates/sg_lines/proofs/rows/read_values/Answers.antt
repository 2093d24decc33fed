-- One digit more has one value more.
use Rattle.std.proofs.Common.{arith}
use Rattle.std.proofs.lemmas.Bool.{and_parts, and_from, ltb-true, lt-ltb}
use Rattle.sg_lines.proofs.DigitRows.{found_step, only_step, only_end, value_there, values_count}
use Rattle.sg_lines.proofs.rows.read_values.Goals as goal

pub loop-at-preserved : goal.loop-at-preserved
loop-at-preserved c =
    let l = c.loop-at in
    let value = c.digit_value-value in
    record {
      found = λ is_hex.
          let tests = and_parts _ _ is_hex in
          let small = ltb-true _ _ tests.1 in
          found_step c.args.word.now l.values l.at value.result (omega arith) (omega arith) small (value.ensures.found small) (l.invariant.found tests.0);
      only = λ list are.
          let before = l.invariant.only list are in
          let there = value_there c.args.word.now list l.at (omega arith) are in
          let value_is = value.ensures.only _ there.0 there.1 in (
            and_from _ _ before.0 (lt-ltb value.result 16 (omega (arith, there.0, value_is))),
            only_step l.values list l.at value.result (omega arith) (omega (arith, values_count c.args.word.now list are)) value_is before.1,
          );
    }

pub returns-clause-only : goal.returns-clause-only
returns-clause-only c = λ list are.
    let last = c.loop-at.invariant.only list are in
    (last.0, only_end c.loop-at.values list c.loop-at.at (omega (arith, values_count c.args.word.now list are)) (omega arith) last.1)
