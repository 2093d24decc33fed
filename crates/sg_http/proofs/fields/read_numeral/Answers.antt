-- Once all bytes are read, the number is closed.
use Rattle.std.proofs.Common.{arith, sym, ◌∙◌}
use Rattle.std.proofs.lemmas.Bool.Decides.{nat_tests}
use Rattle.sg_http.proofs.NumeralLemmas.{numeral-read, closed_large, closed_small}
use Rattle.sg_http.proofs.fields.read_numeral.Goals as goal

pub returns-then-number-gt-LONGEST_ASK-clause-exact : goal.returns-then-number-gt-LONGEST_ASK-clause-exact
returns-then-number-gt-LONGEST_ASK-clause-exact c =
    let read = numeral-read c.args.value.now c.loop-byte.number c.loop-byte.byte-index (grind (arith, nat_tests)) (omega arith) c.loop-byte.invariant.rest in
    sym (read ∙ closed_large c.loop-byte.number (omega arith))

pub returns-clause-exact : goal.returns-clause-exact
returns-clause-exact c =
    let read = numeral-read c.args.value.now c.loop-byte.number c.loop-byte.byte-index (grind (arith, nat_tests)) (omega arith) c.loop-byte.invariant.rest in
    sym (read ∙ closed_small c.loop-byte.number (omega arith))
