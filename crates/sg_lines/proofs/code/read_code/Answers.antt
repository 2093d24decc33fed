-- What is found by its word is what `code_of` reads.
use Rattle.std.proofs.Common.{arith}
use Rattle.std.specs.Prelude.{None}
use Rattle.sg_lines.proofs.Signs.{code_of-is, codes_of-other}
use Rattle.sg_lines.proofs.code.read_code.Goals as goal

pub returns-in-1-clause-exact : goal.returns-in-1-clause-exact
returns-in-1-clause-exact c = rw c.in-1.is (code_of-is 1 c.args.word.now c.read_digits.result c.read_digits.ensures.found c.read_digits.ensures.only)

pub returns-in-2-clause-exact : goal.returns-in-2-clause-exact
returns-in-2-clause-exact c = rw c.in-2.is (code_of-is 2 c.args.word.now c.read_signs.result c.read_signs.ensures.found c.read_signs.ensures.only)

pub returns-in_default-clause-exact : goal.returns-in_default-clause-exact
returns-in_default-clause-exact c =
    code_of-is c.args.version c.args.word.now None tt
    (λ code fits is. absurd (codes_of-other c.args.version code (λ one. omega arith) (λ two. omega arith) fits))
