-- A word of another length spells no key, and the rest follows from what `read_row` ensures.
use Rattle.std.proofs.Common.{length, true≢false, sym, ap, ◌∙◌, arith}
use Rattle.sg_lines.proofs.Hex.{key_of-some, key_of-none, length-encode_lower}
use Rattle.sg_lines.proofs.bytes.read_key.Goals as goal

pub returns-then-word-ne32-clause-only : goal.returns-then-word-ne32-clause-only
returns-then-word-ne32-clause-only c = λ key count fits is. absurd (omega (arith, ap length is, length-encode_lower key))

pub returns-then-word-ne32-clause-exact : goal.returns-then-word-ne32-clause-exact
returns-then-word-ne32-clause-exact c = key_of-none c.args.word.now (λ key count fits is. absurd (omega (arith, ap length is, length-encode_lower key)))

pub returns-then-read_row-clause-exact : goal.returns-then-read_row-clause-exact
returns-then-read_row-clause-exact c =
    key_of-some c.args.word.now c.read_row.new.out (omega arith) c.read_row.ensures.bytes (c.read_row.ensures.found c.if-read_row.true)

pub returns-else-read_row-clause-exact : goal.returns-else-read_row-clause-exact
returns-else-read_row-clause-exact c = key_of-none c.args.word.now (λ key count fits is. absurd (true≢false (sym (c.read_row.ensures.only key fits is).0 ∙ c.if-read_row.false)))
