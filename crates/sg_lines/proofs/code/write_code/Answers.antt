-- The three bytes are the word of the code in each version.
use Rattle.std.proofs.Common.{◌≡◌, sym, arith}
use Rattle.sg_lines.proofs.Signs.{code_word-digits, code_word-signs}
use Rattle.sg_lines.proofs.code.write_code.Goals as goal

pub returns-then-version-eq1 : goal.returns-then-version-eq1
returns-then-version-eq1 c = rw c.if-version-eq1.true (sym (code_word-digits c.args.code))

pub returns-else-version-eq1 : goal.returns-else-version-eq1
returns-else-version-eq1 c =
    let two : c.args.version ≡ 2 = omega arith in
    rw (two, c.sign.ensures, c.sign-else-version-eq1.ensures, c.sign-else-version-eq1-2.ensures) (sym (code_word-signs c.args.code))
