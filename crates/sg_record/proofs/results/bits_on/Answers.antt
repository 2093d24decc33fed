-- No more bits are taken than are left.
use Rattle.std.proofs.Common.{◌≡◌, ◌+◌, ◌-◌, ◌*◌, ◌∙◌, ap, take, drop, arith}
use Rattle.std.proofs.lemmas.List.{length-drop}
use Rattle.sg_record.proofs.BitLines.{take_fitting}
use Rattle.sg_record.proofs.results.bits_on.Goals as goal

pub returns-clause-is : goal.returns-clause-is
returns-clause-is c =
    let rest = drop (64 * c.args.line) c.args.bits.now in
    let count : 64 * c.args.line + c.min-count.result - 64 * c.args.line ≡ c.min-count.result = omega arith in
    ap (λ n. take n rest) count ∙ take_fitting 64 c.min-count.result rest (omega (arith, c.min-count.ensures, length-drop (64 * c.args.line) c.args.bits.now))
