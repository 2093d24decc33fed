-- The code rises until no used number pushes it further.
use Rattle.std.proofs.Common.{◌≡◌, ◌+◌, ◌<◌, leb, arith}
use Rattle.std.proofs.lemmas.List.Sums.{count_by-le-length}
use Rattle.sg_streams.proofs.Counts.{count_upto}
use Rattle.sg_streams.proofs.Unused.{settled, pushed_on, pushed_low}
use Rattle.sg_streams.proofs.row_codes.unused_at.Goals as goal

pub returns-then-pushed-code-clause-unused : goal.returns-then-pushed-code-clause-unused
returns-then-pushed-code-clause-unused c =
    let same : c.loop-code.code ≡ c.args.draw + count_upto c.loop-code.code c.args.used.now = omega (arith, c.if-pushed-code.true) in
    (settled c.args.draw c.loop-code.code c.args.used.now c.loop-code.invariant same).0

pub returns-then-pushed-code-clause-place : goal.returns-then-pushed-code-clause-place
returns-then-pushed-code-clause-place c =
    let same : c.loop-code.code ≡ c.args.draw + count_upto c.loop-code.code c.args.used.now = omega (arith, c.if-pushed-code.true) in
    (settled c.args.draw c.loop-code.code c.args.used.now c.loop-code.invariant same).1

pub loop-code-smaller : goal.loop-code-smaller
loop-code-smaller c =
    let on = pushed_on c.args.draw c.loop-code.code c.args.used.now c.loop-code.invariant in
    let few = count_by-le-length (λ u. leb u c.loop-code.code) c.args.used.now in
    omega (arith, on, few, c.up_to.ensures, c.if-pushed-code.false)

pub loop-code-preserved : goal.loop-code-preserved
loop-code-preserved c =
    let on = pushed_on c.args.draw c.loop-code.code c.args.used.now c.loop-code.invariant in
    let far : c.loop-code.code < c.args.draw + count_upto c.loop-code.code c.args.used.now = omega (arith, on) in
    rw c.up_to.ensures (pushed_low c.args.draw c.loop-code.code c.args.used.now far)
