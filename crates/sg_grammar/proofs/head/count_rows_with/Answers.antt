use Rattle.std.proofs.Common.{arith}
use Rattle.sg_grammar.proofs.Adding.{run-rows}
use Rattle.sg_grammar.proofs.head.count_rows_with.Goals as goal

pub overflow_mul-result : goal.overflow_mul-result
overflow_mul-result c =
    let rows = run-rows c.args.plan.now c.args.run.style c.args.run.count c.requires.small c.requires.few in
    rw (c.from.ensures, c.instances.ensures, c.count_entries_with.ensures) (omega (arith, rows))
