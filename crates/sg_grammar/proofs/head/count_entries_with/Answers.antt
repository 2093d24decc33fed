use Rattle.std.proofs.Common.{arith}
use Rattle.sg_grammar.proofs.Adding.{run-entries, run-entries_before}
use Rattle.sg_grammar.proofs.head.count_entries_with.Goals as goal

pub overflow_add-entries : goal.overflow_add-entries
overflow_add-entries c =
    let before = run-entries_before c.args.plan.now c.args.run.style c.args.run.count c.loop-race.race c.requires.small c.requires.few in
    let here = run-entries c.args.plan.now c.args.run.style c.args.run.count c.loop-race.race c.requires.small c.requires.few in
    omega (arith, before, here)

pub entries_with-requires-clause-fits : goal.entries_with-requires-clause-fits
entries_with-requires-clause-fits c = omega (arith, run-entries c.args.plan.now c.args.run.style c.args.run.count c.loop-race.race c.requires.small c.requires.few)
