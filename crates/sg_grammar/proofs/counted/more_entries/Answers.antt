use Rattle.std.proofs.Common.{sym, arith}
use Rattle.sg_grammar.proofs.PlanCounts.{more_with, more_without}
use Rattle.sg_grammar.proofs.counted.more_entries.Goals as goal

pub overflow_mul-result : goal.overflow_mul-result
overflow_mul-result c =
    let more = more_with c.args.plan.now c.args.before c.args.run.style c.args.run.count c.args.race c.candidates_in-candidates.result c.requires.before c.candidates_in-candidates.ensures (sym c.if-style_carries.ensures) in
    omega (arith, more, c.requires.fits)

pub overflow_add-result : goal.overflow_add-result
overflow_add-result c =
    let more = more_with c.args.plan.now c.args.before c.args.run.style c.args.run.count c.args.race c.candidates_in-candidates.result c.requires.before c.candidates_in-candidates.ensures (sym c.if-style_carries.ensures) in
    omega (arith, more, c.requires.fits)

pub returns-then-style_carries : goal.returns-then-style_carries
returns-then-style_carries c = sym (more_with c.args.plan.now c.args.before c.args.run.style c.args.run.count c.args.race c.candidates_in-candidates.result c.requires.before c.candidates_in-candidates.ensures (sym c.if-style_carries.ensures))

pub returns-else-style_carries : goal.returns-else-style_carries
returns-else-style_carries c = sym (more_without c.args.plan.now c.args.before c.args.run.style c.args.run.count c.args.race c.requires.before (sym c.if-style_carries.ensures))
