use Rattle.std.proofs.Common.{sym}
use Rattle.sg_grammar.proofs.Steps.{rows_first}
use Rattle.sg_grammar.proofs.slots.first_row.Goals as goal

-- the races before it have no entry
pub returns-in-Some-clause-due : goal.returns-in-Some-clause-due
returns-in-Some-clause-due c =
    let found = c.in-Some.ensures.found in
    sym (rows_first c.args.plan.now c.args.from c.in-Some.race found.0 found.1 c.requires.sized.one_instance found.2 found.3)
