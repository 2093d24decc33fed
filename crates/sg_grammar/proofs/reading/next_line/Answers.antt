use Rattle.std.proofs.Common.{sym}
use Rattle.sg_forms.specs.Said.{said}
use Rattle.sg_grammar.proofs.Walking.{read_next-line, read_next-no_line, read_next-not_taken}
use Rattle.sg_grammar.proofs.reading.next_line.Goals as goal

pub returns-in_default-clause-exact : goal.returns-in_default-clause-exact
returns-in_default-clause-exact c =
    let none = rw c.plan.ensures.is at c.in_default.ensures.exact in
    sym (read_next-no_line c.args.expect.now c.args.bytes.now (sym none))

pub returns-then-may-clause-exact : goal.returns-then-may-clause-exact
returns-then-may-clause-exact c =
    let spelled = rw c.plan.ensures.is at c.in-Some.ensures.exact in
    sym (read_next-line c.args.expect.now c.args.bytes.now (said c.in-Some.line) (sym spelled) (sym c.if-may.ensures))

pub returns-clause-exact : goal.returns-clause-exact
returns-clause-exact c =
    let spelled = rw c.plan.ensures.is at c.in-Some.ensures.exact in
    sym (read_next-not_taken c.args.expect.now c.args.bytes.now (said c.in-Some.line) (sym spelled) (sym c.if-may.ensures))
