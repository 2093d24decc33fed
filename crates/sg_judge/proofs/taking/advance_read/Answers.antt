use Rattle.std.proofs.Common.{Some, sym, ap, ◌∙◌}
use Rattle.std.specs.Option.{option_map}
use Rattle.sg_forms.specs.Said.{said}
use Rattle.sg_grammar.proofs.Walking.{read_next-no_line, take_bytes-not_read}
use Rattle.sg_judge.proofs.Advancing.{form_stops}
use Rattle.sg_judge.proofs.taking.advance_read.Goals as goal

pub returns-in-None-clause-goes_on : goal.returns-in-None-clause-goes_on
returns-in-None-clause-goes_on c = λ lines stands.
    let none = rw c.plan.ensures.is at c.read_form-read.ensures.exact in
    form_stops c.args.expect.now c.args.sealer.now (Some c.args.ledger.now) lines c.args.bytes.now stands
    (take_bytes-not_read c.args.expect.now c.args.bytes.now (read_next-no_line c.args.expect.now c.args.bytes.now (sym none ∙ ap (option_map said) c.in-None.is)))

pub advance_line-requires-clause-read : goal.advance_line-requires-clause-read
advance_line-requires-clause-read c =
    let spelled = rw c.plan.ensures.is at c.read_form-read.ensures.exact in
    sym spelled ∙ ap (option_map said) c.in-Some.is
