-- What the steps before give.
use Rattle.std.proofs.Common.{Some, ap, sym, subst, ◌∙◌}
use Rattle.std.specs.Option.{option_map}
use Rattle.sg_record.proofs.ReadLaw.{read_found, read_none, read_part, read_same}
use Rattle.sg_record.proofs.read.read_record.Goals as goal
use Rattle.sg_record.specs.inside.Growing.{so_far}
use Rattle.sg_record.specs.Laws.{IsTextOf}
use Rattle.sg_record.specs.declared.record.Record.{Record}

pub returns-in_default-clause-only : goal.returns-in_default-clause-only
returns-in_default-clause-only c = λ posted is. absurd (read_none c.args.bytes.now posted (ap (option_map so_far) (sym c.in_default.is) ∙ c.in_ok-reading.ensures) is)

pub returns-then-not-is_whole-clause-only : goal.returns-then-not-is_whole-clause-only
returns-then-not-is_whole-clause-only c = λ posted is.
    absurd
    (read_part c.args.bytes.now (so_far c.in-Some.reading) posted (ap (option_map so_far) (sym c.in-Some.is) ∙ c.in_ok-reading.ensures)
    (sym c.is_whole.ensures ∙ c.if-not-is_whole.true) is)

pub returns-clause-found : goal.returns-clause-found
returns-clause-found c =
    subst (IsTextOf c.args.bytes.now) (sym c.in_ok-posted.ensures)
    (read_found c.args.bytes.now (so_far c.in-Some.reading) (ap (option_map so_far) (sym c.in-Some.is) ∙ c.in_ok-reading.ensures) (sym c.is_whole.ensures ∙ c.if-not-is_whole.false))

pub returns-clause-only : goal.returns-clause-only
returns-clause-only c = λ posted is.
    ap (λ (r : Record). Some r)
    (c.in_ok-posted.ensures ∙ read_same c.args.bytes.now (so_far c.in-Some.reading) posted (ap (option_map so_far) (sym c.in-Some.is) ∙ c.in_ok-reading.ensures) is)
