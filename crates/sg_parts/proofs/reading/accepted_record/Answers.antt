-- The record's verdict is yes, so its lines are a record's.
use Rattle.std.proofs.Common.{Option, subst, sym, ◌∙◌}
use Rattle.std.specs.Prelude.{IfSome}
use Rattle.sg_record.specs.Laws.{AreLinesOf}
use Rattle.sg_record.specs.declared.record.Record.{Record}
use Rattle.sg_parts.proofs.Wholes.{record_read, record_there}
use Rattle.sg_parts.proofs.reading.accepted_record.Goals as goal

pub unreachable-requires : goal.unreachable-requires
unreachable-requires c = record_there c.requires.0 c.requires.2 (λ posted are. sym c.in-None.is ∙ c.in_ok-posted.ensures.only c.requires.0 posted c.requires.1 are)

pub returns : goal.returns
returns c = λ lines taken good.
    record_read lines c.in-Some.posted (subst (λ (o : Option Record). IfSome o (AreLinesOf lines)) c.in-Some.is (c.in_ok-posted.ensures.found lines taken)) good
