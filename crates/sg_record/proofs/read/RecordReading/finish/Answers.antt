-- The lines are those of the record that was gathered, or of none.
use Rattle.std.proofs.Common.{Some, None, cond, ap, subst, sym, ◌∙◌}
use Rattle.sg_record.proofs.ReadLaw.{lines_found, lines_none, lines_part, lines_same}
use Rattle.sg_record.proofs.read.RecordReading.finish.Goals as goal
use Rattle.sg_record.specs.inside.Growing.{so_far}
use Rattle.sg_record.specs.Laws.{AreLinesOf}
use Rattle.sg_record.specs.declared.record.Record.{Record}

pub returns-then-self-clause-only : goal.returns-then-self-clause-only
returns-then-self-clause-only c = λ lines posted has are.
    absurd (lines_none lines posted (ap (λ b. cond b None (Some (so_far c.args.self.reading))) (sym c.if-self.true) ∙ has.is) are)

pub returns-then-not-is_whole-clause-only : goal.returns-then-not-is_whole-clause-only
returns-then-not-is_whole-clause-only c = λ lines posted has are.
    absurd
    (lines_part lines (so_far c.args.self.reading) posted (ap (λ b. cond b None (Some (so_far c.args.self.reading))) (sym c.if-self.false) ∙ has.is)
    (sym c.is_whole.ensures ∙ c.if-not-is_whole.true) are)

pub returns-clause-found : goal.returns-clause-found
returns-clause-found c = λ lines has.
    subst (AreLinesOf lines) (sym c.in_ok-posted.ensures)
    (lines_found lines (so_far c.args.self.reading) (ap (λ b. cond b None (Some (so_far c.args.self.reading))) (sym c.if-self.false) ∙ has.is) (sym c.is_whole.ensures ∙ c.if-not-is_whole.false))

pub returns-clause-only : goal.returns-clause-only
returns-clause-only c = λ lines posted has are.
    ap (λ (r : Record). Some r)
    (c.in_ok-posted.ensures ∙ lines_same lines (so_far c.args.self.reading) posted (ap (λ b. cond b None (Some (so_far c.args.self.reading))) (sym c.if-self.false) ∙ has.is) are)
