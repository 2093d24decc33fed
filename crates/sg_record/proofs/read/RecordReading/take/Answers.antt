-- One more line is gathered, or it may not stand.
use Rattle.std.proofs.Common.{Some, None, cond, ap, sym, ◌∙◌}
use Rattle.sg_record.proofs.ReadLaw.{push_stopped, push_taken}
use Rattle.sg_record.proofs.read.RecordReading.take.Goals as goal
use Rattle.sg_record.specs.inside.Growing.{so_far}

pub returns-then-self : goal.returns-then-self
returns-then-self c = λ lines has. record { is = push_stopped (so_far c.args.self.now.reading) c.args.self.now.stopped lines c.args.line.now c.if-self.true has.is }

pub returns-then-branch : goal.returns-then-branch
returns-then-branch c = λ lines has.
    let behind = push_taken (so_far c.args.self.now.reading) (so_far c.take.new.self) c.args.self.now.stopped c.in_ok-take.field-0 lines c.args.line.now c.if-self.false has.is c.in_ok-take.ensures in
    record { is = ap (λ b. cond b None (Some (so_far c.take.new.self))) c.if-self.false ∙ (ap (λ b. cond b (Some (so_far c.take.new.self)) None) (sym c.if-branch.true) ∙ behind) }

pub returns : goal.returns
returns c = λ lines has.
    let behind = push_taken (so_far c.args.self.now.reading) (so_far c.take.new.self) c.args.self.now.stopped c.in_ok-take.field-0 lines c.args.line.now c.if-self.false has.is c.in_ok-take.ensures in
    record { is = ap (λ b. cond b (Some (so_far c.take.new.self)) None) (sym c.if-branch.false) ∙ behind }
