-- The pen is one of the plan's version, and the plan's lines are the text.
use Rattle.std.proofs.Common.{ℕ, ap, subst}
use Rattle.std.specs.Io.KnownBytes.{Appends}
use Rattle.sg_record.proofs.Limits.{version_of}
use Rattle.sg_record.specs.Lines.{plan_lines}
use Rattle.sg_record.specs.Pens.{Ink}
use Rattle.sg_record.specs.Writing.{text_in}
use Rattle.sg_record.proofs.write.write_plan.Goals as goal

pub new-requires : goal.new-requires
new-requires g c = version_of c.args.plan.now c.requires

pub returns-in-Ok-put_plan-clause-ends : goal.returns-in-Ok-put_plan-clause-ends
returns-in-Ok-put_plan-clause-ends g c =
    let bytes = rw c.in-Ok-put_plan.is at c.put_plan.ensures.bytes in
    subst (λ (v : ℕ). Appends (g.O.Sink.written c.args.out.now) (g.O.Sink.written c.put_plan.new.out) (text_in v (plan_lines c.args.plan.now))) (ap (λ (pen : Ink). pen.version) c.in-Ok.ensures) bytes
