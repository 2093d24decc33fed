-- The pen is one of the record's version, and its lines are the text.
use Rattle.std.proofs.Common.{ℕ, [], ap, subst, sym}
use Rattle.std.specs.Io.KnownBytes.{Appends}
use Rattle.sg_record.proofs.FormedLists.{formed_parts}
use Rattle.sg_record.proofs.Limits.{version_of}
use Rattle.sg_record.specs.Lines.{lines_in, text_of}
use Rattle.sg_record.specs.Pens.{Ink, SealsWhere}
use Rattle.sg_record.specs.Writing.{text_in}
use Rattle.sg_record.proofs.write.write_record.Goals as goal

pub new-requires : goal.new-requires
new-requires g c = version_of c.args.posted.now.plan (formed_parts c.args.posted.now c.requires).plan

pub make-requires : goal.make-requires
make-requires g c = (formed_parts c.args.posted.now c.requires).plan

pub returns-in-Ok-put_record-clause-ends : goal.returns-in-Ok-put_record-clause-ends
unfolding text_of
returns-in-Ok-put_record-clause-ends g c =
    let bytes = rw c.in-Ok-put_record.is at c.put_record.ensures.bytes in
    subst (λ (v : ℕ). Appends (g.O.Sink.written c.args.out.now) (g.O.Sink.written c.put_record.new.out) (text_in v (lines_in c.args.posted.now))) (ap (λ (pen : Ink). pen.version) c.in-Ok.ensures) bytes

pub put_record-requires-clause-seal : goal.put_record-requires-clause-seal
put_record-requires-clause-seal g c = subst (λ (pen : Ink). SealsWhere ⊥ pen.seal []) (sym c.in-Ok.ensures) (λ never. never)
