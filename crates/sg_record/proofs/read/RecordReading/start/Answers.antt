-- Nothing is gathered yet.
use Rattle.std.proofs.Common.{Some, ap, sym, ◌∙◌}
use Rattle.sg_record.proofs.ReadLaw.{gather-end}
use Rattle.sg_record.proofs.read.RecordReading.start.Goals as goal
use Rattle.sg_record.specs.inside.Gathering.{Gathered, nothing_yet}

pub returns : goal.returns
returns c = record { is = ap (λ (g : Gathered). Some g) c.start.ensures ∙ sym (gather-end nothing_yet) }
