use Rattle.sg_tables.proofs.TableLaws.{pointer_laws}
use Rattle.sg_tables.proofs.laws.pointers_law.Goals as goal

pub returns : goal.returns
returns c = pointer_laws
