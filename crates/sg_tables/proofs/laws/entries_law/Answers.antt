use Rattle.sg_tables.proofs.TableLaws.{entry_laws}
use Rattle.sg_tables.proofs.laws.entries_law.Goals as goal

pub returns : goal.returns
returns c = entry_laws
