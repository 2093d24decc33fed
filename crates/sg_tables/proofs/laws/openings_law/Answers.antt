use Rattle.sg_tables.proofs.TableLaws.{opening_laws}
use Rattle.sg_tables.proofs.laws.openings_law.Goals as goal

pub returns : goal.returns
returns c = opening_laws
