use Rattle.sg_tables.proofs.TableLaws.{code_laws}
use Rattle.sg_tables.proofs.laws.codes_law.Goals as goal

pub returns : goal.returns
returns c = code_laws
