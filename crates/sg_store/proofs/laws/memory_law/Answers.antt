-- The law's proof.
use Rattle.sg_store.proofs.Shapes.{memory_is_sure}
use Rattle.sg_store.proofs.laws.memory_law.Goals as goal

pub returns : goal.returns
returns c = memory_is_sure
