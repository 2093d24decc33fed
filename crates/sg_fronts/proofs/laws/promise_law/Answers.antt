-- The law is the lemma.
use Rattle.sg_fronts.proofs.Promised.{sound_is_promised}
use Rattle.sg_fronts.proofs.laws.promise_law.Goals as goal

pub returns : goal.returns
returns c = sound_is_promised
