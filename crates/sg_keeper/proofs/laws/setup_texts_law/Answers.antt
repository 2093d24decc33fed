-- What is left to show of `setup_texts_law`.
use Rattle.sg_keeper.proofs.SetupLaw.{setups_differ}
use Rattle.sg_keeper.proofs.laws.setup_texts_law.Goals as goal

pub returns : goal.returns
returns c = setups_differ
