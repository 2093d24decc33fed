-- What is left to show of `setup_ascii_law`.
use Rattle.sg_keeper.proofs.SetupAscii.{setups_are_ascii}
use Rattle.sg_keeper.proofs.laws.setup_ascii_law.Goals as goal

pub returns : goal.returns
returns c = setups_are_ascii
