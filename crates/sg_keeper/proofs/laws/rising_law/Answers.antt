-- What is left to show of `rising_law`.
use Rattle.sg_keeper.proofs.Rising.{rising_is_kept}
use Rattle.sg_keeper.proofs.laws.rising_law.Goals as goal

pub returns : goal.returns
returns c = rising_is_kept
