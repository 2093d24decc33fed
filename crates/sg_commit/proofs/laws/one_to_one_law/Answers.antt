use Rattle.sg_commit.proofs.Inputs.{inputs_are_one_to_one}
use Rattle.sg_commit.proofs.laws.one_to_one_law.Goals as goal

pub returns : goal.returns
returns c = inputs_are_one_to_one
