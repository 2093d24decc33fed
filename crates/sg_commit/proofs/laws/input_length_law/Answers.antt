use Rattle.sg_commit.proofs.Inputs.{inputs_have_29_bytes}
use Rattle.sg_commit.proofs.laws.input_length_law.Goals as goal

pub returns : goal.returns
returns c = inputs_have_29_bytes
