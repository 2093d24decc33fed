use Rattle.sg_streams.proofs.StreamNumbers.{stream_numbers_are_one_to_one}
use Rattle.sg_streams.proofs.laws.stream_numbers_law.Goals as goal

pub returns : goal.returns
returns c = stream_numbers_are_one_to_one
