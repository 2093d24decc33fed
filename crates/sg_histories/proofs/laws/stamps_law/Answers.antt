-- The law is proved as a lemma.
use Rattle.sg_histories.proofs.Stamps.{stamps_stand_once}
use Rattle.sg_histories.proofs.laws.stamps_law.Goals as goal

pub returns : goal.returns
returns c = stamps_stand_once
