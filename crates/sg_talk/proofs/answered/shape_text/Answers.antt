use Rattle.sg_talk.proofs.Refusals.{made-of, shape-text}
use Rattle.sg_talk.proofs.answered.shape_text.Goals as goal

pub returns : goal.returns
returns c = made-of _ _ c.word_of.result shape-text c.word_of.ensures
