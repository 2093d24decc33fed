use Rattle.sg_talk.proofs.Refusals.{made-of, json-text}
use Rattle.sg_talk.proofs.answered.not_json_text.Goals as goal

pub returns : goal.returns
returns c = made-of _ _ c.word_of.result json-text c.word_of.ensures
