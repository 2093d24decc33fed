use Rattle.sg_words.proofs.Having.{commands_have_words}
use Rattle.sg_words.proofs.laws.commands_have_words_law.Goals as goal

pub returns : goal.returns
returns c = commands_have_words
