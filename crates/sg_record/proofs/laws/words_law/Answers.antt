-- The law is the lemma.
use Rattle.sg_record.proofs.RecordWords.{typed_have_words}
use Rattle.sg_record.proofs.laws.words_law.Goals as goal

pub returns : goal.returns
returns c = typed_have_words
