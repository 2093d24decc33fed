-- What the types say is all that the words want besides the record's form.
use Rattle.sg_record.proofs.RecordWords.{typed_have_words}
use Rattle.sg_record.proofs.typed.know_words.Goals as goal

pub returns : goal.returns
returns c = typed_have_words c.args.posted.now c.know_types.ensures c.requires
