-- The text is written out.
use Rattle.std.proofs.Common.{refl}
use Rattle.std.specs.Fmt.{digits}
use Rattle.sg_http.specs.Replies.{answer_text, reason_of}
use Rattle.sg_http.proofs.texts.memory_answer.Goals as goal

pub returns : goal.returns
unfolding digits answer_text reason_of
returns c = refl
