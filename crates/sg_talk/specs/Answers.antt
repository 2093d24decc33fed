-- What is answered to a line or a request, as JSON: the text of the reply, or the refusal of what is no ask.
use Rattle.std.specs.Prelude.{ℕ, List, codes}
use Rattle.serde_json.specs.Data.{Data}
use Rattle.serde_json.specs.Written.{compact_text}
use Rattle.sg_acts.specs.declared.replies.Reply.{Reply}
use Rattle.sg_acts.specs.declared.replies.Reply.TheVariants as reply
use Rattle.sg_asks.specs.Replies.{HasPlainText, HasReplyCodes, refusal, reply_value}
use Rattle.sg_talk.specs.declared.answered.Answered.{Answered}
use Rattle.sg_talk.specs.declared.answered.Answered.TheVariants as answered

-- the value of an answer
abbrev pub answer_value : ℕ → Answered → Data
answer_value version answered.NotJson = refusal (codes "json") 400
answer_value version answered.Shape = refusal (codes "shape") 400
answer_value version (answered.Reply reply) = reply_value version reply

-- the text of an answer, without spaces
abbrev pub text_of_answer : ℕ → Answered → List ℕ
text_of_answer version answer = compact_text (answer_value version answer)

-- the status number of a reply
abbrev pub reply_status : Reply → ℕ
reply_status (reply.Done body) = 200
reply_status reply.Secret = 403
reply_status reply.Ballot = 404
reply_status (reply.Ref kept) = 409
reply_status (reply.Phase phase) = 409
reply_status (reply.Fate fate) = 409
reply_status reply.Full = 409
reply_status (reply.Race at) = 422
reply_status (reply.Candidate at) = 422
reply_status (reply.Twice at) = 422
reply_status (reply.Station kept) = 409
reply_status reply.Paper = 422
reply_status reply.Draw = 422
reply_status reply.Memory = 500
reply_status reply.Store = 503

-- the status number of an answer
abbrev pub answer_status : Answered → ℕ
answer_status answered.NotJson = 400
answer_status answered.Shape = 400
answer_status (answered.Reply reply) = reply_status reply

-- every code in the answer is a code of the version, and a kept act's text is made of plain bytes
abbrev pub IsWritable : ℕ → Answered → Type 0
IsWritable version answered.NotJson = Unit {0}
IsWritable version answered.Shape = Unit {0}
IsWritable version (answered.Reply reply) = HasReplyCodes version reply × HasPlainText reply
