-- The text of an answer tells its status number.
use Rattle.std.proofs.Common.{◌≡◌, ℕ, codes, Some, refl}
use Rattle.serde_json.specs.Find.{get}
use Rattle.sg_acts.specs.declared.replies.Body.{Body}
use Rattle.sg_acts.specs.declared.replies.Body.TheVariants as body
use Rattle.sg_acts.specs.declared.replies.Reply.{Reply}
use Rattle.sg_acts.specs.declared.replies.Reply.TheVariants as reply
use Rattle.sg_asks.specs.Replies.{body_value, reply_value, whole}
use Rattle.sg_talk.specs.declared.answered.Answered.TheVariants as answered
use Rattle.sg_talk.specs.Answers.{reply_status}
use Rattle.sg_talk.specs.Laws.{StatusesAreTold}

body-told : (version : ℕ) (body : Body) → get (codes "status") (body_value version body) ≡ Some (whole 200)
unfolding body_value
body-told version (body.Scanned over) = refl
body-told version body.Spoiled = refl
body-told version body.Voided = refl
body-told version (body.Audited matches) = refl
body-told version body.Closed = refl
body-told version body.Drawn = refl
body-told version (body.Claimed word) = refl
body-told version (body.Receipt receipt) = refl
body-told version (body.Totals totals) = refl

reply-told : (version : ℕ) (reply : Reply) → get (codes "status") (reply_value version reply) ≡ Some (whole (reply_status reply))
unfolding reply_value
reply-told version (reply.Done body) = body-told version body
reply-told version reply.Secret = refl
reply-told version reply.Ballot = refl
reply-told version (reply.Ref kept) = refl
reply-told version (reply.Phase phase) = refl
reply-told version (reply.Fate fate) = refl
reply-told version reply.Full = refl
reply-told version (reply.Race at) = refl
reply-told version (reply.Candidate at) = refl
reply-told version (reply.Twice at) = refl
reply-told version (reply.Station kept) = refl
reply-told version reply.Paper = refl
reply-told version reply.Draw = refl
reply-told version reply.Memory = refl
reply-told version reply.Store = refl

-- the text of an answer tells its status number
pub statuses_are_told : StatusesAreTold
statuses_are_told version answered.NotJson = refl
statuses_are_told version answered.Shape = refl
statuses_are_told version (answered.Reply reply) = reply-told version reply
