-- A talk of the office keeps what was accepted and posted.
use Rattle.std.proofs.Common.{List, [], ◌∷◌, ap, subst, ◌∙◌}
use Rattle.sg_keeper.specs.declared.setup.Setup.{Setup}
use Rattle.sg_histories.specs.Histories.{Entry}
use Rattle.sg_histories.specs.Lawful.{Lawful}
use Rattle.sg_talk.specs.Laws.{GrowsTo}
use Rattle.sg_talk.proofs.Growing.{IsLater, later_on, same_later}
use Rattle.sg_talk.proofs.Keeping.{talks_keep}
use Rattle.sg_clerk.specs.Asking.{Exchanging, TalkBy}
use Rattle.sg_clerk.specs.Laws.{KeepsRecord, TalksKeepRecord}
use Rattle.sg_clerk.specs.Shown.{posted_of}
use Rattle.sg_clerk.proofs.Staying.{record_stays}

-- a lawful history that a history grew to keeps what was posted
grown_keeps : (setup : Setup) (history next : List Entry) → Lawful setup next → GrowsTo history next → KeepsRecord setup history next
grown_keeps setup history next lawful grows =
    let stays = record_stays setup history grows.0 (subst (Lawful setup) grows.1 lawful) in
    record { lawful = lawful; grows = grows; posted = (stays.0, ap (posted_of setup) grows.1 ∙ stays.1) }

pub talks_keep_record : TalksKeepRecord
talks_keep_record setup exchanges history next lawful talk =
    let keeps = talks_keep setup exchanges history next lawful talk in
    grown_keeps setup history next keeps.lawful keeps.grows

-- a talk leads to a later history, where each of its turns does
by_turns : {X Reply : Type 0} (kind : Exchanging X Reply) (setup : Setup) → ((one : X) (before after : List Entry) → Lawful setup before → kind.Turn setup one before after → IsLater setup before after)
    → (exchanges : List X) (history next : List Entry) → Lawful setup history → TalkBy kind setup exchanges history next → IsLater setup history next
by_turns kind setup later [] history next lawful talk = same_later setup history next lawful talk
by_turns kind setup later (one ∷ others) history next lawful talk =
    let step = later one history talk.0 lawful talk.1 in
    later_on setup history talk.0 next step (by_turns kind setup later others talk.0 next step.lawful talk.2)

-- and so it keeps what was accepted and posted
pub turns_keep : {X Reply : Type 0} (kind : Exchanging X Reply) (setup : Setup) → ((one : X) (before after : List Entry) → Lawful setup before → kind.Turn setup one before after → IsLater setup before after)
    → (exchanges : List X) (history next : List Entry) → Lawful setup history → TalkBy kind setup exchanges history next → KeepsRecord setup history next
turns_keep kind setup later exchanges history next lawful talk =
    let last = by_turns kind setup later exchanges history next lawful talk in
    grown_keeps setup history next last.lawful last.grows
