-- What a turn of the office's talk makes of the bytes of an ask.
use Rattle.std.proofs.Common.{◌≡◌, ℕ, List}
use Rattle.std.specs.Prelude.{Ok}
use Rattle.sg_acts.specs.declared.asks.Ask.{Ask}
use Rattle.sg_acts.specs.declared.replies.Reply.{Reply}
use Rattle.sg_keeper.specs.declared.rows.Rows.{Rows}
use Rattle.sg_asks.specs.Asks.{asked}
use Rattle.sg_talk.specs.declared.answered.Answered.TheVariants as answered
use Rattle.sg_histories.specs.declared.kept.Kept.{Kept}
use Rattle.sg_histories.specs.Histories.{Entry}
use Rattle.sg_histories.specs.Standing.{IsAsk, Turned}
use Rattle.sg_talk.specs.Turns.{HasAnswered}

-- an ask was answered by a turn
pub answered_by : (old new : Kept) (tells : Type 0) (rows after : Rows) (bytes : List ℕ) (ask : Ask) (said : Reply) (history : List Entry)
    → asked old.setup.plan.version bytes ≡ Ok ask → IsAsk old.setup ask → Turned old new tells rows after ask said history → HasAnswered old.setup new tells rows after bytes (answered.Reply said) history
answered_by old new tells rows after bytes ask said history is comes turned =
    record { next = turned.next; answers = (ask, is, (comes, turned.turn)); stands = turned.stands; kept = turned.kept }
