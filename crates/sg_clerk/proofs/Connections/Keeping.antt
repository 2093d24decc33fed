-- A talk over connections keeps what was accepted and posted.
use Rattle.std.proofs.Common.{ℕ, Bool, List, Option, Some, None, inl, inr}
use Rattle.sg_outside.specs.declared.outcome.Outcome.{Outcome}
use Rattle.sg_acts.specs.declared.asks.Ask.TheVariants as ask
use Rattle.sg_keeper.specs.declared.rows.Rows.{Rows}
use Rattle.sg_keeper.specs.declared.setup.Setup.{Setup}
use Rattle.sg_talk.specs.declared.answered.Answered.{Answered}
use Rattle.sg_histories.specs.Histories.{Entry}
use Rattle.sg_histories.specs.Lawful.{Lawful}
use Rattle.sg_talk.proofs.Growing.{IsLater, same_later, turn_later}
use Rattle.sg_talk.proofs.Keeping.{step_keeps}
use Rattle.sg_http.specs.Leads.{Lead}
use Rattle.sg_http.specs.Leads.Lead.{Posts, Refused, Sees}
use Rattle.sg_http.specs.Visits.{Ends, IsSaid}
use Rattle.sg_http.specs.declared.serving.Served.{Served}
use Rattle.sg_http.specs.declared.serving.Served.TheVariants as served
use Rattle.sg_clerk.specs.Outside.{Outside}
use Rattle.sg_clerk.specs.Laws.{KeepsPosted}
use Rattle.sg_clerk.proofs.Grown.{same_grows, talks_grow}
use Rattle.sg_clerk.proofs.Keeping.{turns_keep}
use Rattle.sg_clerk.specs.calls.Calls.{AreServed, by_calls, stores_in}
use Rattle.sg_clerk.specs.calls.Laws.{CallsKeepRecord}
use Rattle.sg_clerk.specs.calls.Says.{ServeSays}
use Rattle.sg_clerk.specs.calls.Serves.{CallsEnd, listening}

said_later : (setup : Setup) (lead : Lead) (said : Option Answered) (before after : List Entry) → Lawful setup before → IsSaid setup lead said before after → IsLater setup before after
said_later setup lead None before after lawful says = same_later setup before after lawful says
said_later setup (Refused fault) (Some answer) before after lawful says = absurd says
said_later setup (Posts body) (Some answer) before after lawful says =
    let step = step_keeps setup body answer before after lawful says in
    record { lawful = step.lawful; grows = step.grows }
said_later setup (Sees look) (Some answer) before after lawful says = turn_later setup before (ask.See look) says.0 after lawful says.2

ends_later : (how : Served) (setup : Setup) (taken : List ℕ) (is_ended : Bool) (sent : List ℕ) (said : Option Answered) (before after : List Entry)
    → Lawful setup before → Ends how setup taken is_ended sent said before after → IsLater setup before after
ends_later (served.Answered status) setup taken is_ended sent said before after lawful ends = said_later setup ends.lead said before after lawful ends.says
ends_later served.WriteFailed setup taken is_ended sent said before after lawful ends = said_later setup ends.lead said before after lawful ends.says
ends_later served.ReadFailed setup taken is_ended sent said before after lawful ends = same_later setup before after lawful ends.2.same
ends_later served.Gone setup taken is_ended sent said before after lawful ends = same_later setup before after lawful ends.2.same

pub calls_keep_record : CallsKeepRecord
calls_keep_record setup = turns_keep by_calls setup (λ call before after lawful turn.
    ends_later call.how setup call.taken call.is_ended call.sent call.said before after lawful turn.1)

-- `serve`
pub serve_grows : (result : Outcome) (port count : ℕ) (tells : Type 0) (rows rows' : Rows) (before now : Outside) → ServeSays result port count tells rows rows' before now → tells → KeepsPosted rows rows'
serve_grows result port count tells rows rows' before now (inl served) told =
    talks_grow AreServed stores_in (CallsEnd count (listening port before) now) result tells rows rows' before.keep_faults now.keep_faults calls_keep_record served told
serve_grows result port count tells rows rows' before now (inr (inl shut)) told = same_grows rows rows' (shut.1.same told)
serve_grows result port count tells rows rows' before now (inr (inr closed)) told = same_grows rows rows' (closed.same told)
