-- What was said and sent to what a connection's bytes come to.
use Rattle.std.specs.Prelude.{◌≡◌, ℕ, ◌+◌, ◌-◌, ◌^◌, ◌<◌, ◌≤◌, Bool, List, Option, option_map}
use Rattle.sg_links.specs.Board.{Board, SendsFront, gets, on_current}
use Rattle.sg_keeper.specs.declared.rows.Rows.{Rows}
use Rattle.sg_keeper.specs.declared.setup.Setup.{Setup}
use Rattle.sg_talk.specs.declared.answered.Answered.{Answered}
use Rattle.sg_histories.specs.Histories.{Entry}
use Rattle.sg_histories.specs.KeptRows.{rows_of}
use Rattle.sg_histories.specs.Standing.{StandsFor}
use Rattle.sg_histories.specs.declared.kept.Kept.{Kept}
use Rattle.sg_http.specs.declared.serving.Served.{Served}
use Rattle.sg_http.specs.declared.serving.Served.TheVariants as served
use Rattle.sg_http.specs.Leads.{Lead}
use Rattle.sg_http.specs.Visits.{Due, Ends, IsSaid, IsSent, stored, text_of}

-- what the office said after this history
pub record HasSaid (setup : Setup) (office : Kept) (tells : Type 0) (rows after : Rows) (lead : Lead) (said : Option Answered) (history : List Entry) (faults later : ℕ) : Type 0 where
  pub next : List Entry
  pub says : IsSaid setup lead said history next
  pub stands : StandsFor office next
  pub kept : tells → (text : List ℕ) → rows ≡ rows_of setup text history → after ≡ rows_of setup text next
  pub stores : later < 2 ^ 64 - 1 → faults + stored said ≤ later

-- an answer was put on the current connection: the due one, or the one for want of memory
abbrev pub Sends : Served → Option Board → Option Board → Option Due → Type 0
Sends (served.Answered status) old new due =
    (answer : Due) × IsSent due answer × (status ≡ answer.status) × (new ≡ option_map (on_current (gets (text_of answer))) old)
Sends served.WriteFailed old new due = (answer : Due) × IsSent due answer × SendsFront old new (text_of answer)
Sends served.ReadFailed old new due = ⊥
Sends served.Gone old new due = ⊥

-- what was said and sent after this history, to bytes that were taken before
pub record Responds (how : Served) (setup : Setup) (office : Kept) (history : List Entry) (tells : Type 0) (rows after : Rows) (taken : List ℕ) (is_ended : Bool) (old new : Option Board) (faults later : ℕ) : Type 0 where
  pub sent : List ℕ
  pub said : Option Answered
  pub next : List Entry
  pub board : new ≡ option_map (on_current (gets sent)) old
  pub ends : Ends how setup taken is_ended sent said history next
  pub stands : StandsFor office next
  pub kept : tells → (text : List ℕ) → rows ≡ rows_of setup text history → after ≡ rows_of setup text next
  pub stores : later < 2 ^ 64 - 1 → faults + stored said ≤ later
