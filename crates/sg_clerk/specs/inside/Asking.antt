-- What became of one ask.
use Rattle.std.specs.Prelude.{◌≡◌, ℕ, ◌⊎◌, List, Result, Err}
use Rattle.sg_outside.specs.Streams.{Seen}
use Rattle.sg_keeper.specs.declared.rows.Rows.{Rows}
use Rattle.sg_keeper.specs.declared.setup.Setup.{Setup}
use Rattle.sg_histories.specs.declared.kept.Kept.{Kept}
use Rattle.sg_histories.specs.Histories.{Entry}
use Rattle.sg_clerk.specs.Asking.{AsksNoMore, Exchanging, RepliesNext}
use Rattle.sg_clerk.specs.Ends.{Refuses, WroteLine}
use Rattle.sg_clerk.specs.declared.asker.Stop.{Stop}
use Rattle.sg_clerk.specs.declared.asker.Stop.TheVariants as stop
use Rattle.sg_clerk.specs.declared.ended.Ending.{Ending}
use Rattle.sg_clerk.specs.declared.ended.Ending.TheVariants as ending

-- a talk ends so where no more comes, and nothing is written but the line of a refusal
abbrev pub Stops : Stop → Ending → Seen → Seen → Type 0
Stops stop.Done how out out' = (how ≡ ending.Done) × (out' ≡ out)
Stops stop.ReadFault how out out' = (how ≡ ending.ReadFault) × (out' ≡ out)
Stops stop.LinkFault how out out' = (how ≡ ending.LinkFault) × (out' ≡ out)
Stops (stop.Unfit why) how out out' = Refuses how why out.bytes out'.bytes out.faults out'.faults
Stops stop.NoMemory how out out' = (how ≡ ending.NoMemory) × (out' ≡ out)

-- the next ask was replied to, and its line was written or cut
pub record RepliesOne {X Reply : Type 0} (kind : Exchanging X Reply) (Came : List X → Type 0) (result : Result Unit Ending) (setup : Setup) (office : Kept)
    (tells : Type 0) (rows after : Rows) (faults faults' : ℕ) (out out' : Seen) (history : List Entry) (exchanges : List X) : Type 0 where
  pub reply : Reply
  pub replies : RepliesNext kind Came reply setup office tells rows after faults faults' history exchanges
  pub wrote : WroteLine result (kind.line setup.plan.version reply) out.bytes out'.bytes out.faults out'.faults

-- or there is none, and the talk ends
pub record EndsThere {X : Type 0} (Over : Stop → List X → Type 0) (result : Result Unit Ending) (office : Kept) (rows after : Rows) (faults faults' : ℕ)
    (out out' : Seen) (history : List Entry) (exchanges : List X) : Type 0 where
  pub how : Ending
  pub result_is : result ≡ Err how
  pub why : Stop
  pub asks : AsksNoMore Over why office rows after faults faults' history exchanges
  pub stops : Stops why how out out'

abbrev pub HasReplied : {X Reply : Type 0} → Exchanging X Reply → (Came : List X → Type 0) (Over : Stop → List X → Type 0) → Result Unit Ending → Setup → Kept
    → (tells : Type 0) → Rows → Rows → ℕ → ℕ → Seen → Seen → List Entry → List X → Type 0
HasReplied kind Came Over result setup office tells rows after faults faults' out out' history exchanges =
    RepliesOne kind Came result setup office tells rows after faults faults' out out' history exchanges
    ⊎ EndsThere Over result office rows after faults faults' out out' history exchanges
