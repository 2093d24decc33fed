-- Where nothing failed, an outcome tells no failure.
use Rattle.std.proofs.Common.{ℕ}
use Rattle.sg_outside.specs.Faults.{Rose}
use Rattle.sg_outside.specs.Outcomes.{TellsNoFailure}
use Rattle.sg_outside.specs.Streams.{Seen}
use Rattle.sg_outside.specs.declared.outcome.Outcome.{Outcome}
use Rattle.sg_outside.specs.declared.outcome.Outcome.TheVariants as outcome
use Rattle.sg_keeper.specs.declared.rows.Rows.{Rows}
use Rattle.sg_clerk.specs.Ends.{HasFailed, outcome_of}
use Rattle.sg_clerk.specs.Talks.{ClosedSays}
use Rattle.sg_clerk.specs.declared.ended.Ending.{Ending}
use Rattle.sg_clerk.specs.declared.ended.Ending.TheVariants as ending

-- of a relation that says so of no failure
pub well : (Says : Outcome → Type 0) (how : Outcome) → ¬ Says outcome.ReadFailed → ¬ Says outcome.WriteFailed → ¬ Says outcome.KeeperFailed → ¬ Says outcome.LinksFailed → Says how
    → TellsNoFailure how
well Says outcome.ReadFailed reads writes keeps links says = absurd (reads says)
well Says outcome.WriteFailed reads writes keeps links says = absurd (writes says)
well Says outcome.KeeperFailed reads writes keeps links says = absurd (keeps says)
well Says outcome.LinksFailed reads writes keeps links says = absurd (links says)
well Says _ reads writes keeps links says = tt

-- of a talk
pub talk_well : (how : Ending) (asks asks' writes writes' : ℕ) → HasFailed how asks asks' writes writes' → ¬ Rose asks asks' → ¬ Rose writes writes' → TellsNoFailure (outcome_of how)
talk_well ending.Done asks asks' writes writes' cause reads none = tt
talk_well ending.ReadFault asks asks' writes writes' cause reads none = absurd (reads cause)
talk_well (ending.WriteFault due) asks asks' writes writes' cause reads none = absurd (none cause)
talk_well ending.LinkFault asks asks' writes writes' cause reads none = absurd (reads cause)
talk_well (ending.Refused why) asks asks' writes writes' cause reads none = tt
talk_well ending.NoMemory asks asks' writes writes' cause reads none = tt

-- where no office was opened
pub closed_well : (how : Outcome) (tells : Type 0) (rows : Rows) (faults faults' : ℕ) (out out' : Seen) → ClosedSays how tells rows faults faults' out out' → ¬ Rose faults faults'
    → ¬ Rose out.faults out'.faults → TellsNoFailure how
closed_well how tells rows faults faults' out out' says keeps writes =
    well (λ result. ClosedSays result tells rows faults faults' out out') how (λ s. s) (λ s. writes s.cause) (λ s. keeps s.cause) (λ s. s) says
