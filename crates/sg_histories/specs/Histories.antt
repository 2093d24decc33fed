-- What an office has accepted, and what that tells of ballots, of the phase and of claims (this project's
-- rules for the office). A history is the list of its entries, the newest first.
use Rattle.std.specs.Prelude.{ℕ, ◌==◌, if◌then◌else◌, Bool, ◌&&◌, List, [], ◌∷◌, ◌++◌, Option, Some, None}
use Rattle.sg_plan.specs.declared.plan.Fate.{Fate}
use Rattle.sg_plan.specs.declared.plan.Fate.TheVariants as fate
use Rattle.sg_plan.specs.declared.plan.Stage.{Stage}
use Rattle.sg_plan.specs.declared.plan.Stage.TheVariants as stage
use Rattle.sg_acts.specs.declared.asks.Act.{Act}
use Rattle.sg_acts.specs.declared.asks.Act.TheVariants as act
use Rattle.sg_acts.specs.declared.replies.FateWord.{FateWord}
use Rattle.sg_acts.specs.declared.replies.FateWord.TheVariants as word
use Rattle.sg_acts.specs.declared.replies.Phase.{Phase}
use Rattle.sg_acts.specs.declared.replies.Phase.TheVariants as phase
use Rattle.sg_histories.specs.declared.kept.Claim.{Claim}

-- an accepted act, the station that asked for it, and the number that the station gave it
pub record Entry : Type 0 where
  pub station : ℕ
  pub number : ℕ
  pub act : Act

-- BALLOTS

-- a ballot's fate after an act
abbrev pub fate_after : ℕ → Act → Fate → Fate
fate_after ballot (act.Scan b marks) before = (if b == ballot then fate.Cast marks else before)
fate_after ballot (act.Spoil b) before = (if b == ballot then fate.Spoiled else before)
fate_after ballot (act.Audit b paper) before = (if b == ballot then fate.Audited paper else before)
fate_after ballot (act.Void b) before = (if b == ballot then fate.Voided else before)
fate_after ballot other before = before

-- the fate of a ballot: what the newest scan, spoil, audit or void of it says
abbrev pub fate_of : List Entry → ℕ → Fate
fate_of [] ballot = fate.Unused
fate_of (entry ∷ history) ballot = fate_after ballot entry.act (fate_of history ballot)

-- the station of a ballot's scan after an entry
abbrev pub scanner_after : ℕ → ℕ → Act → ℕ → ℕ
scanner_after ballot station (act.Scan b marks) before = (if b == ballot then station else before)
scanner_after ballot station other before = before

-- the scanning station of a ballot: that of the scan that names it, and 0 where none does
abbrev pub scanner_of : List Entry → ℕ → ℕ
scanner_of [] ballot = 0
scanner_of (entry ∷ history) ballot = scanner_after ballot entry.station entry.act (scanner_of history ballot)

-- a fate without its details
abbrev pub fate_word : Fate → FateWord
fate_word fate.Unused = word.Unused
fate_word (fate.Cast marks) = word.Cast
fate_word fate.Spoiled = word.Spoiled
fate_word (fate.Audited paper) = word.Audited
fate_word fate.Voided = word.Voided

-- PHASES

-- how far the election is after an act
abbrev pub stage_after : Act → Stage → Stage
stage_after act.Close before = stage.Closed
stage_after (act.Draw drawn) before = stage.Drawn drawn
stage_after other before = before

-- how far the election is: voting, closed after a close, drawn after a draw
abbrev pub stage_of : List Entry → Stage
stage_of [] = stage.Voting
stage_of (entry ∷ history) = stage_after entry.act (stage_of history)

-- a stage without its draw
abbrev pub phase_word : Stage → Phase
phase_word stage.Voting = phase.Voting
phase_word stage.Closed = phase.Closed
phase_word (stage.Drawn drawn) = phase.Drawn

abbrev pub phase_of : List Entry → Phase
phase_of history = phase_word (stage_of history)

-- CLAIMS

-- the claims after an act
abbrev pub claims_after : Act → List Claim → List Claim
claims_after (act.Claim b race code) before = before ++ record { ballot = b; race = race; code = code } ∷ []
claims_after other before = before

-- the claims, the oldest first
abbrev pub claims_of : List Entry → List Claim
claims_of [] = []
claims_of (entry ∷ history) = claims_after entry.act (claims_of history)

-- STAMPS

-- the station gave this entry the number
abbrev pub is_stamped : ℕ → ℕ → Entry → Bool
is_stamped station number entry = entry.station == station && entry.number == number

-- the act to which a station gave the number
abbrev pub act_of_stamp : List Entry → ℕ → ℕ → Option Act
act_of_stamp [] station number = None
act_of_stamp (entry ∷ history) station number = (if is_stamped station number entry then Some entry.act else act_of_stamp history station number)
