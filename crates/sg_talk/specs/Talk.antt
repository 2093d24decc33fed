-- A talk: what comes in, and what is answered to each.
--
-- `turn before ask reply after` says that, where `before` was accepted, the ask may get this reply, and that `after` is
-- then accepted. What is accepted is the office's own affair, so a talk is stated over any such relation.
use Rattle.std.specs.Prelude.{◌≡◌, ℕ, ◌+◌, List, [], ◌∷◌, Ok, Err}
use Rattle.sg_acts.specs.declared.asks.Ask.{Ask}
use Rattle.sg_acts.specs.declared.replies.Reply.{Reply}
use Rattle.sg_acts.specs.declared.replies.Reply.TheVariants as reply
use Rattle.sg_asks.specs.Asks.{asked}
use Rattle.sg_asks.specs.declared.asks.AskFault.TheVariants as fault
use Rattle.sg_talk.specs.declared.answered.Answered.{Answered}
use Rattle.sg_talk.specs.declared.answered.Answered.TheVariants as answered

-- the bytes of a line or of a request's body, and what is answered to them
pub record Exchange : Type 0 where
  pub bytes : List ℕ
  pub answer : Answered

-- the bytes get this answer: an ask by a turn; bytes that are no JSON or no ask are told so, and change nothing
abbrev pub Answers : {H : Type 0} → (H → Ask → Reply → H → Type 0) → ℕ → List ℕ → Answered → H → H → Type 0
Answers turn version bytes answered.NotJson before after = (asked version bytes ≡ Err fault.NotJson) × (after ≡ before)
Answers turn version bytes answered.Shape before after = (asked version bytes ≡ Err fault.Shape) × (after ≡ before)
Answers turn version bytes (answered.Reply reply) before after = (ask : Ask) × (asked version bytes ≡ Ok ask) × turn before ask reply after

-- the exchanges come one after another
abbrev pub Talk : {H : Type 0} → (H → Ask → Reply → H → Type 0) → ℕ → List Exchange → H → H → Type 0
Talk turn version [] before after = after ≡ before
Talk {H} turn version (exchange ∷ exchanges) before after = (middle : H) × Answers turn version exchange.bytes exchange.answer before middle × Talk turn version exchanges middle after

-- whether an answer says that the keeper failed: one or none
abbrev pub store_in : Answered → ℕ
store_in (answered.Reply reply.Store) = 1
store_in _ = 0

-- how many answers say that the keeper failed
abbrev pub stores_in : List Exchange → ℕ
stores_in [] = 0
stores_in (exchange ∷ exchanges) = store_in exchange.answer + stores_in exchanges
