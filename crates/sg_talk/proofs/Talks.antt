-- Talks that go on by one exchange more.
use Rattle.std.proofs.Common.{ℕ, List, [], ◌∷◌, ◌++◌, refl, subst, arith}
use Rattle.sg_acts.specs.declared.asks.Ask.{Ask}
use Rattle.sg_acts.specs.declared.replies.Reply.{Reply}
use Rattle.sg_talk.specs.Laws.{StoresAreCounted}
use Rattle.sg_talk.specs.Talk.{Answers, Exchange, Talk}

-- a talk goes on by one exchange more
pub talks_go_on : {H : Type 0} (turn : H → Ask → Reply → H → Type 0) (version : ℕ) (exchanges : List Exchange) (exchange : Exchange) (before middle after : H)
    → Talk turn version exchanges before middle → Answers turn version exchange.bytes exchange.answer middle after → Talk turn version (exchanges ++ exchange ∷ []) before after
talks_go_on turn version [] exchange before middle after talked answers = (after, subst (λ m. Answers turn version exchange.bytes exchange.answer m after) talked answers, refl)
talks_go_on turn version (first ∷ exchanges) exchange before middle after talked answers =
    (talked.0, talked.1, talks_go_on turn version exchanges exchange talked.0 middle after talked.2 answers)

-- the answers that say that the keeper failed are counted one exchange after another
pub stores_are_counted : StoresAreCounted
stores_are_counted [] exchange = omega arith
stores_are_counted (first ∷ exchanges) exchange = let others = stores_are_counted exchanges exchange in omega (arith, others)
