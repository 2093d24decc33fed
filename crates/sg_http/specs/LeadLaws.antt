-- The laws of what the bytes of a connection lead to.
use Rattle.std.specs.Prelude.{◌≡◌, ℕ, Bool, true, List, [], ◌++◌}
use Rattle.httparse.specs.Grammar.{RequestHead}
use Rattle.sg_http.specs.declared.refusal.Refusal.{Refusal}
use Rattle.sg_http.specs.Leads.{IsWithinLimits, Lead, LedByHead, RefusesHead}

-- where a connection begins with a head within the limits, no front of it is refused as a head
abbrev pub HeadsAreRead : Type 0
HeadsAreRead = (taken more : List ℕ) (is_ended : Bool) (fault : Refusal) (head : RequestHead) (rest : List ℕ)
    → (is_ended ≡ true → more ≡ []) → IsWithinLimits (taken ++ more) head rest → RefusesHead fault taken is_ended → ⊥

-- a front of a connection that leads by its head to an answer leads to the one that the whole connection leads to
abbrev pub OneAnswer : Type 0
OneAnswer = (taken more : List ℕ) (is_ended : Bool) (lead all : Lead)
    → (is_ended ≡ true → more ≡ []) → LedByHead taken is_ended lead → LedByHead (taken ++ more) true all → lead ≡ all
