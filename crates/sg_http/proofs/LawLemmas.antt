-- The laws of answers: a head within the limits is never refused as a head, and the bytes of a connection lead to one
-- answer, however many of them were taken.
use Rattle.std.proofs.Common.{◌≡◌, ◌⊎◌, inl, inr, ℕ, ◌+◌, ◌<◌, ◌≤◌, Bool, true, List, [], ◌++◌, length, refl, sym, ap, subst, ◌∙◌, arith, length-append}
use Rattle.std.specs.Prelude.{◌==◌}
use Rattle.std.proofs.lemmas.List.{take-append-le}
use Rattle.std.proofs.lemmas.List.Sums.{count_by-le-length}
use Rattle.httparse.specs.Grammar.{RequestHead, ReadsRequest}
use Rattle.httparse.proofs.GrammarLemmas.{ReadsRequest-append, request_unique}
use Rattle.sg_http.specs.declared.refusal.Refusal.{Refusal}
use Rattle.sg_http.specs.declared.refusal.Refusal.TheVariants as refusal
use Rattle.sg_http.specs.declared.asking.Asked.{Asked}
use Rattle.sg_http.specs.declared.asking.Asked.TheVariants as asks
use Rattle.sg_http.specs.Leads.{HasNoHead, IsWithinLimits, IsHopeless, RefusesHead, LedByHead, LeadsBehind, Lead, asked_of, feeds}
use Rattle.sg_http.specs.Leads.Lead.{Posts}
use Rattle.sg_http.proofs.HeadLemmas.{head_in_front, feeds-append}

-- part of a head within the limits is not refused as a head
part : (taken more m rest : List ℕ) (is_ended : Bool) (fault : Refusal) → (is_ended ≡ true → more ≡ []) → more ≡ m ++ rest → 0 < feeds m
    → length (taken ++ more) ≤ 8192 + length rest → feeds (taken ++ more) ≤ 66 + feeds rest
    → (IsHopeless taken is_ended → ((length taken ≡ 8192) ⊎ (is_ended ≡ true))) → RefusesHead fault taken is_ended → ⊥
part taken more m rest is_ended refusal.Head at_end cut fed short lines causes p =
    let some : 0 < length m = omega (arith, fed, count_by-le-length (λ b. b == 10) m) in
    let size : length more ≡ length m + length rest = ap (λ (l : List ℕ). length l) cut ∙ length-append m rest in
    elim (causes p.1) [
      | inl full ↦ omega (arith, full, some, size, short, length-append taken more)
      | inr ended ↦ omega (arith, some, size, ap (λ (l : List ℕ). length l) (at_end ended))
    ]
part taken more m rest is_ended refusal.Headers at_end cut fed short lines causes p =
    omega (arith, p.1, lines, feeds-append taken more, ap feeds cut, feeds-append m rest)
part taken more m rest is_ended refusal.Route at_end cut fed short lines causes p = absurd p
part taken more m rest is_ended (refusal.Method verb) at_end cut fed short lines causes p = absurd p
part taken more m rest is_ended refusal.NoLength at_end cut fed short lines causes p = absurd p
part taken more m rest is_ended refusal.BadLength at_end cut fed short lines causes p = absurd p
part taken more m rest is_ended refusal.Size at_end cut fed short lines causes p = absurd p
part taken more m rest is_ended refusal.Body at_end cut fed short lines causes p = absurd p

no_head : (fault : Refusal) (taken : List ℕ) (is_ended : Bool) → RefusesHead fault taken is_ended → HasNoHead taken
no_head refusal.Head taken is_ended p = p.0
no_head refusal.Headers taken is_ended p = p.0
no_head refusal.Route taken is_ended p = absurd p
no_head (refusal.Method verb) taken is_ended p = absurd p
no_head refusal.NoLength taken is_ended p = absurd p
no_head refusal.BadLength taken is_ended p = absurd p
no_head refusal.Size taken is_ended p = absurd p
no_head refusal.Body taken is_ended p = absurd p

-- where a connection begins with a head within the limits, it is not refused as a head
pub within_limits : (taken more : List ℕ) (is_ended : Bool) (fault : Refusal) (head : RequestHead) (rest : List ℕ)
    → (is_ended ≡ true → more ≡ []) → IsWithinLimits (taken ++ more) head rest → RefusesHead fault taken is_ended → ⊥
within_limits taken more is_ended fault head rest at_end limits p = elim (head_in_front taken more head rest limits.has.reads) [
  | inl front ↦ omega (arith, no_head fault taken is_ended p head front.0 front.1, limits.has.few)
  | inr cut ↦ part taken more cut.0 rest is_ended fault at_end cut.2 cut.3 limits.short limits.lines (causes limits.has.reads) p
]
  where
    causes : ReadsRequest (taken ++ more) head rest → IsHopeless taken is_ended → ((length taken ≡ 8192) ⊎ (is_ended ≡ true))
    causes reads (inl never) = absurd (never more head rest reads)
    causes reads (inr (inl ended)) = inr ended.0
    causes reads (inr (inr full)) = inl full

-- what a head leads to it leads to when all bytes of the connection are known
all_behind : (asked : Asked) (rest more : List ℕ) (is_ended : Bool) (lead : Lead) → (is_ended ≡ true → more ≡ [])
    → LeadsBehind asked rest is_ended lead → LeadsBehind asked (rest ++ more) true lead
all_behind (asks.Refused fault) rest more is_ended lead at_end p = p
all_behind (asks.Sees look) rest more is_ended lead at_end p = p
all_behind (asks.Body n) rest more is_ended lead at_end (inl p) =
    inl (omega (arith, p.0, length-append rest more), p.1 ∙ ap Posts (sym (take-append-le n rest more p.0)))
all_behind (asks.Body n) rest more is_ended lead at_end (inr p) =
    inr (omega (arith, p.0, length-append rest more, ap (λ (l : List ℕ). length l) (at_end p.1)), refl, p.2)

pub led_by_all : (taken more : List ℕ) (is_ended : Bool) (lead : Lead) → (is_ended ≡ true → more ≡ [])
    → LedByHead taken is_ended lead → LedByHead (taken ++ more) true lead
led_by_all taken more is_ended lead at_end p = record {
  head = p.head;
  rest = p.rest ++ more;
  has = record { reads = ReadsRequest-append taken p.head p.rest more p.has.reads; few = p.has.few };
  leads = all_behind (asked_of p.head) p.rest more is_ended lead at_end p.leads;
}

-- all bytes of a connection lead to one answer
one_behind : (asked : Asked) (rest : List ℕ) (a b : Lead) → LeadsBehind asked rest true a → LeadsBehind asked rest true b → a ≡ b
one_behind (asks.Refused fault) rest a b p q = p ∙ sym q
one_behind (asks.Sees look) rest a b p q = p ∙ sym q
one_behind (asks.Body n) rest a b (inl p) (inl q) = p.1 ∙ sym q.1
one_behind (asks.Body n) rest a b (inl p) (inr q) = absurd (omega (arith, p.0, q.0))
one_behind (asks.Body n) rest a b (inr p) (inl q) = absurd (omega (arith, p.0, q.0))
one_behind (asks.Body n) rest a b (inr p) (inr q) = p.2 ∙ sym q.2

pub one_answer : (bytes : List ℕ) (a b : Lead) → LedByHead bytes true a → LedByHead bytes true b → a ≡ b
one_answer bytes a b p q =
    let same = request_unique bytes p.head q.head p.rest q.rest p.has.reads q.has.reads in
    one_behind (asked_of q.head) q.rest a b
    (subst (λ (rest : List ℕ). LeadsBehind (asked_of q.head) rest true a) same.1
    (subst (λ (head : RequestHead). LeadsBehind (asked_of head) p.rest true a) same.0 p.leads))
    q.leads
