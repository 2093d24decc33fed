-- To which answer the bytes of a connection lead.
use Rattle.std.specs.Prelude.{◌≡◌, ℕ, ◌+◌, ◌<◌, ◌≤◌, ◌==◌, ◌⊎◌, Bool, true, List, length, take, map, codes, Option, None, Some, Result, Ok, Err, if◌then◌else◌, count_by}
use Rattle.std.specs.Str.{bytes_eq}
use Rattle.sg_plan.specs.Limits.{longest_head, most_fields}
use Rattle.httparse.specs.Grammar.{RequestHead, ReadsRequest, NeverHasRequest}
use Rattle.httparse.specs.Spans.{name_and_value}
use Rattle.sg_http.specs.declared.refusal.Refusal.{Refusal}
use Rattle.sg_http.specs.declared.refusal.Refusal.TheVariants as refusal
use Rattle.sg_http.specs.declared.refusal.Verb.{Verb}
use Rattle.sg_http.specs.declared.refusal.Verb.TheVariants.{Get, Post}
use Rattle.sg_http.specs.declared.routes.Place.{Place}
use Rattle.sg_http.specs.declared.routes.Place.TheVariants as place
use Rattle.sg_acts.specs.declared.asks.Look.{Look}
use Rattle.sg_acts.specs.declared.asks.Look.TheVariants as look
use Rattle.sg_http.specs.declared.asking.Asked.{Asked}
use Rattle.sg_http.specs.declared.asking.Asked.TheVariants as asks
use Rattle.sg_http.specs.Lengths.{length_of}
use Rattle.sg_http.specs.Places.{path_of, place_of}

-- how many line feeds there are
abbrev pub feeds : List ℕ → ℕ
feeds bytes = count_by (λ b. b == 10) bytes

-- ---- what a head asks for, in the order in which it is refused

abbrev pub word_of : Verb → List ℕ
word_of Get = codes "GET"
word_of Post = codes "POST"

-- with another method than the route's it is refused
abbrev pub by_verb : Verb → RequestHead → Asked → Asked
by_verb verb head asked = if bytes_eq head.method (word_of verb) then asked else asks.Refused (refusal.Method verb)

abbrev pub sized : Result ℕ Refusal → Asked
sized (Ok n) = asks.Body n
sized (Err fault) = asks.Refused fault

abbrev pub asked_at : RequestHead → Option Place → Asked
asked_at head None = asks.Refused refusal.Route
asked_at head (Some place.Ask) = by_verb Post head (sized (length_of (map name_and_value head.fields)))
asked_at head (Some (place.Receipt ballot)) = by_verb Get head (asks.Sees (look.Receipt ballot))
asked_at head (Some place.Totals) = by_verb Get head (asks.Sees look.Totals)

abbrev pub asked_of : RequestHead → Asked
asked_of head = asked_at head (place_of (path_of head.target))

-- ---- what the bytes lead to

-- a refusal, a body that is an ask, or a look
pub data Lead : Type 0 where
  Refused : (fault : Refusal) → Lead
  Posts : (body : List ℕ) → Lead
  Sees : (look : Look) → Lead

-- what an ask and the bytes behind the head lead to
abbrev pub LeadsBehind : Asked → List ℕ → Bool → Lead → Type 0
LeadsBehind (asks.Refused fault) rest is_ended lead = lead ≡ Refused fault
LeadsBehind (asks.Sees look) rest is_ended lead = lead ≡ Sees look
LeadsBehind (asks.Body n) rest is_ended lead =
    ((n ≤ length rest) × (lead ≡ Posts (take n rest)))
    ⊎ ((length rest < n) × (is_ended ≡ true) × (lead ≡ Refused refusal.Body))

-- a head with at most 64 header lines stands at the front
pub record HasHead (bytes : List ℕ) (head : RequestHead) (rest : List ℕ) : Type 0 where
  pub reads : ReadsRequest bytes head rest
  pub few : length head.fields ≤ most_fields

-- no such head does
abbrev pub HasNoHead : List ℕ → Type 0
HasNoHead bytes = (head : RequestHead) (rest : List ℕ) → ReadsRequest bytes head rest → most_fields < length head.fields

-- for want of a head: no bytes that follow make one, or the connection ended, or as many bytes came as a head may have
abbrev pub IsHopeless : List ℕ → Bool → Type 0
IsHopeless bytes is_ended = NeverHasRequest bytes ⊎ ((is_ended ≡ true) × (0 < length bytes)) ⊎ (length bytes ≡ longest_head)

abbrev pub RefusesHead : Refusal → List ℕ → Bool → Type 0
RefusesHead refusal.Head bytes is_ended = HasNoHead bytes × IsHopeless bytes is_ended
RefusesHead refusal.Headers bytes is_ended = HasNoHead bytes × (66 < feeds bytes)
RefusesHead _ bytes is_ended = ⊥

pub record LedByHead (bytes : List ℕ) (is_ended : Bool) (lead : Lead) : Type 0 where
  pub head : RequestHead
  pub rest : List ℕ
  pub has : HasHead bytes head rest
  pub leads : LeadsBehind (asked_of head) rest is_ended lead

-- the bytes taken of a connection, and its end where that was read, lead to this
abbrev pub LeadTo : List ℕ → Bool → Lead → Type 0
LeadTo bytes is_ended lead =
    LedByHead bytes is_ended lead ⊎ ((fault : Refusal) × (lead ≡ Refused fault) × RefusesHead fault bytes is_ended)

-- a head within the limits stands at the front
pub record IsWithinLimits (bytes : List ℕ) (head : RequestHead) (rest : List ℕ) : Type 0 where
  pub has : HasHead bytes head rest
  pub short : length bytes ≤ longest_head + length rest
  pub lines : feeds bytes ≤ 66 + feeds rest

-- why a connection that failed has no answer yet: it has no head, or its body is not whole
abbrev pub IsUnheard : List ℕ → Type 0
IsUnheard bytes =
    HasNoHead bytes
    ⊎ ((head : RequestHead) × (rest : List ℕ) × (n : ℕ) × HasHead bytes head rest × (asked_of head ≡ asks.Body n) × (length rest < n))

-- ---- how many bytes are taken

-- a head within its bytes asks for a body, and no more bytes stand behind it than the body has
pub record IsWithinBody (taken : List ℕ) : Type 0 where
  pub head : RequestHead
  pub rest : List ℕ
  pub count : ℕ
  pub has : HasHead taken head rest
  pub asked : asked_of head ≡ asks.Body count
  pub short : length taken ≤ longest_head + length rest
  pub few : length rest ≤ count

-- no more are taken than a head may have, or, where the head asks for a body, none behind that body; so never more than
-- 73,728: a head's 8,192 and a body's 65,536
pub record TakesFew (taken : List ℕ) : Type 0 where
  pub most : length taken ≤ 73728
  pub only : (length taken ≤ longest_head) ⊎ IsWithinBody taken
