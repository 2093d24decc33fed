-- What the desk's private functions have read. Only clauses of private functions cite this.
use Rattle.std.specs.Prelude.{◌≡◌, ℕ, ◌+◌, ◌<◌, ◌≤◌, Bool, true, false, List, [], length, take, slice_range}
use Rattle.sg_plan.specs.Limits.{longest_ask}
use Rattle.httparse.specs.declared.spans.HeaderSpan.{HeaderSpan}
use Rattle.httparse.specs.Spans.{IsRequestWithin, IsRequestOf}
use Rattle.sg_http.specs.declared.heads.Found.{Found}
use Rattle.sg_http.specs.declared.heads.Found.TheVariants as found
use Rattle.sg_http.specs.declared.body.Came.{Came}
use Rattle.sg_http.specs.declared.body.Came.TheVariants as came
use Rattle.sg_http.specs.declared.asking.Asked.{Asked}
use Rattle.sg_http.specs.declared.asking.Asked.TheVariants as asks
use Rattle.sg_http.specs.declared.hearing.Way.{Way}
use Rattle.sg_http.specs.declared.hearing.Way.TheVariants as way
use Rattle.sg_http.specs.Leads.{HasNoHead, IsUnheard, LeadTo, RefusesHead}
use Rattle.sg_http.specs.Leads.Lead.{Refused, Posts, Sees}

-- the next `count` bytes came behind the first `end` of a buffer, and none only at the connection's end
pub record HasRead (old new : List ℕ) (end limit count : ℕ) : Type 0 where
  pub bounds : end + count ≤ limit
  pub front : take end new ≡ take end old
  pub same : length new ≡ length old

-- what is said of the bytes read of a connection, up to the end of its head
abbrev pub FindsHead : Found → List ℕ → List HeaderSpan → Bool → Type 0
FindsHead (found.Head spans) bytes headers is_ended = IsRequestWithin bytes headers spans × IsRequestOf bytes headers spans × (is_ended ≡ false)
FindsHead (found.Refused fault) bytes headers is_ended = RefusesHead fault bytes is_ended
FindsHead found.Gone bytes headers is_ended = (bytes ≡ []) × (is_ended ≡ true)
FindsHead found.Failed bytes headers is_ended = HasNoHead bytes × (is_ended ≡ false)

-- what is said of the bytes read up to `end`, where `goal` bytes were wanted
abbrev pub EndsBody : Came → ℕ → ℕ → Bool → Type 0
EndsBody came.All end goal is_ended = (goal ≤ end) × (is_ended ≡ false)
EndsBody came.Part end goal is_ended = (end < goal) × (is_ended ≡ true)
EndsBody came.Failed end goal is_ended = (end < goal) × (is_ended ≡ false)

-- a body that is asked for is no longer than the limit
abbrev pub HasFewBytes : Asked → Type 0
HasFewBytes (asks.Body n) = n ≤ longest_ask
HasFewBytes (asks.Refused fault) = Unit {0}
HasFewBytes (asks.Sees look) = Unit {0}

-- what is said of the bytes read of a connection, up to the end of its request
abbrev pub Hears : Way → List ℕ → Bool → Type 0
Hears (way.Refused fault) bytes is_ended = LeadTo bytes is_ended (Refused fault)
Hears (way.Posts start end) bytes is_ended =
    (start ≤ end) × (end ≤ length bytes) × LeadTo bytes is_ended (Posts (slice_range bytes start end))
Hears (way.Sees look) bytes is_ended = LeadTo bytes is_ended (Sees look)
Hears way.Gone bytes is_ended = (bytes ≡ []) × (is_ended ≡ true)
Hears way.Failed bytes is_ended = IsUnheard bytes × (is_ended ≡ false)
