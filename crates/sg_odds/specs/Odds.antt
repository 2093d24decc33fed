-- The law of the odds: how many lists of coins get yes with wrong totals (this project's rules for the record).
use Rattle.std.specs.Prelude.{◌≡◌, ◌≢◌, ℕ, zero, suc, ◌+◌, ◌-◌, ◌*◌, ◌%◌, ◌<◌, ◌≤◌, ◌==◌, ◌⊎◌, nat_le, min, max, Bool, true, false, ◌&&◌, ◌||◌, List, [], length, Some}
use Rattle.std.specs.Option.{option_map_or}
use Rattle.sg_commit.specs.declared.Opening.{Opening}
use Rattle.sg_plan.specs.Ballots.{candidates_of, entries_of, r_rows}
use Rattle.sg_plan.specs.declared.plan.Plan.{Plan}
use Rattle.sg_plan.specs.declared.plan.Side.{Side}
use Rattle.sg_plan.specs.declared.plan.Side.TheVariants as side
use Rattle.sg_grammar.specs.Placed.{Placed}
use Rattle.sg_grammar.specs.Placed.Placed.{TotalAt}
use Rattle.sg_grammar.specs.Lines.{IsAmong}
use Rattle.sg_record.specs.Formed.{is_formed}
use Rattle.sg_record.specs.Laws.{HasWords}
use Rattle.sg_record.specs.Places.{places_in}
use Rattle.sg_record.specs.declared.record.Record.{Record}
use Rattle.sg_check.specs.Completions.{Completion, IsCompletion, OpensNoneTwice, any_below, is_row_misprinted}
use Rattle.sg_check.specs.Facts.{is_full_draw, is_marked, points_to, public_bytes, half_commitment}
use Rattle.sg_check.specs.Kinds.{opens_digest, half_kind}
use Rattle.sg_check.specs.Printings.{AreCodesDifferent, Printing, count_below, posted_count}
use Rattle.sg_facts.specs.Totals.{total_of}
use Rattle.sg_parts.specs.Given.{IsAccepted}
use Rattle.sg_odds.specs.Coins.{FewGetYes, GetsYes, before_draw, coins_of}

-- the completion has no pointer at this half, or one of n or more, or one that an earlier row has on this side
abbrev pub is_half_lacking : Plan → Completion → Side → ℕ → ℕ → ℕ → Bool
is_half_lacking plan completion on race instance row =
    option_map_or (λ opening. nat_le (entries_of plan race) opening.value || any_below (λ earlier. points_to opening.value (completion on race instance earlier)) row) (completion on race instance row) true

abbrev pub is_lacking : Plan → Completion → ℕ → ℕ → ℕ → Bool
is_lacking plan completion race instance row = is_half_lacking plan completion side.Left race instance row || is_half_lacking plan completion side.Right race instance row

-- no row of the instance is lacking: its n pointers of a side are all numbers below n, each once
abbrev pub IsInstanceFull : Plan → Completion → ℕ → ℕ → Type 0
IsInstanceFull plan completion race instance = (row : ℕ) → row < entries_of plan race → is_lacking plan completion race instance row ≡ false

-- a completion with an opening at each half and all pointers once
pub record IsFullCompletion (plan : Plan) (lines : List Placed) (completion : Completion) : Type 0 where
  pub is_completion : IsCompletion plan lines completion
  pub full : (race instance : ℕ) → race < length plan.races → instance < plan.instances → IsInstanceFull plan completion race instance

-- what the completion opens a half with; a full one opens each
abbrev pub no_opening : Opening
no_opening = record { key = record { 0 = [] }; value = 0 }

abbrev pub half_of : Completion → Side → ℕ → ℕ → ℕ → Opening
half_of completion on race instance row = option_map_or (λ opening. opening) (completion on race instance row) no_opening

-- the row has the left pointer of a marked entry, and a right pointer to a place of the candidate
abbrev pub is_led : Plan → List Placed → Completion → ℕ → ℕ → ℕ → ℕ → Bool
is_led plan lines completion race instance candidate row =
    is_marked plan race (half_of completion side.Left race instance row).value lines
    && (half_of completion side.Right race instance row).value % candidates_of plan race == candidate

-- how many marked entries the rows of the instance lead to the candidate: a full completion has each entry on one row
abbrev pub led : Plan → List Placed → Completion → ℕ → ℕ → ℕ → ℕ
led plan lines completion race instance candidate = count_below (is_led plan lines completion race instance candidate) (entries_of plan race)

-- how far two numbers are apart
abbrev pub distance : ℕ → ℕ → ℕ
distance a b = (a - b) + (b - a)

-- the total of a candidate differs in each instance by at least so much from the marked entries that are led to it
abbrev pub IsOffBy : Plan → List Placed → Completion → ℕ → ℕ → ℕ → ℕ → Type 0
IsOffBy plan lines completion race candidate count least =
    (instance : ℕ) → instance < plan.instances → least ≤ distance count (led plan lines completion race instance candidate)

-- with a full completion, where a total is off by so much in each instance, at most one in two to this power, for each
-- instance, of all lists of coins gets yes
abbrev pub OddsBound : Type 0
OddsBound = (posted : Record) → HasWords posted → is_formed posted ≡ true
    → (completion : Completion) → IsFullCompletion posted.plan (places_in posted) completion
    → (race candidate count least : ℕ) → IsAmong (places_in posted) (TotalAt race candidate count)
    → IsOffBy posted.plan (places_in posted) completion race candidate count least
    → FewGetYes posted.plan (before_draw (places_in posted)) completion (least * posted.plan.instances)

-- where each marked entry's code is printed beside the candidate that its row leads to, as many are led to a candidate as
-- codes are posted for it
abbrev pub LedIsPosted : Type 0
LedIsPosted = (plan : Plan) (lines : List Placed) (completion : Completion) → IsFullCompletion plan lines completion
    → (printing : Printing) → AreCodesDifferent plan printing
    → (race instance candidate : ℕ) → race < length plan.races → instance < plan.instances → candidate < candidates_of plan race
    → ((row : ℕ) → row < entries_of plan race → is_row_misprinted plan lines completion printing race instance row ≡ false)
    → led plan lines completion race instance candidate ≡ posted_count plan lines printing race candidate

-- THE EXPONENT

-- the least of a number and of these
abbrev pub least_with : ℕ → (ℕ → ℕ) → ℕ → ℕ
least_with start value zero = start
least_with start value (suc count) = min (least_with start value count) (value count)

-- the greatest of these, and 0 where there is none
abbrev pub greatest_below : (ℕ → ℕ) → ℕ → ℕ
greatest_below value zero = 0
greatest_below value (suc count) = max (greatest_below value count) (value count)

-- how far the candidate's total is, in an instance, from the marked entries that are led to it
abbrev pub gap : Plan → List Placed → Completion → ℕ → ℕ → ℕ → ℕ
gap plan lines completion race candidate instance = distance (total_of lines race candidate) (led plan lines completion race instance candidate)

-- in the instance where it is nearest
abbrev pub least_gap : Plan → List Placed → Completion → ℕ → ℕ → ℕ
least_gap plan lines completion race candidate = least_with (gap plan lines completion race candidate 0) (gap plan lines completion race candidate) plan.instances

-- for each instance, the gap of the candidate that has the greatest
abbrev pub exponent : Plan → List Placed → Completion → ℕ → ℕ
exponent plan lines completion race = plan.instances * greatest_below (least_gap plan lines completion race) (candidates_of plan race)

-- with a full completion at most one in two to this power of all lists of coins gets yes
abbrev pub ExponentBound : Type 0
ExponentBound = (posted : Record) → HasWords posted → is_formed posted ≡ true
    → (completion : Completion) → IsFullCompletion posted.plan (places_in posted) completion
    → (race : ℕ) → race < length posted.plan.races
    → FewGetYes posted.plan (before_draw (places_in posted)) completion (exponent posted.plan (places_in posted) completion race)

-- A VERDICT OF YES

-- where the verdict on a record is yes and public bytes are drawn, their coins get yes, with each completion that it opens by
abbrev pub YesGetsYes : Type 0
YesGetsYes = (posted : Record) → IsAccepted posted → (public : List ℕ) → public_bytes (places_in posted) ≡ Some public
    → (completion : Completion) → OpensNoneTwice (places_in posted) completion
    → GetsYes (before_draw (places_in posted)) completion (coins_of public (places_in posted))

-- and where all is drawn, all lists of coins do
abbrev pub FullGetsYes : Type 0
FullGetsYes = (posted : Record) → IsAccepted posted → is_full_draw (places_in posted) ≡ true
    → (completion : Completion) → OpensNoneTwice (places_in posted) completion
    → (coins : List Side) → length coins ≡ r_rows posted.plan → GetsYes (before_draw (places_in posted)) completion coins

-- two openings of the commitment of one half
pub record IsOpenedTwice (lines : List Placed) : Type 0 where
  pub on : Side
  pub race : ℕ
  pub instance : ℕ
  pub row : ℕ
  pub one : Opening
  pub other : Opening
  pub differ : one ≢ other
  pub opens_one : opens_digest (half_commitment lines on race instance row) (half_kind on) race instance row one ≡ true
  pub opens_other : opens_digest (half_commitment lines on race instance row) (half_kind on) race instance row other ≡ true

-- and a record with the first two sections of another, on which the verdict is yes, opens by each full completion of that one,
-- or a commitment is opened twice
abbrev pub YesOpensSo : Type 0
YesOpensSo = (posted : Record) → HasWords posted → is_formed posted ≡ true
    → (completion : Completion) → IsFullCompletion posted.plan (places_in posted) completion
    → (other : Record) → IsAccepted other → before_draw (places_in other) ≡ before_draw (places_in posted)
    → OpensNoneTwice (places_in other) completion ⊎ IsOpenedTwice (places_in posted)

-- all of these laws
pub record OddsLaw : Type 0 where
  pub bound : OddsBound
  pub posted : LedIsPosted
  pub exponent : ExponentBound
  pub verdict : YesGetsYes
  pub drawn : FullGetsYes
  pub opens : YesOpensSo
