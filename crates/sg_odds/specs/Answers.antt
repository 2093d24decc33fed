-- What is found of a race: the exponent of its odds, or the first row whose pointers aren't full (this project's rules for
-- the odds).
use Rattle.std.specs.Prelude.{◌≡◌, ℕ, ◌<◌, true, false, ◌⊎◌, List, length}
use Rattle.sg_plan.specs.declared.plan.Plan.{Plan}
use Rattle.sg_grammar.specs.Placed.{Placed}
use Rattle.sg_record.specs.Places.{places_in}
use Rattle.sg_check.specs.Completions.{Completion, IsHalfOf}
use Rattle.sg_parts.specs.Given.{Given, completion_of}
use Rattle.sg_odds.specs.Coins.{FewGetYes, before_draw}
use Rattle.sg_odds.specs.Odds.{IsInstanceFull, exponent, is_lacking}
use Rattle.sg_odds.specs.declared.found.OddsFound.{OddsFound}
use Rattle.sg_odds.specs.declared.found.OddsFound.TheVariants as odds

-- no row of the race is lacking
abbrev pub IsRaceFull : Plan → Completion → ℕ → Type 0
IsRaceFull plan completion race = (instance : ℕ) → instance < plan.instances → IsInstanceFull plan completion race instance

-- the first row of the race that is lacking: those of earlier instances, and the earlier ones of its own, aren't
pub record IsFirstLacking (plan : Plan) (completion : Completion) (race instance row : ℕ) : Type 0 where
  pub within : IsHalfOf plan race instance row
  pub lacking : is_lacking plan completion race instance row ≡ true
  pub before : (earlier at : ℕ) → IsHalfOf plan race earlier at → ((earlier < instance) ⊎ ((earlier ≡ instance) × (at < row))) → is_lacking plan completion race earlier at ≡ false

-- the exponent where no row is lacking, and else the first that is
abbrev pub IsFoundIn : Plan → List Placed → Completion → ℕ → OddsFound → Type 0
IsFoundIn plan lines completion race (odds.Exponent value) = IsRaceFull plan completion race × (value ≡ exponent plan lines completion race)
IsFoundIn plan lines completion race (odds.NotFull instance row) = IsFirstLacking plan completion race instance row

-- where no row of any race is lacking, at most one in two to the exponent of all lists of coins gets yes
abbrev pub IsBoundIn : Plan → List Placed → Completion → OddsFound → Type 0
IsBoundIn plan lines completion (odds.Exponent value) =
    ((race : ℕ) → race < length plan.races → IsRaceFull plan completion race) → FewGetYes plan (before_draw lines) completion value
IsBoundIn plan lines completion (odds.NotFull instance row) = Unit {0}

-- of a record's lines in their places, and of what is given of its rows
abbrev pub IsFound : Given → ℕ → OddsFound → Type 0
IsFound given race found = IsFoundIn given.posted.plan (places_in given.posted) (completion_of given.rows) race found

abbrev pub IsBound : Given → OddsFound → Type 0
IsBound given found = IsBoundIn given.posted.plan (places_in given.posted) (completion_of given.rows) found
