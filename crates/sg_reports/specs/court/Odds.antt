-- What is due of the same lines for the odds (this project's rules for the odds).
use Rattle.std.specs.Prelude.{◌≡◌, ℕ, ◌<◌, ◌⊎◌, List, [], ◌∷◌, length, codes}
use Rattle.sg_outside.specs.declared.outcome.Outcome.{Outcome}
use Rattle.sg_outside.specs.declared.outcome.Outcome.TheVariants.{Done, No, Refused}
use Rattle.sg_grammar.specs.Due.{each}
use Rattle.sg_record.specs.Places.{places_in}
use Rattle.sg_parts.specs.Given.{AreParts, Given, IsGiven, completion_of}
use Rattle.sg_odds.specs.Answers.{IsFirstLacking, IsRaceFull}
use Rattle.sg_odds.specs.Coins.{FewGetYes, before_draw}
use Rattle.sg_odds.specs.Odds.{exponent}
use Rattle.sg_reports.specs.court.Recounts.{IsFaulty}
use Rattle.sg_reports.specs.court.Texts.{numbers_line}

-- no row of the race is lacking
abbrev pub IsFullRace : Given → ℕ → Type 0
IsFullRace given race = IsRaceFull given.posted.plan (completion_of given.rows) race

-- the exponent of a race's odds
abbrev pub exponent_of : Given → ℕ → ℕ
exponent_of given race = exponent given.posted.plan (places_in given.posted) (completion_of given.rows) race

-- `exponent RACE EXPONENT`, for so many races
abbrev pub exponents_text : Given → ℕ → List ℕ
exponents_text given count = each (λ race. numbers_line (codes "exponent") (race ∷ exponent_of given race ∷ [])) 0 count

-- the lines are those of a recount, and no row of any race is lacking; the text is the exponents; and at most one in two to
-- each of them, of all lists of coins, gets yes behind the record's first two sections, with these openings
pub record FindsOdds (lines : List (List ℕ)) (text : List ℕ) : Type 0 where
  pub given : Given
  pub is_given : IsGiven lines given
  pub parts : AreParts given
  pub full : (race : ℕ) → race < length given.posted.plan.races → IsFullRace given race
  pub bound : (race : ℕ) → race < length given.posted.plan.races
      → FewGetYes given.posted.plan (before_draw (places_in given.posted)) (completion_of given.rows) (exponent_of given race)
  pub text_is : text ≡ exponents_text given (length given.posted.plan.races)

-- the lines are those of a recount, and this is the first row of the first race that has one lacking
pub record LacksRow (lines : List (List ℕ)) (text : List ℕ) : Type 0 where
  pub given : Given
  pub is_given : IsGiven lines given
  pub parts : AreParts given
  pub race : ℕ
  pub instance : ℕ
  pub row : ℕ
  pub within : race < length given.posted.plan.races
  pub before : (earlier : ℕ) → earlier < race → IsFullRace given earlier
  pub first : IsFirstLacking given.posted.plan (completion_of given.rows) race instance row
  pub text_is : text ≡ numbers_line (codes "refused full") (race ∷ instance ∷ row ∷ [])

-- the outcome and the text of the odds: the work is done, and the exponents; or it is refused, and the first row that is
-- lacking; or the line for a fault
abbrev pub OddsDue : List (List ℕ) → Outcome → List ℕ → Type 0
OddsDue lines Done text = FindsOdds lines text
OddsDue lines No text = IsFaulty lines No text
OddsDue lines Refused text = LacksRow lines text ⊎ IsFaulty lines Refused text
OddsDue lines _ text = ⊥
