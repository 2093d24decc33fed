-- What is found of all parts.
use Rattle.std.specs.Prelude.{◌≡◌, ℕ, ◌+◌, ◌<◌, List, [], ◌∷◌, ◌++◌, length, codes}
use Rattle.sg_outside.specs.declared.outcome.Outcome.{Outcome}
use Rattle.sg_outside.specs.declared.outcome.Outcome.TheVariants.{Done, Refused}
use Rattle.sg_grammar.specs.Due.{each}
use Rattle.sg_parts.specs.Given.{AreParts, Given, IsGiven, completion_of}
use Rattle.sg_odds.specs.Answers.{IsBound, IsFirstLacking}
use Rattle.sg_odds.specs.declared.found.OddsFound.TheVariants as odds
use Rattle.sg_recount.specs.Findings.{AreFindings, AreSumsBound}
use Rattle.sg_recount.specs.declared.findings.Findings.{Findings}
use Rattle.sg_reports.specs.court.Odds.{IsFullRace, OddsDue, exponent_of}
use Rattle.sg_reports.specs.court.Recounts.{RecountDue, findings_text}
use Rattle.sg_reports.specs.court.Texts.{numbers_line}
use Rattle.sg_reports.specs.declared.court.exponents.Exponents.{Exponents}
use Rattle.sg_reports.specs.declared.court.exponents.Exponents.TheVariants as exponents
use Rattle.sg_reports.specs.declared.court.exponents.Lacking.{Lacking}
use Rattle.sg_reports.specs.declared.court.found.Found.{Found}
use Rattle.sg_reports.specs.declared.court.found.Found.TheVariants as found
use Rattle.sg_reports.specs.declared.court.found.Question.{Question}
use Rattle.sg_reports.specs.declared.court.found.Question.TheVariants.{Odds, Recount}

-- what is due of the lines of an input, by what is asked
abbrev pub due_of : Question → List (List ℕ) → Outcome → List ℕ → Type 0
due_of Recount = RecountDue
due_of Odds = OddsDue

-- what a recount finds
pub record IsFoundIn (given : Given) (findings : Findings) : Type 0 where
  pub parts : AreParts given
  pub are : AreFindings given findings
  pub bound : AreSumsBound given findings

-- these are the exponents of so many races
pub record HasExponents (given : Given) (count : ℕ) (values : List ℕ) : Type 0 where
  pub parts : AreParts given
  pub full : (race : ℕ) → race < count → IsFullRace given race
  pub bound : (race : ℕ) → race < count → IsBound given (odds.Exponent (exponent_of given race))
  pub values_are : values ≡ each (λ race. exponent_of given race ∷ []) 0 count

-- this is the first row that is lacking
pub record IsLackingIn (given : Given) (lacking : Lacking) : Type 0 where
  pub parts : AreParts given
  pub within : lacking.race < length given.posted.plan.races
  pub before : (race : ℕ) → race < lacking.race → IsFullRace given race
  pub first : IsFirstLacking given.posted.plan (completion_of given.rows) lacking.race lacking.instance lacking.row

-- all exponents, or that row
abbrev pub HasOdds : Given → Exponents → Type 0
HasOdds given (exponents.All values) = HasExponents given (length given.posted.plan.races) values
HasOdds given (exponents.NotFull lacking) = IsLackingIn given lacking

-- what is found of all parts
abbrev pub IsFound : Given → Question → Found → Type 0
IsFound given Recount (found.Findings findings) = IsFoundIn given findings
IsFound given Odds (found.Exponents these) = HasOdds given these
IsFound given _ _ = ⊥

-- of the lines of an input
pub record FindsAll (lines : List (List ℕ)) (question : Question) (what : Found) : Type 0 where
  pub given : Given
  pub is_given : IsGiven lines given
  pub is_found : IsFound given question what

-- a line for each exponent, from that of one race on
abbrev pub values_text : ℕ → List ℕ → List ℕ
values_text race [] = []
values_text race (value ∷ values) = numbers_line (codes "exponent") (race ∷ value ∷ []) ++ values_text (race + 1) values

-- what is due for what is found: an outcome, and a text
abbrev pub odds_outcome : Exponents → Outcome
odds_outcome (exponents.All values) = Done
odds_outcome (exponents.NotFull lacking) = Refused

abbrev pub odds_text : Exponents → List ℕ
odds_text (exponents.All values) = values_text 0 values
odds_text (exponents.NotFull lacking) = numbers_line (codes "refused full") (lacking.race ∷ lacking.instance ∷ lacking.row ∷ [])

abbrev pub found_outcome : Found → Outcome
found_outcome (found.Findings findings) = Done
found_outcome (found.Exponents these) = odds_outcome these

abbrev pub found_text : Found → List ℕ
found_text (found.Findings findings) = findings_text findings
found_text (found.Exponents these) = odds_text these
