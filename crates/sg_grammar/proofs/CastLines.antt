-- A line that stays in the block of a cast ballot: where it stands, and where the block goes on behind it. What holds of
-- each such line, and of each that may follow the block, holds of the line that comes.
use Rattle.std.proofs.Common.{◌≡◌, ℕ, ◌+◌, ◌<◌, ◌==◌, nat_le, nat_lt, false, true, ◌&&◌, inl, inr, [], length, Option, Some, arith, refl, ap}
use Rattle.std.specs.Option.{option_map_or}
use Rattle.std.proofs.lemmas.Bool.{and_parts, leb-true, ltb-true}
use Rattle.std.proofs.lemmas.Option.{slice_get_cases}
use Rattle.sg_plan.proofs.PlanLaws.{ballot_has-true}
use Rattle.sg_plan.specs.Ballots.{ballot_has, candidates_of}
use Rattle.sg_plan.specs.declared.plan.Plan.{Plan}
use Rattle.sg_plan.specs.declared.plan.Race.{Race as PlanRace}
use Rattle.sg_forms.specs.Said.{Said}
use Rattle.sg_forms.specs.Said.Said.{Code, Over}
use Rattle.sg_forms.specs.Spelling.{IsInRange}
use Rattle.sg_forms.specs.declared.line.CodeLine.{CodeLine}
use Rattle.sg_grammar.proofs.Blocks.{codes-fall, overs-fall}
use Rattle.sg_grammar.proofs.Claims.{if_then-claim}
use Rattle.sg_grammar.specs.Coordinates.{IsRaceOf}
use Rattle.sg_grammar.specs.Left.{block_left, is_total_line}
use Rattle.sg_grammar.specs.Parting.{IsLineIn, clash}
use Rattle.sg_grammar.specs.Placed.{Placed}
use Rattle.sg_grammar.specs.Placed.Placed.{CodeAt, OverAt}
use Rattle.sg_grammar.specs.Walk.{Taken, after_block, behind, follows_in_order, in_cast, is_column, is_race_left, took}
use Rattle.sg_grammar.specs.declared.state.Block.TheVariants as block
use Rattle.sg_grammar.specs.declared.state.Part.TheVariants as part

-- a race of a ballot
pub race_of : (plan : Plan) (ballot race : ℕ) → race < length plan.races → ballot_has plan ballot race ≡ true → IsRaceOf plan ballot race
race_of plan ballot race a has = let is = ballot_has-true plan ballot race has in (a, is.first, is.last, has)

-- a race with a candidate
pub candidate_race : (plan : Plan) (race column : ℕ) → column < candidates_of plan race → race < length plan.races
candidate_race plan race column within = elim (slice_get_cases plan.races race).1 [
  | inl here ↦ here.1
  | inr past ↦
      let none : candidates_of plan race ≡ 0 = ap (λ (o : Option PlanRace). option_map_or (λ (r : PlanRace). length r.candidates) o 0) past.1 in
      absurd (omega (arith, none, within))
]

-- a line in its place, and the race and column from which the block goes on: it may bring fewer lines than before, the
-- line's numbers are in the plan, it bars no line, and it is no total
pub record Stays (plan : Plan) (ballot race column : ℕ) (said : Said) : Type 0 where
  pub placed : Placed
  pub next_race : ℕ
  pub next_column : ℕ
  pub fewer : block_left plan ballot next_race next_column < block_left plan ballot race column
  pub within : IsInRange plan.version said → IsLineIn plan placed
  pub free : (later : Placed) → clash placed later ≡ false
  pub no_total : is_total_line placed ≡ false

-- a code of a later column
code_stays : (plan : Plan) (ballot race column : ℕ) (code : CodeLine)
    → (is_column plan ballot code.race code.column && follows_in_order race column code.race code.column) ≡ true → Stays plan ballot race column (Code code)
code_stays plan ballot race column code ok =
    let parts = and_parts (is_column plan ballot code.race code.column) (follows_in_order race column code.race code.column) ok in
    let columns = and_parts (ballot_has plan ballot code.race) (nat_lt code.column (candidates_of plan code.race)) parts.0 in
    let below = ltb-true code.column (candidates_of plan code.race) columns.1 in
    let there = candidate_race plan code.race code.column below in
    let of = race_of plan ballot code.race there columns.0 in
    record {
      placed = CodeAt block.Cast ballot code.race code.column code;
      next_race = code.race;
      next_column = code.column + 1;
      fewer = codes-fall plan ballot race column code.race code.column columns.0 there below parts.1;
      within = (λ range. record { placed = (of.0, of.1, of.2, of.3, below); shown = range.3 });
      free = (λ later. refl);
      no_total = refl;
    }

-- that a race is over
over_stays : (plan : Plan) (ballot race column next_race : ℕ) → is_race_left plan ballot race next_race ≡ true → Stays plan ballot race column (Over next_race)
over_stays plan ballot race column next_race ok =
    let parts = and_parts (nat_lt next_race (length plan.races) && ballot_has plan ballot next_race) (nat_le race next_race) ok in
    let there = and_parts (nat_lt next_race (length plan.races)) (ballot_has plan ballot next_race) parts.0 in
    let below = ltb-true next_race (length plan.races) there.0 in
    record {
      placed = OverAt ballot next_race;
      next_race = next_race + 1;
      next_column = 0;
      fewer = overs-fall plan ballot race column next_race there.1 below (leb-true race next_race parts.1);
      within = (λ range. record { placed = race_of plan ballot next_race below there.1; shown = tt });
      free = (λ later. refl);
      no_total = refl;
    }

-- what holds of each line that may follow the block, and of each that stays in it, holds of the line that comes
pub cast-claim : (plan : Plan) (ballot race column : ℕ) (said : Said) (t : Taken) (C : Taken → Type 0) → (after_block plan ballot said ≡ Some t → C t)
    → ((line : Stays plan ballot race column said) → C (took line.placed (behind plan [] (part.Cast ballot line.next_race line.next_column))))
    → in_cast plan ballot race column said ≡ Some t → C t
unfolding code_stays over_stays
cast-claim plan ballot race column (Code code) t C follows stays e =
    if_then-claim C (is_column plan ballot code.race code.column && follows_in_order race column code.race code.column)
    (took (CodeAt block.Cast ballot code.race code.column code) (behind plan [] (part.Cast ballot code.race (code.column + 1)))) t
    (λ ok. stays (code_stays plan ballot race column code ok)) e
cast-claim plan ballot race column (Over next_race) t C follows stays e =
    if_then-claim C (is_race_left plan ballot race next_race) (took (OverAt ballot next_race) (behind plan [] (part.Cast ballot (next_race + 1) 0))) t
    (λ ok. stays (over_stays plan ballot race column next_race ok)) e
cast-claim plan ballot race column said t C follows stays e = follows e
