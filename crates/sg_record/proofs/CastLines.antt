-- The lines of a cast ballot: what the rules of the grammar and of words say of each of them. Elsewhere any line is taken alike.
use Rattle.std.proofs.Common.{◌≡◌, ℕ, ◌+◌, nat_lt, nat_le, Bool, false, true, ◌&&◌, List, [], ◌∷◌, length, Option, Some, None, refl, ap, ◌∙◌, arith, ◌==◌, sym}
use Rattle.std.proofs.lemmas.Bool.{and_parts, lt-ltb, ltb-true}
use Rattle.std.proofs.lemmas.Option.{cond_some, same_Some}
use Rattle.std.specs.Option.{is_some, option_map_or}
use Rattle.sg_plan.proofs.PlanLaws.{bounds}
use Rattle.sg_plan.specs.Ballots.{ballot_has, candidates_of, races_of_ballot}
use Rattle.sg_plan.specs.Codes.{codes_of, is_code}
use Rattle.sg_plan.specs.Limits.{fault_of}
use Rattle.sg_plan.specs.declared.plan.Plan.{Plan}
use Rattle.sg_forms.specs.Spelling.{FitsForm, IsInRange, IsNumber}
use Rattle.sg_forms.specs.declared.line.CodeLine.{CodeLine}
use Rattle.sg_forms.specs.Said.{Said}
use Rattle.sg_forms.specs.Said.Said.{Code, Over}
use Rattle.sg_grammar.proofs.Making.{candidates_within}
use Rattle.sg_grammar.specs.Head.{if_then}
use Rattle.sg_grammar.specs.Walk.{Taken, after_block, behind, follows_in_order, in_cast, is_column, is_race_left, took}
use Rattle.sg_grammar.specs.declared.state.Part.TheVariants as part
use Rattle.sg_record.specs.Formed.{are_cast}
use Rattle.sg_record.specs.Tree.{behind_cast, cast_place, cast_said}
use Rattle.sg_record.specs.Typed.{HasCastKey}
use Rattle.sg_record.specs.inside.Gathering.{added, last_with, with_cast}
use Rattle.sg_record.specs.declared.record.CastLine.{CastLine}
use Rattle.sg_record.specs.declared.record.CastLine.TheVariants as cast
use Rattle.sg_record.specs.declared.record.Record.{Record}
use Rattle.std.specs.List.{list_any}
use Rattle.sg_plan.proofs.FateLists.{has_among}
use Rattle.sg_record.proofs.Limits.{few_candidates, few_races}

-- WHAT ITS TEST SAYS

pub ruleset marks = (has_among, few_candidates, few_races)

-- the test of a code, by the ballot's races
code_test : (plan : Plan) (ballot race column : ℕ) (races : List ℕ) (code : CodeLine) → races ≡ races_of_ballot plan ballot
    → (((list_any (λ carried. carried == code.race) races && nat_lt code.column (candidates_of plan code.race)) && follows_in_order race column code.race code.column) && is_code plan code.code)
    ≡ ((is_column plan ballot code.race code.column && follows_in_order race column code.race code.column) && is_code plan code.code)
code_test plan ballot race column races code same =
    ap (λ (b : Bool). ((b && nat_lt code.column (candidates_of plan code.race)) && follows_in_order race column code.race code.column) && is_code plan code.code)
    (ap (list_any (λ carried. carried == code.race)) same ∙ sym (has_among plan ballot code.race))

-- what may come behind a code, by whether it may stand
pub code_behind : (plan : Plan) (ballot race column : ℕ) (races : List ℕ) (code : CodeLine) (test : Bool) → races ≡ races_of_ballot plan ballot
    → test ≡ (((list_any (λ carried. carried == code.race) races && nat_lt code.column (candidates_of plan code.race)) && follows_in_order race column code.race code.column) && is_code plan code.code)
    → if_then test (code.race, code.column + 1) ≡ behind_cast plan ballot race column (cast.Code code)
code_behind plan ballot race column races code test same is =
    ap (λ (b : Bool). if_then b (code.race, code.column + 1)) (is ∙ code_test plan ballot race column races code same)

-- and behind a race of which no mark counts
pub race_behind : (plan : Plan) (ballot least race : ℕ) (races : List ℕ) (test : Bool) → races ≡ races_of_ballot plan ballot
    → test ≡ ((nat_lt race (length plan.races) && list_any (λ carried. carried == race) races) && nat_le least race)
    → if_then {A = ℕ × ℕ} test (race + 1, 0) ≡ if_then (is_race_left plan ballot least race) (race + 1, 0)
race_behind plan ballot least race races test same is =
    ap (λ (b : Bool). if_then {A = ℕ × ℕ} b (race + 1, 0))
    (is ∙ ap (λ (b : Bool). (nat_lt race (length plan.races) && b) && nat_le least race) (ap (list_any (λ carried. carried == race)) same ∙ sym (has_among plan ballot race)))

-- WHAT EACH LINE IS

-- the line that is told, if it is one of a cast ballot
abbrev pub cast_of : Said → Option CastLine
cast_of (Code code) = Some (cast.Code code)
cast_of (Over race) = Some (cast.Over race)
cast_of said = None

-- where it may stand, from this race and column on
abbrev pub may_stand : Plan → ℕ → ℕ → ℕ → CastLine → Bool
may_stand plan ballot race column (cast.Code code) = is_column plan ballot code.race code.column && follows_in_order race column code.race code.column
may_stand plan ballot race column (cast.Over over) = is_race_left plan ballot race over

-- the race and the column from which on the next one is
abbrev pub next_of : CastLine → ℕ × ℕ
next_of (cast.Code code) = (code.race, code.column + 1)
next_of (cast.Over over) = (over + 1, 0)

-- its code is of the version, if it has one
abbrev pub has_code : Plan → CastLine → Bool
has_code plan (cast.Code code) = is_code plan code.code
has_code plan line = true

-- what is told of it, and it of what is told
pub cast_of-said : (line : CastLine) → cast_of (cast_said line) ≡ Some line
cast_of-said (cast.Code code) = refl
cast_of-said line = refl

pub cast_of-is : (said : Said) (line : CastLine) → cast_of said ≡ Some line → said ≡ cast_said line
cast_of-is (Code code) line e = ap cast_said (same_Some (cast.Code code) line e)
cast_of-is (Over race) line e = ap cast_said (same_Some (cast.Over race) line e)
cast_of-is said line e = cc

-- WHERE IT IS TAKEN

-- what it leads to
abbrev pub taken_of : Plan → ℕ → CastLine → Taken
taken_of plan ballot line = took (cast_place ballot line) (behind plan [] (part.Cast ballot (next_of line).0 (next_of line).1))

pub in_cast-line : (plan : Plan) (ballot race column : ℕ) (line : CastLine)
    → in_cast plan ballot race column (cast_said line) ≡ if_then (may_stand plan ballot race column line) (taken_of plan ballot line)
in_cast-line plan ballot race column (cast.Code code) = refl
in_cast-line plan ballot race column line = refl

-- any other line is taken as behind the block
pub cast-other : (plan : Plan) (ballot race column : ℕ) (said : Said) → is_some (cast_of said) ≡ false → in_cast plan ballot race column said ≡ after_block plan ballot said
cast-other plan ballot race column (Code code) other = cc
cast-other plan ballot race column (Over race_over) other = cc
cast-other plan ballot race column said other = refl

-- a line that may stand, and what is behind it
pub record Stands (plan : Plan) (ballot race column : ℕ) (line : CastLine) (next : ℕ × ℕ) : Type 0 where
  pub place : may_stand plan ballot race column line ≡ true
  pub code : has_code plan line ≡ true
  pub behind : next_of line ≡ next

stands : (plan : Plan) (ballot race column : ℕ) (line : CastLine) (next : ℕ × ℕ) → behind_cast plan ballot race column line ≡ Some next → Stands plan ballot race column line next
stands plan ballot race column (cast.Code code) next e =
    let place = is_column plan ballot code.race code.column && follows_in_order race column code.race code.column in
    let found = cond_some (place && is_code plan code.code) (code.race, code.column + 1) next e in
    let parts = and_parts place (is_code plan code.code) found.0 in
    record { place = parts.0; code = parts.1; behind = found.1 }
stands plan ballot race column line next e =
    let found = cond_some (may_stand plan ballot race column line) (next_of line) next e in
    record { place = found.0; code = refl; behind = found.1 }

pub cast-taken : (plan : Plan) (ballot race column : ℕ) (line : CastLine) (next : ℕ × ℕ) → behind_cast plan ballot race column line ≡ Some next
    → in_cast plan ballot race column (cast_said line) ≡ Some (took (cast_place ballot line) (behind plan [] (part.Cast ballot next.0 next.1)))
cast-taken plan ballot race column line next e =
    let it = stands plan ballot race column line next e in
    in_cast-line plan ballot race column line
    ∙ rw it.place (ap (λ (n : ℕ × ℕ). Some (took (cast_place ballot line) (behind plan [] (part.Cast ballot n.0 n.1)))) it.behind)

-- ITS WORDS

cast-fits : (plan : Plan) (line : CastLine) → has_code plan line ≡ true → FitsForm plan.version (cast_said line)
cast-fits plan (cast.Code code) is = ltb-true code.code (codes_of plan.version) is
cast-fits plan line is = tt

pub cast-has_code : (plan : Plan) (line : CastLine) → IsInRange plan.version (cast_said line) → has_code plan line ≡ true
cast-has_code plan (cast.Code code) words = lt-ltb code.code (codes_of plan.version) words.3
cast-has_code plan line words = refl

-- a race that is left is one of few
in_races : (plan : Plan) (ballot least race : ℕ) → fault_of plan ≡ None → is_race_left plan ballot least race ≡ true → IsNumber race
in_races plan ballot least race fine left =
    let sides = and_parts (nat_lt race (length plan.races) && ballot_has plan ballot race) (nat_le least race) left in
    let within = ltb-true race (length plan.races) (and_parts (nat_lt race (length plan.races)) (ballot_has plan ballot race) sides.0).0 in
    omega (arith, within, (bounds plan fine).few_races)

-- they are of their kinds
pub cast-in_range : (plan : Plan) (ballot race column : ℕ) (line : CastLine) (next : ℕ × ℕ) → fault_of plan ≡ None → behind_cast plan ballot race column line ≡ Some next → HasCastKey line
    → IsInRange plan.version (cast_said line)
cast-in_range plan ballot race column (cast.Code code) next fine e key =
    let it = stands plan ballot race column (cast.Code code) next e in
    let sides = and_parts (is_column plan ballot code.race code.column) (follows_in_order race column code.race code.column) it.place in
    let below = ltb-true code.column (candidates_of plan code.race) (and_parts (ballot_has plan ballot code.race) (nat_lt code.column (candidates_of plan code.race)) sides.0).1 in
    let within = candidates_within plan code.race (omega (arith, below)) in
    let sizes = bounds plan fine in
    (omega (arith, within, sizes.few_races), omega (arith, below, sizes.few_candidates code.race), key, cast-fits plan (cast.Code code) it.code)
cast-in_range plan ballot race column (cast.Over over) next fine e key = in_races plan ballot race over fine (stands plan ballot race column (cast.Over over) next e).place

-- ONE LINE AFTER ANOTHER

-- what the first says, and that the others follow it
pub record FirstCast (plan : Plan) (ballot race column : ℕ) (line : CastLine) (lines : List CastLine) : Type 0 where
  pub next : ℕ × ℕ
  pub stands : behind_cast plan ballot race column line ≡ Some next
  pub code : FitsForm plan.version (cast_said line)
  pub others : are_cast plan ballot next.0 next.1 lines ≡ true

pub first_cast : (plan : Plan) (ballot race column : ℕ) (line : CastLine) (lines : List CastLine) → are_cast plan ballot race column (line ∷ lines) ≡ true → FirstCast plan ballot race column line lines
first_cast plan ballot race column line lines pass = behind_it (behind_cast plan ballot race column line) refl pass
  where
    behind_it : (o : Option (ℕ × ℕ)) → behind_cast plan ballot race column line ≡ o → option_map_or (λ next. are_cast plan ballot next.0 next.1 lines) o false ≡ true
        → FirstCast plan ballot race column line lines
    behind_it None e passes = cc
    behind_it (Some next) e passes = record { next = next; stands = e; code = cast-fits plan line (stands plan ballot race column line next e).code; others = passes }

-- a line before the others, where it may stand
pub line-before : (plan : Plan) (ballot race column : ℕ) (line : CastLine) (lines : List CastLine) → may_stand plan ballot race column line ≡ true → has_code plan line ≡ true
    → are_cast plan ballot (next_of line).0 (next_of line).1 lines ≡ true → are_cast plan ballot race column (line ∷ lines) ≡ true
line-before plan ballot race column (cast.Code code) lines place is pass = rw (place, is) pass
line-before plan ballot race column line lines place is pass = rw place pass

-- WHAT IT ADDS

pub line-added : (plan : Plan) (ballot : ℕ) (made : Record) (line : CastLine) (said : Said)
    → added plan made (cast_place ballot line) said ≡ record made { ballots = last_with (with_cast line) made.ballots }
line-added plan ballot made (cast.Code code) said = refl
line-added plan ballot made line said = refl
