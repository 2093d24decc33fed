-- What a plan without a fault says of the words of its lines.
use Rattle.std.proofs.Common.{◌≡◌, ℕ, ◌+◌, ◌-◌, ◌≤◌, ◌&&◌, nat_lt, nat_le, true, inl, inr, Option, None, Some, All, List, [], ◌∷◌, get_or, length, arith}
use Rattle.sg_plan.proofs.LimitLaws.{keeps_limits, passes_tests}
use Rattle.sg_plan.proofs.LimitTests.{true-rises}
use Rattle.std.proofs.lemmas.Bool.{and_parts, leb-true, ltb-true}
use Rattle.std.proofs.lemmas.List.Elements.{All-nil}
use Rattle.std.proofs.lemmas.Option.{slice_get_cases}
use Rattle.std.specs.Option.{option_map_or}
use Rattle.sg_plan.proofs.PlanLaws.{bounds}
use Rattle.sg_plan.specs.Ballots.{candidates_of, races_of_style}
use Rattle.sg_plan.specs.Limits.{KeepsLimits, KeepsRace, KeepsStyle, fault_of, rises}
use Rattle.sg_plan.specs.declared.plan.Plan.{Plan}
use Rattle.sg_plan.specs.declared.plan.Style.{Style}
use Rattle.sg_forms.specs.Spelling.{FitsForm}
use Rattle.sg_record.specs.Lines.{style_line}
use Rattle.sg_record.specs.Writing.{IsVersion}
use Rattle.sg_record.specs.inside.Parts.{StyleFits}

-- there are few races
pub few_races : (plan : Plan) → fault_of plan ≡ None → length plan.races ≤ 32
few_races plan e = (bounds plan e).few_races

-- and few candidates
pub few_candidates : (plan : Plan) (race : ℕ) → fault_of plan ≡ None → candidates_of plan race ≤ 16
few_candidates plan race e = (bounds plan e).few_candidates race

-- the limits of the plan
pub limits_of : (plan : Plan) → fault_of plan ≡ None → KeepsLimits plan
limits_of plan e = keeps_limits plan (passes_tests plan e)

-- its version
pub version_of : (plan : Plan) → fault_of plan ≡ None → IsVersion plan.version
version_of plan e = (limits_of plan e).version

pub ruleset limit_facts = (version_of, few_races)

-- rising numbers below an end are few
rises_few : (least end : ℕ) (numbers : List ℕ) → rises least end numbers ≡ true → length numbers ≤ end - least
rises_few least end [] e = omega arith
rises_few least end (n ∷ ns) e =
    let parts = and_parts (nat_le least n && nat_lt n end) (rises (n + 1) end ns) e in
    let here = and_parts (nat_le least n) (nat_lt n end) parts.0 in
    let low = leb-true least n here.0 in
    let high = ltb-true n end here.1 in
    omega (arith, low, high, rises_few (n + 1) end ns parts.1)

-- a style of a plan with few races fits a line
style_fits_line : (count : ℕ) (style : Style) → count ≤ 32 → KeepsStyle count style → StyleFits style
style_fits_line count style few keeps =
    let rises = true-rises 0 count style.races (record { low = λ k d within. omega arith; high = keeps.races; rising = keeps.rising }) in
    record { name = keeps.name; some = keeps.one_race; most = omega (arith, few, rises_few 0 count style.races rises) }

pub styles_of : (plan : Plan) → fault_of plan ≡ None → All StyleFits plan.styles
styles_of plan e = λ k d within. style_fits_line (length plan.races) (get_or plan.styles k d) (limits_of plan e).most_races ((limits_of plan e).styles k d within)

-- the line of each style fits
pub styles_told : (version : ℕ) (styles : List Style) → All StyleFits styles → All (λ (style : Style). FitsForm version (style_line style)) styles
styles_told version styles fit = λ k d within. let it = fit k d within in (it.name, it.some, it.most)

pub races_of : (plan : Plan) → fault_of plan ≡ None → All KeepsRace plan.races
races_of plan e = (limits_of plan e).races

-- the races of a style have two candidates or more
style_two : (plan : Plan) → fault_of plan ≡ None → (style : ℕ) → All (λ race. 2 ≤ candidates_of plan race) (races_of_style plan style)
style_two plan e style =
    elim (slice_get_cases plan.styles style).1 [
      | inl here ↦
          let keeps : KeepsStyle (length plan.races) here.0 = rw here.3 at ((limits_of plan e).styles style here.0 here.1) in
          rw here.2 (λ k d within. (bounds plan e).two_candidates (get_or here.0.races k d) (keeps.races k d within))
      | inr past ↦ rw past.1 (All-nil (λ race. 2 ≤ candidates_of plan race))
    ]

-- and so have those of a ballot, by its style
pub ballot_two : (plan : Plan) → fault_of plan ≡ None → (style : Option ℕ) → All (λ race. 2 ≤ candidates_of plan race) (option_map_or (races_of_style plan) style [])
ballot_two plan e None = All-nil (λ race. 2 ≤ candidates_of plan race)
ballot_two plan e (Some style) = style_two plan e style
