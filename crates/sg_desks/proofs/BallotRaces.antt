-- The races of a ballot: each is one of the plan, and the ballot has it.
use Rattle.std.proofs.Common.{◌≡◌, ℕ, ◌<◌, true, false, inl, inr, [], All, length, get_or, Option, Some, None}
use Rattle.std.specs.Option.{option_map_or}
use Rattle.std.proofs.lemmas.List.Elements.{All-nil}
use Rattle.std.proofs.lemmas.Option.{slice_get_cases, slice_get-get_or}
use Rattle.sg_lists.proofs.Tests.{All-list_any, list_any-slice_get}
use Rattle.sg_plan.proofs.LimitLaws.{keeps_limits, passes_tests}
use Rattle.sg_plan.specs.Ballots.{ballot_has, races_of_ballot, races_of_style, style_has, style_of_ballot}
use Rattle.sg_plan.specs.Limits.{KeepsLimits, KeepsStyle, fault_of}
use Rattle.sg_plan.specs.declared.plan.Plan.{Plan}

-- the races of a style are races of the plan
style_races : (plan : Plan) → fault_of plan ≡ None → (style : ℕ) → All (λ race. race < length plan.races) (races_of_style plan style)
style_races plan fine style =
    let limits : KeepsLimits plan = keeps_limits plan (passes_tests plan fine) in
    elim (slice_get_cases plan.styles style).1 [
      | inl here ↦
          let keeps : KeepsStyle (length plan.races) here.0 = rw here.3 at (limits.styles style here.0 here.1) in
          rw here.2 keeps.races
      | inr past ↦ rw past.1 (All-nil (λ race. race < length plan.races))
    ]

-- a race that a ballot has is one of the plan
pub race_within : (plan : Plan) (ballot race : ℕ) → fault_of plan ≡ None → ballot_has plan ballot race ≡ true → race < length plan.races
race_within plan ballot race fine has = at (style_of_ballot plan ballot) has
  where
    at : (o : Option ℕ) → option_map_or (style_has plan race) o false ≡ true → race < length plan.races
    at None e = cc
    at (Some style) e = All-list_any (λ r. r < length plan.races) race (races_of_style plan style) e (style_races plan fine style)

pub has_races : (plan : Plan) (ballot : ℕ) → All (λ race. ballot_has plan ballot race ≡ true) (races_of_ballot plan ballot)
has_races plan ballot = at (style_of_ballot plan ballot)
  where
    at : (o : Option ℕ) → All (λ race. option_map_or (style_has plan race) o false ≡ true) (option_map_or (races_of_style plan) o [])
    at None = All-nil (λ race. option_map_or (style_has plan race) None false ≡ true)
    at (Some style) = λ k d within. list_any-slice_get (races_of_style plan style) k (get_or (races_of_style plan style) k d) (slice_get-get_or (races_of_style plan style) k d within)
