-- The rows of claims.
use Rattle.std.proofs.Common.{◌≡◌, ℕ, ◌^◌, nat_lt, Bool, true, false, ◌&&◌, cond, Option, Some, None, refl, arith}
use Rattle.std.specs.Option.{option_and_then, option_map}
use Rattle.std.proofs.lemmas.Bool.Decides.{nat_tests}
use Rattle.sg_plan.specs.Ballots.{ballot_has}
use Rattle.sg_plan.specs.Codes.{codes_of}
use Rattle.sg_plan.specs.Limits.{fault_of}
use Rattle.sg_plan.specs.declared.plan.Plan.{Plan}
use Rattle.sg_plan.proofs.PlanLaws.{bounds}
use Rattle.sg_desks.proofs.BallotRaces.{race_within}
use Rattle.sg_acts.specs.declared.asks.Act.TheVariants as act
use Rattle.sg_keeper.specs.declared.rows.ClaimRow.{ClaimRow}
use Rattle.sg_histories.specs.Answers.{is_ballot}
use Rattle.sg_histories.specs.ValidRows.{natural}
use Rattle.sg_histories.specs.declared.kept.Claim.{Claim}
use Rattle.sg_open.specs.inside.Telling.{act_claim, row_claim, small_of}

-- a race of a high number is none of a ballot
high_race : (plan : Plan) (ballot race : ℕ) → fault_of plan ≡ None → nat_lt race (2 ^ 32) ≡ false → ballot_has plan ballot race ≡ false
high_race plan ballot race limits high = by_test (ballot_has plan ballot race) refl
  where
    by_test : (b : Bool) → ballot_has plan ballot race ≡ b → b ≡ false
    by_test false e = refl
    by_test true e =
        let low = race_within plan ballot race limits e in
        let few = (bounds plan limits).few_races in
        let no : nat_lt race (2 ^ 32) ≡ true = grind (arith, nat_tests, low, few) in
        cc

no_claim : (known has low : Bool) (claim : Claim) → has ≡ false → None ≡ cond (known && (has && low)) (Some claim) None
no_claim true true low claim e = cc
no_claim true false low claim e = refl
no_claim false has low claim e = refl

-- a row whose race has a high number tells no claim
pub no_race_claim : (plan : Plan) (row : ClaimRow) → fault_of plan ≡ None → small_of row.race ≡ None → None ≡ row_claim plan row
no_race_claim plan row limits = by_ballot (natural row.ballot) (natural row.race) (natural row.code)
  where
    by_small : (ballot race code : ℕ) (small : Bool) → nat_lt race (2 ^ 32) ≡ small → cond small (Some race) None ≡ None → None ≡ act_claim plan (act.Claim ballot race code)
    by_small ballot race code true s e = cc
    by_small ballot race code false s e = no_claim (is_ballot plan ballot) (ballot_has plan ballot race) (nat_lt code (codes_of plan.version)) (record { ballot = ballot; race = race; code = code }) (high_race plan ballot race limits s)

    by_ballot : (ballot race code : Option ℕ) → option_and_then (λ n. cond (nat_lt n (2 ^ 32)) (Some n) None) race ≡ None
        → None ≡ option_and_then (act_claim plan) (option_and_then (λ b. option_and_then (λ r. option_map (act.Claim b r) code) race) ballot)
    by_ballot None race code e = refl
    by_ballot (Some ballot) None code e = refl
    by_ballot (Some ballot) (Some race) None e = refl
    by_ballot (Some ballot) (Some race) (Some code) e = by_small ballot race code (nat_lt race (2 ^ 32)) refl e
