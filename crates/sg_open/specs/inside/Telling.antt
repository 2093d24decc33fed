-- What a row tells, as it is read.
use Rattle.std.specs.Prelude.{ℕ, ◌+◌, ◌^◌, nat_lt, ℤ, pos, if◌then◌else◌, Bool, ◌&&◌, List, [], ◌∷◌, codes, Option, Some, None}
use Rattle.std.specs.List.{join_with_byte}
use Rattle.std.specs.Option.{option_and_then, option_map}
use Rattle.std.specs.Ordering.{int_eq}
use Rattle.sg_plan.specs.Limits.{most_claims}
use Rattle.sg_plan.specs.Fates.{fate_fits}
use Rattle.sg_plan.specs.declared.plan.Draw.{Draw}
use Rattle.sg_plan.specs.declared.plan.Fate.{Fate}
use Rattle.sg_plan.specs.declared.plan.Fate.TheVariants as fate
use Rattle.sg_plan.specs.declared.plan.Plan.{Plan}
use Rattle.sg_desks.specs.ActReading.{act_in}
use Rattle.sg_acts.specs.declared.asks.Act.{Act}
use Rattle.sg_acts.specs.declared.asks.Act.TheVariants as act
use Rattle.sg_keeper.specs.declared.rows.BallotRow.{BallotRow}
use Rattle.sg_keeper.specs.declared.rows.ClaimRow.{ClaimRow}
use Rattle.sg_keeper.specs.declared.rows.StageRow.{StageRow}
use Rattle.sg_histories.specs.Answers.{is_ballot}
use Rattle.sg_record.specs.Formed.{is_draw}
use Rattle.sg_histories.specs.ValidRows.{ballot_words, claim_act, fits, natural}
use Rattle.sg_histories.specs.declared.kept.Claim.{Claim}
use Rattle.sg_open.specs.declared.ballots.BallotTold.{BallotTold}
use Rattle.sg_open.specs.declared.stages.DrawTold.{DrawTold}

-- NUMBERS

-- a number from 0 to 2 ^ 32 - 1
abbrev pub small_of : ℤ → Option ℕ
small_of number = option_and_then (λ n. if nat_lt n (2 ^ 32) then Some n else None) (natural number)

-- a ballot of the plan
abbrev pub ballot_number : Plan → ℤ → Option ℕ
ballot_number plan number = option_and_then (λ n. if is_ballot plan n then Some n else None) (natural number)

-- BALLOTS

-- the fate, where it fits the ballot
abbrev pub fit_fate : Plan → ℕ → Fate → Option Fate
fit_fate plan ballot told = if fate_fits plan ballot told then Some told else None

-- what an act makes of its ballot, where it fits the plan
abbrev pub act_fate : Plan → Act → Option Fate
act_fate plan (act.Scan ballot marks) = fit_fate plan ballot (fate.Cast marks)
act_fate plan (act.Spoil ballot) = fit_fate plan ballot fate.Spoiled
act_fate plan (act.Audit ballot paper) = fit_fate plan ballot (fate.Audited paper)
act_fate plan act.Close = None
act_fate plan (act.Draw drawn) = None
act_fate plan (act.Claim ballot race code) = None
act_fate plan (act.Void ballot) = None

-- what a text tells of a ballot
abbrev pub text_told : Plan → ℕ → List ℕ → Option BallotTold
text_told plan ballot text = option_map (λ told. record { ballot = ballot; text = text; fate = told }) (option_and_then (act_fate plan) (act_in plan.version text))

-- what a row tells of its ballot
abbrev pub ballot_told : Plan → BallotRow → Option BallotTold
ballot_told plan row =
    option_and_then (λ ballot. option_and_then (text_told plan ballot) (option_map (join_with_byte 32) (ballot_words row.fate ballot row.detail)))
    (ballot_number plan row.ballot)

-- STAGES

-- the draw, where its bytes are few enough
abbrev pub fit_draw : Draw → Option Draw
fit_draw drawn = if is_draw drawn then Some drawn else None

-- the draw of an act, where it fits
abbrev pub act_draw : Act → Option Draw
act_draw (act.Draw drawn) = fit_draw drawn
act_draw (act.Scan ballot marks) = None
act_draw (act.Spoil ballot) = None
act_draw (act.Audit ballot paper) = None
act_draw act.Close = None
act_draw (act.Claim ballot race code) = None
act_draw (act.Void ballot) = None

-- the text of a draw with this detail
abbrev pub draw_line : List ℕ → List ℕ
draw_line detail = join_with_byte 32 (codes "draw" ∷ detail ∷ [])

-- the draw of a text
abbrev pub text_drawn : ℕ → List ℕ → Option DrawTold
text_drawn version text = option_map (λ drawn. record { text = text; drawn = drawn }) (option_and_then act_draw (act_in version text))

-- what a row tells that should be of the draw
abbrev pub draw_told : ℕ → StageRow → Option DrawTold
draw_told version row = if int_eq row.step (pos 2) then text_drawn version (draw_line row.detail) else None

-- CLAIMS

-- the claim of an act, where it fits
abbrev pub act_claim : Plan → Act → Option Claim
act_claim plan (act.Claim ballot race code) = if fits plan (act.Claim ballot race code) then Some (record { ballot = ballot; race = race; code = code }) else None
act_claim plan (act.Scan ballot marks) = None
act_claim plan (act.Spoil ballot) = None
act_claim plan (act.Audit ballot paper) = None
act_claim plan act.Close = None
act_claim plan (act.Draw drawn) = None
act_claim plan (act.Void ballot) = None

-- the claim of a row, where it fits
abbrev pub row_claim : Plan → ClaimRow → Option Claim
row_claim plan row = option_and_then (act_claim plan) (claim_act row)

-- what a row tells that should be of the claim behind so many others
abbrev pub claim_told : Plan → Bool → ℕ → ClaimRow → Option Claim
claim_told plan drawn place row = if (int_eq row.claim (pos (place + 1)) && nat_lt place most_claims) && drawn then row_claim plan row else None
