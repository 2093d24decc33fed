-- Where a race is full, its exponent is one of the law of the odds.
use Rattle.std.proofs.Common.{ℕ, ◌<◌, length, sym, subst}
use Rattle.sg_record.specs.Places.{places_in}
use Rattle.sg_parts.specs.Given.{AreParts, Given, completion_of}
use Rattle.sg_odds.specs.Answers.{IsBound, IsFound}
use Rattle.sg_odds.specs.Coins.{FewGetYes, before_draw}
use Rattle.sg_odds.specs.declared.found.OddsFound.{OddsFound}
use Rattle.sg_odds.specs.declared.found.OddsFound.TheVariants as odds
use Rattle.sg_odds.proofs.Exponent.{exponent_bound}

pub found_is_bound : (given : Given) (race : ℕ) (found : OddsFound) → AreParts given → race < length given.posted.plan.races → IsFound given race found → IsBound given found
found_is_bound given race (odds.NotFull instance row) parts race_in is = tt
found_is_bound given race (odds.Exponent value) parts race_in is = λ all_full.
    subst (λ (e : ℕ). FewGetYes given.posted.plan (before_draw (places_in given.posted)) (completion_of given.rows) e) (sym is.1)
    (exponent_bound given.posted parts.accepted.words parts.accepted.formed (completion_of given.rows)
    (record { is_completion = parts.completes; full = λ of instance of_in instance_in. all_full of of_in instance instance_in }) race race_in)
