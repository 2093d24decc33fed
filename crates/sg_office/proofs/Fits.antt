-- An accepted act fits the plan, and its numbers are in the ranges of their types.
use Rattle.std.proofs.Common.{◌≡◌, true, List, length, None}
use Rattle.sg_plan.specs.Limits.{fault_of}
use Rattle.sg_desks.specs.ActTexts.{HasNumbers}
use Rattle.sg_acts.specs.declared.asks.Act.{Act}
use Rattle.sg_acts.specs.declared.asks.Act.TheVariants as act
use Rattle.sg_acts.specs.declared.asks.Stamp.{Stamp}
use Rattle.sg_keeper.specs.declared.setup.Setup.{Setup}
use Rattle.sg_histories.specs.Answers.{accepts, refusal_of}
use Rattle.sg_histories.specs.Histories.{Entry, claims_of, phase_of}
use Rattle.sg_histories.specs.Lawful.{IsAskable}
use Rattle.sg_histories.proofs.Accepted.{passed}
use Rattle.sg_histories.proofs.Fitting.{Claims, claims, fits_new}
use Rattle.sg_histories.proofs.ReadingActs.{numbers_fit}
use Rattle.sg_office.specs.inside.Now.{FitsBody}

-- an accepted claim is of a race of a ballot
pub accepted_fits : (setup : Setup) (history : List Entry) (stamp : Stamp) (asked : Act) → accepts setup history stamp asked ≡ true → FitsBody setup.plan asked
accepted_fits setup history stamp asked accepted = by_act asked (passed setup history stamp asked accepted).refusal
  where
    by_act : (done : Act) → refusal_of setup history stamp.station done ≡ None → FitsBody setup.plan done
    by_act (act.Scan ballot marks) e = tt
    by_act (act.Spoil ballot) e = tt
    by_act (act.Audit ballot paper) e = tt
    by_act act.Close e = tt
    by_act (act.Draw drawn) e = tt
    by_act (act.Claim ballot race code) e =
        let told : Claims setup.plan (phase_of history) (length (claims_of history)) ballot race = claims setup.plan (phase_of history) (length (claims_of history)) ballot race e in
        (told.ballot_is, told.race_is)
    by_act (act.Void ballot) e = tt

pub accepted_numbers : (setup : Setup) (history : List Entry) (stamp : Stamp) (asked : Act) → fault_of setup.plan ≡ None → IsAskable setup asked → accepts setup history stamp asked ≡ true → HasNumbers asked
accepted_numbers setup history stamp asked limits is accepted =
    numbers_fit setup.plan asked limits is.counted (fits_new setup history stamp.station asked is (passed setup history stamp asked accepted).refusal)
