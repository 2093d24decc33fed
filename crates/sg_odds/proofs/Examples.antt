-- A small record: the definitions are computed.
use Rattle.std.proofs.Common.{refl}
use Rattle.sg_commit.specs.declared.Key.{Key}
use Rattle.sg_odds.specs.Examples.{AreOddsShown, OddsAreShown}

shown : (key : Key) → AreOddsShown key
shown key = record {
  rows = refl;
  sections = refl;
  sides = refl;
  long = refl;
  leads = refl;
  honest_is = refl;
  stuffed_is = refl;
  flagged_is = refl;
  lacks = refl;
}

pub odds_are_shown : OddsAreShown
odds_are_shown key = shown key
