-- The parts of the law are proved as lemmas.
use Rattle.sg_odds.proofs.Exponent.{exponent_bound}
use Rattle.sg_odds.proofs.LedLaw.{led_is_posted}
use Rattle.sg_odds.proofs.OddsLaw.{odds_bound}
use Rattle.sg_odds.proofs.Twice.{yes_opens_so}
use Rattle.sg_odds.proofs.Verdicts.{full_gets_yes, yes_gets_yes}
use Rattle.sg_odds.proofs.laws.odds_law.Goals as goal

pub returns : goal.returns
returns c = record { bound = odds_bound; posted = led_is_posted; exponent = exponent_bound; verdict = yes_gets_yes; drawn = full_gets_yes; opens = yes_opens_so }
