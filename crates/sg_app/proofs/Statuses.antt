-- Which outcome a status is of.
use Rattle.std.proofs.Common.{◌≡◌, inl, inr, refl, arith}
use Rattle.std.specs.Prelude.{◌⊎◌}
use Rattle.sg_outside.specs.Outcomes.{status_of}
use Rattle.sg_outside.specs.declared.outcome.Outcome.{Outcome}
use Rattle.sg_outside.specs.declared.outcome.Outcome.TheVariants as outcome

-- these are of a command that opened no office
pub closed_statuses : (how : Outcome) → (status_of how ≡ 5) ⊎ (status_of how ≡ 7) ⊎ (status_of how ≡ 8) → (how ≡ outcome.KeeperFailed) ⊎ (how ≡ outcome.Refused) ⊎ (how ≡ outcome.Damaged)
closed_statuses outcome.KeeperFailed closed = inl refl
closed_statuses outcome.Refused closed = inr (inl refl)
closed_statuses outcome.Damaged closed = inr (inr refl)
closed_statuses _ (inl five) = absurd (omega (arith, five))
closed_statuses _ (inr (inl seven)) = absurd (omega (arith, seven))
closed_statuses _ (inr (inr eight)) = absurd (omega (arith, eight))
