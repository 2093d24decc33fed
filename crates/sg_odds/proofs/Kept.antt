-- Where no line of a record is bad in a kind, each is good against the lines before it.
use Rattle.std.proofs.Common.{◌≡◌, true, false, refl, subst}
use Rattle.sg_record.specs.Formed.{is_formed}
use Rattle.sg_record.specs.Laws.{HasWords}
use Rattle.sg_record.specs.Places.{places_in}
use Rattle.sg_record.specs.declared.record.Record.{Record}
use Rattle.sg_check.proofs.Late.{Fails, fails_at}
use Rattle.sg_check.specs.declared.judged.Kind.TheVariants as kind
use Rattle.sg_fronts.proofs.OfRecord.{placed}
use Rattle.sg_fronts.specs.ByRecords.{breaks_in, posted_of}

module _ (posted : Record) (words : HasWords posted) (formed : is_formed posted ≡ true) where
  pub flags_good : breaks_in posted kind.Flag ≡ false → Fails kind.Flag posted.plan (places_in posted)
  flags_good keeps = subst (Fails kind.Flag posted.plan) (placed posted words formed) (fails_at kind.Flag posted.plan (posted_of posted) (λ before line. refl) keeps)

  pub totals_good : breaks_in posted kind.Total ≡ false → Fails kind.Total posted.plan (places_in posted)
  totals_good keeps = subst (Fails kind.Total posted.plan) (placed posted words formed) (fails_at kind.Total posted.plan (posted_of posted) (λ before line. refl) keeps)
