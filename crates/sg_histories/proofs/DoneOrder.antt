-- Done rows are ordered by station and number.
use Rattle.std.proofs.Common.{◌≡◌, true, false, ◌&&◌, ◌||◌, arith}
use Rattle.std.specs.Ordering.{int_eq}
use Rattle.std.specs.Prelude.{ℤ, int_lt}
use Rattle.std.proofs.lemmas.Int.{ints}
use Rattle.sg_keeper.specs.Rows.{done_before}
use Rattle.sg_keeper.specs.declared.rows.DoneRow.{DoneRow}

pairs_asym : (s t n m : ℤ) → (int_lt s t || (int_eq s t && int_lt n m)) ≡ true → (int_lt t s || (int_eq t s && int_lt m n)) ≡ false
pairs_asym s t n m h = grind (arith, ints, h)

pub done_asym : (a b : DoneRow) → done_before a b ≡ true → done_before b a ≡ false
done_asym a b h = pairs_asym a.station b.station a.number b.number h
