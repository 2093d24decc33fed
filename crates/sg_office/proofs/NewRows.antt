-- A stamp at which no text is found is new among the rows.
use Rattle.std.proofs.Common.{◌≡◌, ℕ, Bool, true, false, ◌&&◌, ◌||◌, not, cond, List, [], ◌∷◌, Some, None, refl, ap, ◌∙◌}
use Rattle.std.specs.List.{list_any}
use Rattle.std.specs.Ordering.{int_eq}
use Rattle.std.specs.Prelude.{pos}
use Rattle.sg_keeper.specs.Rows.{done_is, is_new}
use Rattle.sg_keeper.specs.declared.rows.DoneRow.{DoneRow}
use Rattle.sg_histories.specs.Standing.{text_at}

-- a row at whose stamp no text is found is new
pub new_row : (row : DoneRow) (station number : ℕ) (rows : List DoneRow) → row.station ≡ pos station → row.number ≡ pos number
    → text_at station number rows ≡ None → is_new done_is row rows ≡ true
new_row row station number [] s n e = refl
new_row row station number (x ∷ xs) s n e = by_test (int_eq x.station (pos station) && int_eq x.number (pos number)) test e (new_row row station number xs s n)
  where
    test : done_is x row ≡ (int_eq x.station (pos station) && int_eq x.number (pos number))
    test = rw (s, n) refl

    by_test : (b : Bool) → done_is x row ≡ b → cond b (Some x.act) (text_at station number xs) ≡ None
        → (text_at station number xs ≡ None → is_new done_is row xs ≡ true)
        → not (done_is x row || list_any (λ kept. done_is kept row) xs) ≡ true
    by_test true is k ih = cc
    by_test false is k ih = ap (λ b. not (b || list_any (λ kept. done_is kept row) xs)) is ∙ ih k
