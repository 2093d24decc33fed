-- One row more of those that are read.
use Rattle.std.proofs.Common.{◌≡◌, ℕ, ◌+◌, true, List, [], ◌∷◌, ◌++◌, drop, Option, Some, refl, ap, sym, ◌∙◌}
use Rattle.std.specs.Prelude.{ℤ}
use Rattle.std.specs.List.{list_all}
use Rattle.std.specs.Str.{is_utf8}
use Rattle.std.proofs.lemmas.List.Folds.{list_all-append}
use Rattle.sg_plan.specs.declared.plan.Plan.{Plan}
use Rattle.sg_keeper.specs.declared.rows.BallotRow.{BallotRow}
use Rattle.sg_open.specs.declared.ballots.BallotTold.{BallotTold}
use Rattle.sg_open.specs.declared.ballots.Found.{Found}
use Rattle.sg_open.specs.inside.Finding.{found_after, found_row, found_with, scanner_by}
use Rattle.sg_open.specs.inside.Telling.{ballot_told}

pub utf8_push : (told : List (List ℕ)) (text : List ℕ) → list_all is_utf8 told ≡ true → is_utf8 text ≡ true → list_all is_utf8 (told ++ text ∷ []) ≡ true
utf8_push told text all one = list_all-append is_utf8 told (text ∷ []) ∙ rw (all, one) refl

pub found_on : (plan : Plan) (stations : List ℕ → Option ℤ) (found new : Found) (rows : List BallotRow) (at : ℕ) (row : BallotRow) (told : BallotTold) (whole : Found)
    → found_after plan stations found (drop at rows) ≡ whole → drop at rows ≡ row ∷ drop (at + 1) rows → ballot_told plan row ≡ Some told
    → new ≡ found_with found told (scanner_by stations told.text told.fate)
    → found_after plan stations new (drop (at + 1) rows) ≡ whole
found_on plan stations found new rows at row told whole inv rest e is =
    ap (λ (f : Found). found_after plan stations f (drop (at + 1) rows)) is
    ∙ (sym (ap (λ o. found_after plan stations (found_row stations found o) (drop (at + 1) rows)) e)
    ∙ (sym (ap (found_after plan stations found) rest) ∙ inv))
