-- The first row is the first record.
use Rattle.std.proofs.Common.{◌≡◌, ℕ, Bool, true, false, List, ◌∷◌, ◌++◌, refl, ap, sym, ◌∙◌}
use Rattle.sg_scans.specs.FileRecords.{StartsWith}
use Rattle.sg_scans.specs.ScanLines.{has_header, is_header}

pub bad_header : (rows all : List (List (List ℕ))) (first : List (List ℕ)) (rest : List (List (List ℕ))) (size limit : ℕ) (whole : Bool) → rows ≡ first ∷ rest
    → (whole ≡ true → rows ≡ all) → (whole ≡ false → (size ≡ limit) × StartsWith rows all) → is_header first ≡ false → has_header all ≡ false
bad_header rows all first rest size limit true e complete cut bad = ap has_header (sym (complete refl) ∙ e) ∙ bad
bad_header rows all first rest size limit false e complete cut bad =
    let s : StartsWith rows all = (cut refl).1 in
    ap has_header s.2 ∙ (ap (λ (r : List (List (List ℕ))). has_header (r ++ s.0 ∷ s.1)) e ∙ bad)
