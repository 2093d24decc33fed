-- How the rows of a completion are read.
use Rattle.std.proofs.Common.{◌≡◌, ℕ, zero, suc, ◌<◌, ◌≤◌, ◌⊎◌, inl, inr, List, [], ◌∷◌, ◌++◌, length, map, Option, Some, None, refl, arith}
use Rattle.std.specs.Prelude.{codes}
use Rattle.sg_commit.specs.declared.Opening.{Opening}
use Rattle.sg_forms.specs.Spelling.{IsRow}
use Rattle.sg_forms.specs.declared.line.RowOpening.{RowOpening}
use Rattle.sg_forms.specs.declared.line.RowOpening.TheVariants as opened
use Rattle.sg_parts.specs.Faults.{AreRowsOff, IsRowLine}
use Rattle.sg_parts.specs.Given.{IsHalf, halves_text, opening_text, row_text}
use Rattle.sg_parts.specs.declared.parts.RowGiven.{RowGiven}
use Rattle.sg_parts.specs.inside.Filling.{AreGiven}

-- ONE LINE

-- a row's line is `none`, or opens a half or both
pub row_cases : (text : List ℕ) → IsRowLine text → (text ≡ codes "none\n") ⊎ ((opening : RowOpening) × IsRow opening × (text ≡ opening_text opening))
row_cases text (row, given, is) = by_halves row.left row.right given.left given.right is
  where
    by_halves : (left right : Option Opening) → IsHalf left → IsHalf right → text ≡ halves_text left right → (text ≡ codes "none\n") ⊎ ((opening : RowOpening) × IsRow opening × (text ≡ opening_text opening))
    by_halves None None a b e = inl e
    by_halves (Some l) None a b e = inr (opened.Left l, a, e)
    by_halves None (Some r) a b e = inr (opened.Right r, b, e)
    by_halves (Some l) (Some r) a b e = inr (opened.Both l r, (a, b), e)

-- SOME LINES

pub given_append : (xs ys : List RowGiven) → AreGiven xs → AreGiven ys → AreGiven (xs ++ ys)
given_append [] ys a b = b
given_append (x ∷ xs) ys a b = (a.0, given_append xs ys a.1 b)

-- behind the lines of rows, one that is none, or one too many
pub rows_next : (count : ℕ) (rows : List RowGiven) (text : List ℕ) (more : List (List ℕ)) → AreGiven rows → length rows ≤ count → (length rows < count → IsRowLine text → ⊥)
    → AreRowsOff count (map row_text rows ++ text ∷ more) (length rows)
rows_next zero [] text more given few other = refl
rows_next (suc count) [] text more given few other = other (omega arith)
rows_next zero (row ∷ rows) text more given few other = absurd (omega (arith, few))
rows_next (suc count) (row ∷ rows) text more given few other = ((row, given.0, refl), rows_next count rows text more given.1 (omega (arith, few)) (λ less. other (omega (arith, less))))

-- or a row's line is missing
pub rows_short : (count : ℕ) (rows : List RowGiven) → AreGiven rows → length rows < count → AreRowsOff count (map row_text rows ++ []) (length rows)
rows_short zero rows given less = absurd (omega (arith, less))
rows_short (suc count) [] given less = refl
rows_short (suc count) (row ∷ rows) given less = ((row, given.0, refl), rows_short count rows given.1 (omega (arith, less)))
