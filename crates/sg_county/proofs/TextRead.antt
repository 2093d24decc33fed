-- How far the bytes of a county are read.
use Rattle.std.proofs.Common.{◌≡◌, ℕ, ◌≤◌, inl, inr, true, false, List, [], ◌∷◌, ◌++◌, length, drop, slice_range, refl, sym, subst, ap, ◌∙◌, append_assoc, append-nil, arith}
use Rattle.std.proofs.lemmas.List.{drop_all}
use Rattle.sg_county.specs.County.{IsCounty}
use Rattle.sg_county.specs.Tally.{StandsFor, StandsForSome, is_open}
use Rattle.sg_county.specs.inside.Taken.{HasTakenLines}
use Rattle.sg_county.specs.declared.tally.Tally.{Tally}
use Rattle.sg_county.specs.declared.verdict.CountyVerdict.{CountyVerdict}
use Rattle.sg_outside.specs.TextLines.{lines_of}

-- the first bytes, so many of them, are lines that the tally stands for, and they settle nothing
pub record HasRead (bytes : List ℕ) (tally : Tally) (from : ℕ) : Type 0 where
  pub lines : List (List ℕ)
  pub within : from ≤ length bytes
  pub cut : lines_of bytes ≡ lines ++ lines_of (drop from bytes)
  pub stands : StandsFor tally lines
  pub still : is_open tally ≡ true

pub read_none : (bytes : List ℕ) (tally : Tally) → StandsFor tally [] → is_open tally ≡ true → HasRead bytes tally 0
read_none bytes tally stands still = record { lines = []; within = omega arith; cut = refl; stands = stands; still = still }

module _ (bytes : List ℕ) (tally new : Tally) (from end : ℕ) (read : HasRead bytes tally from)
    (next : lines_of (drop from bytes) ≡ slice_range bytes from end ∷ lines_of (drop end bytes))
    (adds : (lines : List (List ℕ)) → StandsFor tally lines → StandsFor new (lines ++ slice_range bytes from end ∷ [])) where
  all_lines : lines_of bytes ≡ (read.lines ++ slice_range bytes from end ∷ []) ++ lines_of (drop end bytes)
  all_lines =
      read.cut ∙ (ap (λ (l : List (List ℕ)). read.lines ++ l) next ∙ sym (append_assoc read.lines (slice_range bytes from end ∷ []) (lines_of (drop end bytes))))

  -- the line settles nothing
  pub read_more : end ≤ length bytes → is_open new ≡ true → HasRead bytes new end
  read_more within still = record {
    lines = read.lines ++ slice_range bytes from end ∷ [];
    within = within;
    cut = all_lines;
    stands = adds read.lines read.stands;
    still = still;
  }

  -- the line settles the answer
  pub read_over : is_open new ≡ false → HasTakenLines new (lines_of bytes)
  read_over over = inr (record { front = read.lines ++ slice_range bytes from end ∷ []; rest = lines_of (drop end bytes); all = all_lines; stands = adds read.lines read.stands; over = over })

-- all bytes are read
pub read_all : (bytes : List ℕ) (tally : Tally) (from : ℕ) → HasRead bytes tally from → length bytes ≤ from → HasTakenLines tally (lines_of bytes)
read_all bytes tally from read past =
    let same : lines_of bytes ≡ read.lines = read.cut ∙ (ap (λ (l : List ℕ). read.lines ++ lines_of l) (drop_all from bytes past) ∙ append-nil read.lines) in
    inl (subst (λ (l : List (List ℕ)). StandsFor tally l) (sym same) read.stands)

-- the answer on the lines
pub taken_answer : (tally : Tally) (lines : List (List ℕ)) (verdict : CountyVerdict) → HasTakenLines tally lines → ((all : List (List ℕ)) → StandsFor tally all → IsCounty all verdict)
    → (is_open tally ≡ false → (all more : List (List ℕ)) → StandsFor tally all → IsCounty (all ++ more) verdict) → IsCounty lines verdict
taken_answer tally lines verdict (inl stands) all over = all lines stands
taken_answer tally lines verdict (inr front) all over = subst (λ (l : List (List ℕ)). IsCounty l verdict) (sym front.all) (over front.over front.front front.rest front.stands)

-- what it stands for
pub taken_some : (tally : Tally) (lines : List (List ℕ)) → HasTakenLines tally lines → StandsForSome tally
taken_some tally lines (inl stands) = (lines, stands)
taken_some tally lines (inr front) = (front.front, front.stands)
