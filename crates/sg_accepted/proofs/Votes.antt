-- Totals are the numbers of marked entries, and of ballots.
use Rattle.std.proofs.Common.{◌≡◌, ◌≢◌, ℕ, ◌/◌, ◌%◌, ◌<◌, ◌==◌, Bool, true, false, ◌&&◌, inl, inr, List, map, refl, sym, ap, ◌∙◌}
use Rattle.std.proofs.Math.Bool.{and-false}
use Rattle.std.proofs.lemmas.Bool.{and_parts, cases_Bool, eq-eqb, eqb-true, ne_eqb}
use Rattle.std.proofs.lemmas.List.Sorted.{sum_by-IsPermutation}
use Rattle.std.specs.List.{list_any}
use Rattle.std.specs.Prelude.{count_by}
use Rattle.sg_lists.proofs.Any.{any-never}
use Rattle.sg_lists.proofs.Bools.{one_if}
use Rattle.sg_lists.proofs.Sums.{sum-map, sum-same, sum-zero}
use Rattle.sg_plan.proofs.PlanLaws.{rows_are_one}
use Rattle.sg_plan.specs.Ballots.{ballot_has, ballot_row, candidates_of, entries_of, rows_of}
use Rattle.sg_plan.specs.declared.plan.Plan.{Plan}
use Rattle.sg_streams.specs.Numbers.{numbers_below}
use Rattle.sg_tables.proofs.TableLaws.{entry_laws, pointer_laws}
use Rattle.sg_tables.specs.Tables.{entry_showing, path_of, shown_by}
use Rattle.sg_post.proofs.Made.{count-same}
use Rattle.sg_post.specs.Fits.{fates_fit}
use Rattle.sg_post.specs.Marks.{is_entry_of, is_entry_marked, is_place_set, told_marks, total_of}
use Rattle.sg_post.specs.declared.story.Told.{Told}
use Rattle.sg_accepted.proofs.Any.{sum-number}
use Rattle.sg_accepted.proofs.Counted.{count-told}
use Rattle.sg_accepted.proofs.Flag.{set-marked}
use Rattle.sg_accepted.specs.Totals.{TotalsAreVotes, TotalsCountMarks, votes_so}
use Rattle.sg_tables.specs.Posts.{fate_marks}

-- the places that are set are those of the marked entries, one for one
pub totals_count_marks : TotalsCountMarks
unfolding total_of
totals_count_marks plan seed fates race candidate =
    let path : ℕ → ℕ = path_of plan seed race in
    let counts : ℕ → Bool = λ place. place % candidates_of plan race == candidate && is_place_set plan seed fates race place in
    let paths = pointer_laws.paths plan seed race in
    let moved : count_by counts (numbers_below (entries_of plan race)) ≡ count_by counts (map path (numbers_below (entries_of plan race)))
    = sym (sum_by-IsPermutation (λ (place : ℕ). one_if (counts place)) (numbers_below (entries_of plan race)) (map path (numbers_below (entries_of plan race))) paths.listed) in
    moved
    ∙ (sum-map (λ place. one_if (counts place)) path (numbers_below (entries_of plan race))
    ∙ count-same (λ entry. counts (path entry)) (λ entry. path entry % candidates_of plan race == candidate && is_entry_marked plan seed fates race entry) (entries_of plan race)
    (λ entry below. ap (λ (b : Bool). path entry % candidates_of plan race == candidate && b) (set-marked plan seed fates race entry below)))

-- AND THE BALLOTS

-- of tests that fail but at one number the count is whether that one passes
count-at : (p : ℕ → Bool) (count number : ℕ) → number < count → ((k : ℕ) → k < count → k ≢ number → p k ≡ false) → count_by p (numbers_below count) ≡ one_if (p number)
count-at p count number below others = sum-number (λ k. one_if (p k)) count number below (λ k b other. ap one_if (others k b other))

count-never : (p : ℕ → Bool) (count : ℕ) → ((k : ℕ) → p k ≡ false) → count_by p (numbers_below count) ≡ 0
count-never p count never = sum-zero (λ k. one_if (p k)) (numbers_below count) (λ k. ap one_if (never k))

module _ (plan : Plan) (seed : List ℕ) (race candidate : ℕ) (within : candidate < candidates_of plan race) where
  -- the entry leads to the candidate, and the ballot marks it
  abbrev counts : Told → ℕ → Bool
  counts told entry = path_of plan seed race entry % candidates_of plan race == candidate && told_marks plan seed race entry told

  -- one ballot marks one entry that leads to the candidate, or none
  one-ballot : (told : Told) → count_by (counts told) (numbers_below (entries_of plan race)) ≡ one_if (votes_so plan race candidate told)
  one-ballot told = at_has (ballot_has plan told.ballot race) refl
    where
      k : ℕ
      k = candidates_of plan race

      row : ℕ
      row = ballot_row plan race told.ballot

      -- the entry's path is in the candidate's column exactly where it shows the candidate
      column : (entry : ℕ) → entry < entries_of plan race → path_of plan seed race entry % candidates_of plan race ≡ shown_by plan seed race entry
      column entry below = (entry_laws.leads plan seed race entry below).column

      at_has : (has : Bool) → ballot_has plan told.ballot race ≡ has → count_by (counts told) (numbers_below (entries_of plan race)) ≡ one_if (votes_so plan race candidate told)
      at_has false lacks =
          count-never (counts told) (entries_of plan race)
          (λ entry. ap (λ (b : Bool). path_of plan seed race entry % candidates_of plan race == candidate && ((b && ballot_row plan race told.ballot == entry / candidates_of plan race) && fate_marks plan race (shown_by plan seed race entry) told.fate)) lacks
          ∙ and-false (path_of plan seed race entry % candidates_of plan race == candidate))
          ∙ sym (ap (λ (b : Bool). one_if (b && fate_marks plan race candidate told.fate)) lacks)
      at_has true has =
          let above : ballot_row plan race told.ballot < rows_of plan race = (rows_are_one plan race).below told.ballot has in
          let once = entry_laws.once plan seed race (ballot_row plan race told.ballot) candidate above within in
          let entry : ℕ = entry_showing plan seed race (ballot_row plan race told.ballot) candidate in
          let leads : path_of plan seed race entry % candidates_of plan race ≡ candidate = column entry once.below ∙ once.shows in
          let here : counts told entry ≡ votes_so plan race candidate told
          = rw (eq-eqb (path_of plan seed race entry % candidates_of plan race) candidate leads, has, eq-eqb (ballot_row plan race told.ballot) (entry / candidates_of plan race) (sym once.row_is))
          (ap (λ (c : ℕ). fate_marks plan race c told.fate) once.shows) in
          count-at (counts told) (entries_of plan race) entry once.below
          (λ other below differs. other_none other below differs once.alone) ∙ ap one_if here
        where
          other_none : (other : ℕ) → other < entries_of plan race → other ≢ entry_showing plan seed race (ballot_row plan race told.ballot) candidate
              → ((e : ℕ) → e < entries_of plan race → e / candidates_of plan race ≡ ballot_row plan race told.ballot → shown_by plan seed race e ≡ candidate → e ≡ entry_showing plan seed race (ballot_row plan race told.ballot) candidate)
              → counts told other ≡ false
          other_none other below differs alone =
              elim (cases_Bool (path_of plan seed race other % candidates_of plan race == candidate)) [
                | inr no_column ↦ ap (λ (b : Bool). b && told_marks plan seed race other told) no_column
                | inl in_column ↦
                    let shows : shown_by plan seed race other ≡ candidate = sym (column other below) ∙ eqb-true (path_of plan seed race other % candidates_of plan race) candidate in_column in
                    let apart : ballot_row plan race told.ballot ≢ other / candidates_of plan race = λ same. differs (alone other below (sym same) shows) in
                    ap (λ (b : Bool). path_of plan seed race other % candidates_of plan race == candidate && ((ballot_has plan told.ballot race && b) && fate_marks plan race (shown_by plan seed race other) told.fate)) (ne_eqb (ballot_row plan race told.ballot) (other / candidates_of plan race) apart)
                    ∙ none (path_of plan seed race other % candidates_of plan race == candidate) (ballot_has plan told.ballot race) (fate_marks plan race (shown_by plan seed race other) told.fate)
              ]
            where
              none : (a b c : Bool) → (a && ((b && false) && c)) ≡ false
              none true true c = refl
              none true false c = refl
              none false b c = refl

  -- so many do
  votes-all : (fates : List Told) → fates_fit plan 0 fates ≡ true
      → count_by (λ entry. path_of plan seed race entry % candidates_of plan race == candidate && list_any (told_marks plan seed race entry) fates) (numbers_below (entries_of plan race)) ≡ count_by (votes_so plan race candidate) fates
  votes-all fates fit =
      let column : ℕ → Bool = λ entry. path_of plan seed race entry % candidates_of plan race == candidate in
      count-same (λ entry. column entry && list_any (told_marks plan seed race entry) fates) (λ entry. list_any (λ told. counts told entry) fates) (entries_of plan race)
      (λ entry below. with_each (column entry) (told_marks plan seed race entry) fates)
      ∙ (count-told plan race (λ entry told. counts told entry) (λ entry told e. (and_parts (is_entry_of plan race entry told.ballot) _ (and_parts (column entry) (told_marks plan seed race entry told) e).1).0) 0 fates fit
      ∙ sum-same (λ (told : Told). count_by (counts told) (numbers_below (entries_of plan race))) (λ (told : Told). one_if (votes_so plan race candidate told)) fates one-ballot)
    where
      with_each : (b : Bool) (test : Told → Bool) (xs : List Told) → (b && list_any test xs) ≡ list_any (λ x. b && test x) xs
      with_each true test xs = refl
      with_each false test xs = sym (any-never (λ (x : Told). false) xs (λ x. refl))

pub totals_are_votes : TotalsAreVotes
unfolding is_entry_marked
totals_are_votes plan seed fates race candidate fit within =
    totals_count_marks plan seed fates race candidate ∙ votes-all plan seed race candidate within fates fit
