-- Each count of posted codes is the total.
use Rattle.std.proofs.Common.{◌≡◌, ℕ, ◌/◌, ◌%◌, ◌<◌, ◌==◌, Bool, true, false, ◌&&◌, inl, inr, List, length, map, Option, Some, None, is_some, refl, sym, ap, ◌∙◌}
use Rattle.std.proofs.Math.Bool.{and-false, and-true}
use Rattle.std.specs.List.{list_all}
use Rattle.std.specs.Option.{option_map_or}
use Rattle.std.proofs.lemmas.Bool.{cases_eq, eq-eqb, ne_eqb}
use Rattle.std.proofs.lemmas.List.Sorted.{sum_by-IsPermutation}
use Rattle.sg_lists.proofs.Bools.{one_if}
use Rattle.sg_lists.proofs.Sums.{sum-map}
use Rattle.sg_plan.specs.Ballots.{candidates_of, entries_of}
use Rattle.sg_plan.specs.Limits.{fault_of}
use Rattle.sg_plan.specs.declared.plan.Draw.{Draw}
use Rattle.sg_plan.specs.declared.plan.Plan.{Plan}
use Rattle.sg_streams.specs.Numbers.{numbers_below}
use Rattle.sg_tables.proofs.TableLaws.{code_laws, entry_leads}
use Rattle.sg_tables.specs.Laws.{Permutes}
use Rattle.sg_tables.specs.Tables.{code_beside, path_of, shown_by}
use Rattle.sg_grammar.specs.Placed.{Placed}
use Rattle.sg_record.specs.Places.{places_in}
use Rattle.sg_check.proofs.Bounding.{marked_is as code_there}
use Rattle.sg_check.proofs.Counting.{count-same}
use Rattle.sg_check.specs.Printings.{Printing, count_below, is_posted_for, marked_code, posted_count}
use Rattle.sg_post.specs.Fits.{claim_fits, fates_fit}
use Rattle.sg_post.specs.Marks.{is_entry_marked, total_of}
use Rattle.sg_post.specs.Posted.{posted_record}
use Rattle.sg_post.specs.declared.story.Claimed.{Claimed}
use Rattle.sg_post.specs.declared.story.Told.{Told}
use Rattle.sg_accepted.proofs.Counted.{below_counts}
use Rattle.sg_accepted.proofs.Votes.{totals_count_marks}
use Rattle.sg_accepted.proofs.Posted.{marked_is}
use Rattle.sg_cleared.proofs.Posted.{mark_is}
use Rattle.sg_cleared.proofs.Unaltered.{PrintsTables, entry_row}

-- COUNTS

-- as many pass where the numbers are exchanged
pub moved_counts : (test : ℕ → Bool) (f : ℕ → ℕ) (count : ℕ) → Permutes count f → count_below (λ k. test (f k)) count ≡ count_below test count
moved_counts test f count moves =
    sym (below_counts (λ k. test (f k)) count)
    ∙ (sym (sum-map (λ (k : ℕ). one_if (test k)) f (numbers_below count))
    ∙ (sum_by-IsPermutation (λ (k : ℕ). one_if (test k)) (numbers_below count) (map f (numbers_below count)) moves.listed ∙ below_counts test count))

-- TOTALS

-- a marked entry that leads to a place of the candidate
abbrev pub leads_to : Plan → List ℕ → List Told → ℕ → ℕ → ℕ → Bool
leads_to plan seed fates race candidate entry = path_of plan seed race entry % candidates_of plan race == candidate && is_entry_marked plan seed fates race entry

pub total_counts : (plan : Plan) (seed : List ℕ) (fates : List Told) (race candidate : ℕ) → total_of plan seed fates race candidate ≡ count_below (leads_to plan seed fates race candidate) (entries_of plan race)
total_counts plan seed fates race candidate = totals_count_marks plan seed fates race candidate ∙ below_counts (leads_to plan seed fates race candidate) (entries_of plan race)

module _ (plan : Plan) (seed : List ℕ) (fates : List Told) (draw : Draw) (claims : List Claimed) (fine : fault_of plan ≡ None) (fit : fates_fit plan 0 fates ≡ true) (claimed : list_all (claim_fits plan) claims ≡ true)
    (printing : Printing) (prints : PrintsTables plan seed printing) where
  abbrev lines : List Placed
  lines = places_in (posted_record plan seed fates draw claims)

  -- the codes beside two candidates are the same where the candidates are
  same_beside : (race row candidate shown : ℕ) → race < length plan.races → candidate < candidates_of plan race → shown < candidates_of plan race
      → (code_beside plan seed race row candidate == code_beside plan seed race row shown) ≡ (shown == candidate)
  same_beside race row candidate shown in_race low high = elim (cases_eq candidate shown) [
    | inl same ↦ eq-eqb (code_beside plan seed race row candidate) (code_beside plan seed race row shown) (ap (code_beside plan seed race row) same) ∙ sym (eq-eqb shown candidate (sym same))
    | inr differ ↦
        ne_eqb (code_beside plan seed race row candidate) (code_beside plan seed race row shown)
        (λ e. differ ((code_laws.differ plan seed race row fine in_race).one candidate shown low high e))
        ∙ sym (ne_eqb shown candidate (λ e. differ (sym e)))
  ]

  counts_alike : (race candidate entry : ℕ) → race < length plan.races → candidate < candidates_of plan race → entry < entries_of plan race
      → is_posted_for plan lines printing race candidate entry ≡ leads_to plan seed fates race candidate entry
  counts_alike race candidate entry in_race low below = by_code (marked_code plan race entry lines) refl
    where
      at : ℕ
      at = entry / candidates_of plan race

      mark : is_some (marked_code plan race entry lines) ≡ is_entry_marked plan seed fates race entry
      mark = code_there plan race entry lines ∙ marked_is plan seed fates draw claims fine fit race entry in_race

      by_code : (o : Option ℕ) → marked_code plan race entry lines ≡ o
          → option_map_or (λ code. printing race at candidate == code) (marked_code plan race entry lines) false ≡ (path_of plan seed race entry % candidates_of plan race == candidate && is_entry_marked plan seed fates race entry)
      by_code None e =
          let unmarked : is_entry_marked plan seed fates race entry ≡ false = sym mark ∙ ap is_some e in
          ap (λ (o : Option ℕ). option_map_or (λ code. printing race at candidate == code) o false) e
          ∙ sym (ap (λ (b : Bool). path_of plan seed race entry % candidates_of plan race == candidate && b) unmarked ∙ and-false (path_of plan seed race entry % candidates_of plan race == candidate))
      by_code (Some shown) e =
          let marked : is_entry_marked plan seed fates race entry ≡ true = sym mark ∙ ap is_some e in
          let leads = entry_leads plan seed race entry below in
          let code : shown ≡ code_beside plan seed race at (shown_by plan seed race entry) = mark_is plan seed fates draw claims fine fit claimed race entry shown e ∙ code_laws.beside plan seed race entry in
          let printed : printing race at candidate ≡ code_beside plan seed race at candidate = prints race at candidate in_race (entry_row plan race entry below) low in
          ap (λ (o : Option ℕ). option_map_or (λ c. printing race at candidate == c) o false) e
          ∙ (ap (λ n. n == shown) printed
          ∙ (ap (λ n. code_beside plan seed race at candidate == n) code
          ∙ (same_beside race at candidate (shown_by plan seed race entry) in_race low leads.shows
          ∙ (ap (λ n. n == candidate) (sym leads.column)
          ∙ sym (ap (λ (b : Bool). path_of plan seed race entry % candidates_of plan race == candidate && b) marked ∙ and-true (path_of plan seed race entry % candidates_of plan race == candidate))))))

  -- the count of posted codes is the total
  pub count_is : (race candidate : ℕ) → race < length plan.races → candidate < candidates_of plan race → posted_count plan lines printing race candidate ≡ total_of plan seed fates race candidate
  count_is race candidate in_race low =
      count-same (is_posted_for plan lines printing race candidate) (leads_to plan seed fates race candidate) (entries_of plan race) (λ entry below. counts_alike race candidate entry in_race low below)
      ∙ sym (total_counts plan seed fates race candidate)
