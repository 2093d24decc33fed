-- The ballots of a sample: each has both races.
use Rattle.std.proofs.Common.{◌≡◌, ◌≢◌, ℕ, ◌-◌, ◌<◌, ◌≤◌, true, false, List, [], ◌∷◌, ◌++◌, replicate, slice_get, Some, refl, ap, ◌∙◌, arith}
use Rattle.std.specs.Option.{option_map_or}
use Rattle.std.proofs.lemmas.Bool.{ne_eqb}
use Rattle.std.proofs.lemmas.List.{append-nil}
use Rattle.sg_lists.proofs.Lists.{slice_get-replicate}
use Rattle.sg_plan.specs.Ballots.{ballot_has, candidates_of, races_of_ballot, races_of_style, style_has, style_of_ballot}
use Rattle.sg_sample.specs.SampleRun.{sample_plan}

item_at : (x n k : ℕ) → k < n → slice_get (replicate n x ++ []) k ≡ Some x
item_at x n k within = ap (λ (l : List ℕ). slice_get l k) (append-nil (replicate n x)) ∙ slice_get-replicate n k x within

pub style_is : (ballots ballot : ℕ) → 1 ≤ ballot → ballot ≤ ballots → style_of_ballot (sample_plan ballots) ballot ≡ Some 0
unfolding sample_plan
style_is ballots ballot first last =
    let some : ballot ≢ 0 = λ e. omega (arith, first, e) in
    rw (ne_eqb ballot 0 some) (item_at 0 ballots (ballot - 1) (omega (arith, first, last)))

pub races_are : (ballots ballot : ℕ) → 1 ≤ ballot → ballot ≤ ballots → races_of_ballot (sample_plan ballots) ballot ≡ 0 ∷ 1 ∷ []
unfolding sample_plan
races_are ballots ballot first last = ap (λ o. option_map_or (races_of_style (sample_plan ballots)) o []) (style_is ballots ballot first last) ∙ both ballots
  where
    both : (n : ℕ) → races_of_style (sample_plan n) 0 ≡ 0 ∷ 1 ∷ []
    both n = refl

pub has_first : (ballots ballot : ℕ) → 1 ≤ ballot → ballot ≤ ballots → ballot_has (sample_plan ballots) ballot 0 ≡ true
unfolding sample_plan
has_first ballots ballot first last = ap (λ o. option_map_or (style_has (sample_plan ballots) 0) o false) (style_is ballots ballot first last) ∙ here ballots
  where
    here : (n : ℕ) → style_has (sample_plan n) 0 0 ≡ true
    here n = refl

pub has_second : (ballots ballot : ℕ) → 1 ≤ ballot → ballot ≤ ballots → ballot_has (sample_plan ballots) ballot 1 ≡ true
unfolding sample_plan
has_second ballots ballot first last = ap (λ o. option_map_or (style_has (sample_plan ballots) 1) o false) (style_is ballots ballot first last) ∙ here ballots
  where
    here : (n : ℕ) → style_has (sample_plan n) 1 0 ≡ true
    here n = refl

pub first_candidates : (ballots : ℕ) → candidates_of (sample_plan ballots) 0 ≡ 3
unfolding sample_plan
first_candidates ballots = refl

pub second_candidates : (ballots : ℕ) → candidates_of (sample_plan ballots) 1 ≡ 4
unfolding sample_plan
second_candidates ballots = refl
