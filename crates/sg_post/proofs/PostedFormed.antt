-- The posted record is formed.
use Rattle.std.proofs.Common.{◌≡◌, ℕ, zero, suc, ◌+◌, ◌==◌, nat_le, Bool, true, ◌&&◌, List, length, map, None, refl, arith}
use Rattle.std.proofs.lemmas.Bool.{and_from, and_parts, eq-eqb, le-leb, leb-true}
use Rattle.std.proofs.lemmas.List.{length-map}
use Rattle.std.specs.List.{list_all, range_with_len}
use Rattle.sg_lists.proofs.Tests.{list_all-range}
use Rattle.sg_plan.proofs.KeptPlans.{faultless-keeps}
use Rattle.sg_plan.specs.Ballots.{candidates_of, entries_of}
use Rattle.sg_plan.specs.Limits.{fault_of, most_claims}
use Rattle.sg_plan.specs.declared.plan.Draw.{Draw}
use Rattle.sg_plan.specs.declared.plan.Plan.{Plan}
use Rattle.sg_plan.specs.declared.plan.Stage.TheVariants as stage
use Rattle.sg_streams.specs.Numbers.{numbers_below}
use Rattle.sg_tables.proofs.Lists.{length-map_below}
use Rattle.sg_record.specs.Formed.{each_passes, has_candidates, has_entries, has_rows, is_draw, is_formed}
use Rattle.sg_post.specs.Fits.{claim_fits, fates_fit, stage_fits}
use Rattle.sg_post.specs.Marks.{flag_of, is_place_set, total_of}
use Rattle.sg_post.specs.Posted.{by_candidate, by_entry, by_row, code_commit_of, dispute_of, opened_row, posted_record, row_commit_of}
use Rattle.sg_post.specs.declared.story.Claimed.{Claimed}
use Rattle.sg_post.specs.declared.story.Told.{Told}
use Rattle.sg_post.proofs.FormedStory.{claims-disputes, fates-blocks}

passes-range : {A : Type 0} (test : ℕ → A → Bool) (f : ℕ → A) (at count : ℕ) → ((k : ℕ) → test k (f k) ≡ true) → each_passes test at (map f (range_with_len at count)) ≡ true
passes-range test f at zero all = refl
passes-range test f at (suc count) all = and_from (test at (f at)) (each_passes test (at + 1) (map f (range_with_len (at + 1) count))) (all at) (passes-range test f (at + 1) count all)

passes-below : {A : Type 0} (test : ℕ → A → Bool) (f : ℕ → A) (count : ℕ) → ((k : ℕ) → test k (f k) ≡ true) → each_passes test 0 (map f (numbers_below count)) ≡ true
unfolding numbers_below
passes-below test f count all = passes-range test f 0 count all

all-below : {A : Type 0} (test : A → Bool) (f : ℕ → A) (count : ℕ) → ((k : ℕ) → test (f k) ≡ true) → list_all test (map f (numbers_below count)) ≡ true
unfolding numbers_below
all-below test f count all = list_all-range test f 0 count all

-- as many as there are numbers
so_many : {A : Type 0} (f : ℕ → A) (count : ℕ) → (length (map f (numbers_below count)) == count) ≡ true
so_many f count = eq-eqb (length (map f (numbers_below count))) count (length-map_below f count)

entries-are : {A : Type 0} (plan : Plan) (value : ℕ → ℕ → A) → has_entries plan (by_entry plan value) ≡ true
entries-are {A} plan value =
    let list : ℕ → List A = λ race. map (value race) (numbers_below (entries_of plan race)) in
    and_from (length (by_entry plan value) == length plan.races) (each_passes (λ (race : ℕ) (items : List A). length items == entries_of plan race) 0 (by_entry plan value)) (so_many list (length plan.races))
    (passes-below (λ (race : ℕ) (items : List A). length items == entries_of plan race) list (length plan.races) (λ race. so_many (value race) (entries_of plan race)))

candidates-are : {A : Type 0} (plan : Plan) (value : ℕ → ℕ → A) → has_candidates plan (by_candidate plan value) ≡ true
candidates-are {A} plan value =
    let list : ℕ → List A = λ race. map (value race) (numbers_below (candidates_of plan race)) in
    and_from (length (by_candidate plan value) == length plan.races) (each_passes (λ (race : ℕ) (items : List A). length items == candidates_of plan race) 0 (by_candidate plan value)) (so_many list (length plan.races))
    (passes-below (λ (race : ℕ) (items : List A). length items == candidates_of plan race) list (length plan.races) (λ race. so_many (value race) (candidates_of plan race)))

rows-are : {A : Type 0} (plan : Plan) (value : ℕ → ℕ → ℕ → A) → has_rows plan (by_row plan value) ≡ true
rows-are {A} plan value =
    let list : ℕ → ℕ → List A = λ race instance. map (value race instance) (numbers_below (entries_of plan race)) in
    let lists : ℕ → List (List A) = λ race. map (list race) (numbers_below plan.instances) in
    let test : ℕ → List (List A) → Bool = λ race instances. length instances == plan.instances && list_all (λ (items : List A). length items == entries_of plan race) instances in
    and_from (length (by_row plan value) == length plan.races) (each_passes test 0 (by_row plan value)) (so_many lists (length plan.races))
    (passes-below test lists (length plan.races)
    (λ race. and_from (length (lists race) == plan.instances) (list_all (λ (items : List A). length items == entries_of plan race) (lists race)) (so_many (list race) plan.instances)
    (all-below (λ (items : List A). length items == entries_of plan race) (list race) plan.instances (λ instance. so_many (value race instance) (entries_of plan race)))))

pub posted-formed : (plan : Plan) (seed : List ℕ) (fates : List Told) (draw : Draw) (claims : List Claimed) → fault_of plan ≡ None → fates_fit plan 0 fates ≡ true
    → stage_fits (stage.Drawn draw) claims ≡ true → list_all (claim_fits plan) claims ≡ true → is_formed (posted_record plan seed fates draw claims) ≡ true
unfolding is_formed
posted-formed plan seed fates draw claims fine fit fits claimed =
    let parts = and_parts (is_draw draw) (nat_le (length claims) most_claims) fits in
    let few = leb-true (length claims) most_claims parts.1 in
    let many : length (map (dispute_of plan seed) claims) ≡ length claims = length-map claims (dispute_of plan seed) in
    rw (
      faultless-keeps plan fine,
      entries-are plan (code_commit_of plan seed),
      rows-are plan (row_commit_of plan seed),
      fates-blocks plan seed 0 fates fine fit,
      rows-are plan (flag_of plan seed fates),
      entries-are plan (is_place_set plan seed fates),
      candidates-are plan (total_of plan seed fates),
      parts.0,
      rows-are plan (opened_row plan seed fates draw),
      le-leb (length (map (dispute_of plan seed) claims)) most_claims (omega (arith, many, few)),
      claims-disputes plan seed claims fine claimed,
    ) refl
