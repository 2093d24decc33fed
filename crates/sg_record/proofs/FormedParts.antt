-- The parts of a formed record, in plain form.
use Rattle.std.proofs.Common.{◌≡◌, ℕ, ◌-◌, ◌≤◌, ◌==◌, nat_le, Bool, true, ◌&&◌, List, [], ◌∷◌, length, None, refl, arith}
use Rattle.std.proofs.lemmas.Bool.{and_from, and_parts, eq-eqb, eqb-true, le-leb, leb-true}
use Rattle.std.specs.List.{list_all}
use Rattle.std.specs.Option.{is_none}
use Rattle.sg_plan.proofs.KeptPlans.{faultless-keeps, keeps-faultless}
use Rattle.sg_commit.specs.declared.Digest.{Digest}
use Rattle.sg_plan.specs.Ballots.{candidates_of, entries_of}
use Rattle.sg_plan.specs.Limits.{fault_of, most_claims, plan_keeps}
use Rattle.sg_plan.specs.declared.plan.Plan.{Plan}
use Rattle.sg_forms.specs.Spelling.{IsInRange}
use Rattle.sg_record.proofs.EachItem.{Each-any, Each-from_all, Each-from_test, Each-length, all-from_Each, test-from_Each}
use Rattle.sg_record.proofs.Filling.{Each}
use Rattle.sg_record.proofs.SectionLines.{AreCommits, AreResults, Commits, HasPlaces, HasTotals, Results}
use Rattle.sg_record.proofs.SlotLines.{Any, Counts}
use Rattle.sg_record.specs.Formed.{are_blocks, each_passes, has_candidates, has_entries, has_rows, is_dispute, is_draw, is_formed}
use Rattle.sg_record.specs.Tree.{as_line, draw_leaf}
use Rattle.sg_forms.specs.declared.line.RowOpening.{RowOpening}
use Rattle.sg_record.specs.declared.record.Record.{Record}
use Rattle.sg_record.specs.declared.record.RowCommit.{RowCommit as RowDigests}

-- LISTS OF LISTS

-- a list for each race, with so many items
lists-from : {A : Type 0} (races : ℕ) (count : ℕ → ℕ) (P : ℕ → List A → Type 0) (lists : List (List A)) → ((race : ℕ) (items : List A) → length items ≡ count race → P race items)
    → (length lists == races && each_passes (λ race items. length items == count race) 0 lists) ≡ true → Each P 0 (races - 0) lists
lists-from races count P lists from passes =
    let parts = and_parts (length lists == races) (each_passes (λ race items. length items == count race) 0 lists) passes in
    let many = eqb-true (length lists) races parts.0 in
    Each-from_test P (λ race items. length items == count race) (λ race items same. from race items (eqb-true (length items) (count race) same)) 0 (races - 0) lists (omega (arith, many)) parts.1

lists-to : {A : Type 0} (races : ℕ) (count : ℕ → ℕ) (P : ℕ → List A → Type 0) (lists : List (List A)) → ((race : ℕ) (items : List A) → P race items → length items ≡ count race)
    → Each P 0 (races - 0) lists → (length lists == races && each_passes (λ race items. length items == count race) 0 lists) ≡ true
lists-to races count P lists to passes =
    let many = Each-length P 0 (races - 0) lists passes in
    and_from (length lists == races) (each_passes (λ race items. length items == count race) 0 lists) (eq-eqb (length lists) races (omega (arith, many)))
    (test-from_Each P (λ race items. length items == count race) (λ race items is. eq-eqb (length items) (count race) (to race items is)) 0 (races - 0) lists passes)

-- a list for each instance of each race, with so many items
instances-from : {A : Type 0} (plan : Plan) (P : ℕ → List A → Type 0) (lists : List (List (List A))) → ((race : ℕ) (items : List A) → length items ≡ entries_of plan race → P race items)
    → has_rows plan lists ≡ true → Each (λ (race : ℕ). Each (λ (instance : ℕ). P race) 0 (plan.instances - 0)) 0 (length plan.races - 0) lists
instances-from {A} plan P lists from passes =
    let test : ℕ → List (List A) → Bool = λ race instances. length instances == plan.instances && list_all (λ items. length items == entries_of plan race) instances in
    let parts = and_parts (length lists == length plan.races) (each_passes test 0 lists) passes in
    let many = eqb-true (length lists) (length plan.races) parts.0 in
    Each-from_test (λ (race : ℕ). Each (λ (instance : ℕ). P race) 0 (plan.instances - 0)) test
    (λ race instances both.
    let sides = and_parts (length instances == plan.instances) (list_all (λ items. length items == entries_of plan race) instances) both in
    let all = eqb-true (length instances) plan.instances sides.0 in
    Each-from_all (λ (instance : ℕ). P race) (λ items. length items == entries_of plan race) (λ instance items same. from race items (eqb-true (length items) (entries_of plan race) same)) 0
    (plan.instances - 0) instances (omega (arith, all)) sides.1)
    0 (length plan.races - 0) lists (omega (arith, many)) parts.1

instances-to : {A : Type 0} (plan : Plan) (P : ℕ → List A → Type 0) (lists : List (List (List A))) → ((race : ℕ) (items : List A) → P race items → length items ≡ entries_of plan race)
    → Each (λ (race : ℕ). Each (λ (instance : ℕ). P race) 0 (plan.instances - 0)) 0 (length plan.races - 0) lists → has_rows plan lists ≡ true
instances-to {A} plan P lists to passes =
    let test : ℕ → List (List A) → Bool = λ race instances. length instances == plan.instances && list_all (λ items. length items == entries_of plan race) instances in
    let many = Each-length (λ (race : ℕ). Each (λ (instance : ℕ). P race) 0 (plan.instances - 0)) 0 (length plan.races - 0) lists passes in
    and_from (length lists == length plan.races) (each_passes test 0 lists) (eq-eqb (length lists) (length plan.races) (omega (arith, many)))
    (test-from_Each (λ (race : ℕ). Each (λ (instance : ℕ). P race) 0 (plan.instances - 0)) test
    (λ race instances all.
    let count = Each-length (λ (instance : ℕ). P race) 0 (plan.instances - 0) instances all in
    and_from (length instances == plan.instances) (list_all (λ items. length items == entries_of plan race) instances) (eq-eqb (length instances) plan.instances (omega (arith, count)))
    (all-from_Each (λ (instance : ℕ). P race) (λ items. length items == entries_of plan race) (λ instance items is. eq-eqb (length items) (entries_of plan race) (to race items is)) 0
    (plan.instances - 0) instances all))
    0 (length plan.races - 0) lists passes)

-- any items, as many as there are
any-from : {A : Type 0} (count : ℕ) (items : List A) → length items ≡ count → Each (λ (k : ℕ) (x : A). Any x) 0 (count - 0) items
any-from count items many = Each-any 0 (count - 0) items (omega (arith, many))

any-to : {A : Type 0} (count : ℕ) (items : List A) → Each (λ (k : ℕ) (x : A). Any x) 0 (count - 0) items → length items ≡ count
any-to {A} count items all = omega (arith, Each-length (λ (k : ℕ) (x : A). Any x) 0 (count - 0) items all)

-- THE WHOLE

abbrev pub commits_of : Record → Digest → Commits
commits_of posted first = (posted.code_commits, (posted.row_commits, first))

abbrev pub results_of : Record → Digest → Digest → Results
results_of posted second third = ((posted.flags, (posted.places, posted.totals)), (second, (posted.draw, (posted.rows, third))))

-- the record is formed, and these are its seals
pub record IsFormed (posted : Record) (first second third : Digest) : Type 0 where
  pub fine : fault_of posted.plan ≡ None
  pub seals : posted.seals ≡ first ∷ second ∷ third ∷ []
  pub commits : AreCommits posted.plan (commits_of posted first)
  pub blocks : are_blocks posted.plan 0 posted.ballots ≡ true
  pub results : AreResults posted.plan.version posted.plan (results_of posted second third)
  pub few : length posted.disputes ≤ most_claims
  pub disputes : list_all (is_dispute posted.plan) posted.disputes ≡ true

-- the same with its seals
pub record HasForm (posted : Record) : Type 0 where
  pub first : Digest
  pub second : Digest
  pub third : Digest
  pub is : IsFormed posted first second third

three : (seals : List Digest) → length seals ≡ 3 → (a : Digest) × (b : Digest) × (c : Digest) × (seals ≡ a ∷ b ∷ c ∷ [])
three [] many = absurd (omega (arith, many))
three (a ∷ []) many = absurd (omega (arith, many))
three (a ∷ b ∷ []) many = absurd (omega (arith, many))
three (a ∷ b ∷ c ∷ []) many = (a, b, c, refl)
three (a ∷ b ∷ c ∷ d ∷ seals) many = absurd (omega (arith, many))

pub form-from : (posted : Record) → is_formed posted ≡ true → IsInRange posted.plan.version (draw_leaf as_line posted.draw) → HasForm posted
unfolding is_formed
form-from posted formed draw =
    let plan : Plan = posted.plan in
    let one = and_parts _ _ formed in
    let front = and_parts (plan_keeps plan) (length posted.seals == 3) one.0 in
    let two = and_parts _ _ one.1 in
    let three_of = and_parts _ _ two.1 in
    let four = and_parts _ _ three_of.1 in
    let five = and_parts _ _ four.1 in
    let six = and_parts _ _ five.1 in
    let seven = and_parts _ _ six.1 in
    let eight = and_parts _ _ seven.1 in
    let nine = and_parts _ _ eight.1 in
    let ten = and_parts (nat_le (length posted.disputes) most_claims) (list_all (is_dispute plan) posted.disputes) nine.1 in
    let seals = three posted.seals (eqb-true (length posted.seals) 3 front.1) in
    record {
      first = seals.0;
      second = seals.1;
      third = seals.2;
      is = record {
        fine = keeps-faultless plan front.0;
        seals = seals.3;
        commits = (
          lists-from (length plan.races) (entries_of plan) (λ race items. Each (λ (k : ℕ) (x : Digest). Any x) 0 (entries_of plan race - 0) items) posted.code_commits
              (λ race items many. any-from (entries_of plan race) items many) two.0,
          (
            instances-from plan (λ race items. Each (λ (k : ℕ) (x : RowDigests). Any x) 0 (entries_of plan race - 0) items) posted.row_commits
                (λ race items many. any-from (entries_of plan race) items many) three_of.0,
            tt,
          ),
        );
        blocks = four.0;
        results = (
          (
            instances-from plan (λ race. Counts (entries_of plan race)) posted.flags (λ race items many. many) five.0,
            (
              lists-from (length plan.races) (entries_of plan) (HasPlaces plan) posted.places (λ race items many. many) six.0,
              lists-from (length plan.races) (candidates_of plan) (HasTotals plan) posted.totals (λ race items many. any-from (candidates_of plan race) items many) seven.0,
            ),
          ),
          (
            tt,
            (
              (eight.0, draw),
              (
                instances-from plan (λ race items. Each (λ (k : ℕ) (x : RowOpening). Any x) 0 (entries_of plan race - 0) items) posted.rows
                    (λ race items many. any-from (entries_of plan race) items many) nine.0,
                tt,
              ),
            ),
          ),
        );
        few = leb-true (length posted.disputes) most_claims ten.0;
        disputes = ten.1;
      };
    }

pub form-to : (posted : Record) (first second third : Digest) → IsFormed posted first second third → is_formed posted ≡ true
unfolding is_formed
form-to posted first second third is =
    let plan : Plan = posted.plan in
    let commits = is.commits in
    let results = is.results in
    let front : (plan_keeps plan && length posted.seals == 3) ≡ true = rw (faultless-keeps plan is.fine, is.seals) refl in
    and_from _ _ front
    (and_from (has_entries plan posted.code_commits) _
    (lists-to (length plan.races) (entries_of plan) (λ race items. Each (λ (k : ℕ) (x : Digest). Any x) 0 (entries_of plan race - 0) items) posted.code_commits
    (λ race items all. any-to (entries_of plan race) items all) commits.0)
    (and_from (has_rows plan posted.row_commits) _
    (instances-to plan (λ race items. Each (λ (k : ℕ) (x : RowDigests). Any x) 0 (entries_of plan race - 0) items) posted.row_commits
    (λ race items all. any-to (entries_of plan race) items all) commits.1.0)
    (and_from (are_blocks plan 0 posted.ballots) _ is.blocks
    (and_from (has_rows plan posted.flags) _ (instances-to plan (λ race. Counts (entries_of plan race)) posted.flags (λ race items many. many) results.0.0)
    (and_from (has_entries plan posted.places) _ (lists-to (length plan.races) (entries_of plan) (HasPlaces plan) posted.places (λ race items many. many) results.0.1.0)
    (and_from (has_candidates plan posted.totals) _
    (lists-to (length plan.races) (candidates_of plan) (HasTotals plan) posted.totals (λ race items all. any-to (candidates_of plan race) items all) results.0.1.1)
    (and_from (is_draw posted.draw) _ results.1.1.0.0
    (and_from (has_rows plan posted.rows) _
    (instances-to plan (λ race items. Each (λ (k : ℕ) (x : RowOpening). Any x) 0 (entries_of plan race - 0) items) posted.rows
    (λ race items all. any-to (entries_of plan race) items all) results.1.1.1.0)
    (and_from (nat_le (length posted.disputes) most_claims) (list_all (is_dispute plan) posted.disputes) (le-leb (length posted.disputes) most_claims is.few) is.disputes)))))))))
