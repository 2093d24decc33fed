-- The rows of an instance before a row: the earlier ones, number by number.
use Rattle.std.proofs.Common.{◌≡◌, ◌≢◌, ℕ, zero, suc, ◌+◌, ◌-◌, ◌<◌, ◌≤◌, ◌==◌, Bool, true, false, ◌&&◌, cond, inl, inr, List, [], ◌∷◌, ◌++◌, length, map, filter, refl, sym, ap, ◌∙◌, append-nil, arith}
use Rattle.std.proofs.lemmas.Bool.{and_left, and_right, cases_lt, eq-eqb, ne_eqb}
use Rattle.std.proofs.lemmas.List.Elements.{filter-append}
use Rattle.std.specs.List.{list_any, range_with_len}
use Rattle.std.specs.Prelude.{sum_by}
use Rattle.sg_lists.proofs.Any.{any-filter, any-map, any-same}
use Rattle.sg_lists.proofs.Each.{EachOf, of-into}
use Rattle.sg_lists.proofs.Sums.{sum-filter, sum-map, sum-same}
use Rattle.sg_grammar.proofs.Lists.{of-numbered}
use Rattle.sg_plan.specs.Ballots.{entries_of}
use Rattle.sg_plan.specs.declared.plan.Draw.{Draw}
use Rattle.sg_plan.specs.declared.plan.Draw.TheVariants as drawn
use Rattle.sg_plan.specs.declared.plan.Plan.{Plan}
use Rattle.sg_streams.specs.Numbers.{numbers_below}
use Rattle.sg_forms.specs.declared.line.RowOpening.{RowOpening}
use Rattle.sg_grammar.specs.Due.{numbered}
use Rattle.sg_grammar.specs.Placed.{Placed}
use Rattle.sg_grammar.specs.Placed.Placed.{RowAt}
use Rattle.sg_record.specs.Tree.{as_place, commit_tree, draw_leaf, indexed, instance_row_tree, race_row_tree, result_tree, row_leaf, seal_tree}
use Rattle.sg_record.specs.Places.{places_in}
use Rattle.sg_record.specs.declared.record.Record.{Record}
use Rattle.sg_check.specs.Completions.{IsHalfOf}
use Rattle.sg_post.proofs.Numbered.{indexed-numbers}
use Rattle.sg_post.specs.Posted.{opened_row, posted_record}
use Rattle.sg_post.specs.declared.story.Claimed.{Claimed}
use Rattle.sg_post.specs.declared.story.Told.{Told}
use Rattle.sg_facts.proofs.Finding.{of-entries, of-items}
use Rattle.sg_facts.proofs.Rising.{IsFront, IsPart, blocks, blocks_are, claims, commits_are, head, head_is, part_of, results_are}
use Rattle.sg_facts.proofs.Sections.{disputes-of, seals-of}

-- FILTERS

module _ {A : Type 0} (p : A → Bool) where
  abbrev Fails : A → Type 0
  Fails x = p x ≡ false

  filter-none : (xs : List A) → EachOf Fails xs → filter p xs ≡ []
  filter-none [] all = refl
  filter-none (x ∷ xs) all = ap (λ (b : Bool). cond b (x ∷ filter p xs) (filter p xs)) all.0 ∙ filter-none xs all.1

  filter-behind : (xs ys : List A) → EachOf Fails xs → filter p (xs ++ ys) ≡ filter p ys
  filter-behind xs ys all = filter-append p xs ys ∙ ap (λ l. l ++ filter p ys) (filter-none xs all)

  filter-before : (xs ys : List A) → EachOf Fails ys → filter p (xs ++ ys) ≡ filter p xs
  filter-before xs ys all = filter-append p xs ys ∙ (ap (λ l. filter p xs ++ l) (filter-none ys all) ∙ append-nil (filter p xs))

  -- only items of the list of this number pass
  filter-at : (f : ℕ → List A) (at count number : ℕ) → at ≤ number → number < at + count → ((k : ℕ) → k ≢ number → EachOf Fails (f k)) → filter p (numbered f at count) ≡ filter p (f number)
  unfolding numbered
  filter-at f at zero number low high others = absurd (omega (arith, low, high))
  filter-at f at (suc count) number low high others =
      elim (cases_lt at number) [
        | inl less ↦ filter-behind (f at) (numbered f (at + 1) count) (others at (λ e. omega (arith, e, less))) ∙ filter-at f (at + 1) count number (omega (arith, less)) (omega (arith, high)) others
        | inr not_less ↦
            let same : at ≡ number = omega (arith, low, not_less) in
            filter-before (f at) (numbered f (at + 1) count) (behind (at + 1) count (λ k less. others k (λ e. omega (arith, e, less, same)))) ∙ ap (λ (k : ℕ). filter p (f k)) same
      ]
    where
      behind : (from many : ℕ) → ((k : ℕ) → from ≤ k → EachOf Fails (f k)) → EachOf Fails (numbered f from many)
      behind from many all = of-numbered Fails f from many (λ k low high. all k low)

  filter-all : (f : ℕ → A) (at count : ℕ) → ((k : ℕ) → p (f k) ≡ true) → filter p (numbered (λ k. f k ∷ []) at count) ≡ map f (range_with_len at count)
  unfolding numbered
  filter-all f at zero passes = refl
  filter-all f at (suc count) passes =
      ap (λ (b : Bool). cond b (f at ∷ filter p (numbered (λ k. f k ∷ []) (at + 1) count)) (filter p (numbered (λ k. f k ∷ []) (at + 1) count))) (passes at) ∙ ap (λ l. f at ∷ l) (filter-all f (at + 1) count passes)

-- the items before one, in a list that is made number by number
split-range : {A : Type 0} (f : ℕ → A) (at count : ℕ) (xs ys : List A) (y : A) → map f (range_with_len at count) ≡ xs ++ y ∷ ys → (k : ℕ) × (xs ≡ map f (range_with_len at k)) × (y ≡ f (at + k))
split-range f at zero [] ys y e = cc
split-range f at zero (x ∷ xs) ys y e = cc
split-range f at (suc count) [] ys y e = (0, refl, (let same : f at ≡ y = cc in sym same) ∙ ap f (let here : at ≡ at + 0 = omega arith in here))
split-range {A} f at (suc count) (x ∷ xs) ys y e =
    let rest = split-range f (at + 1) count xs ys y cc in
    let first : f at ≡ x = cc in (
      suc rest.0,
      ap (λ (z : A). z ∷ xs) (sym first) ∙ ap (λ l. f at ∷ l) rest.1,
      rest.2 ∙ ap f (let next : (at + 1) + rest.0 ≡ at + suc rest.0 = omega arith in next),
    )

-- THE ROWS OF AN INSTANCE

abbrev pub in_instance : ℕ → ℕ → Placed → Bool
in_instance race instance (RowAt of within number opening) = of == race && within == instance
in_instance race instance line = false

no-row : (race instance : ℕ) (line : Placed) → part_of line ≢ 6 → in_instance race instance line ≡ false
no-row race instance (RowAt of within number opening) other = absurd (other refl)
no-row race instance line other = refl

draw-row : (race instance : ℕ) (draw : Draw) → in_instance race instance (draw_leaf as_place draw) ≡ false
draw-row race instance drawn.Full = refl
draw-row race instance (drawn.Public bytes) = refl

module _ (plan : Plan) (seed : List ℕ) (fates : List Told) (draw : Draw) (claims_of : List Claimed) (race instance : ℕ) where
  abbrev posted : Record
  posted = posted_record plan seed fates draw claims_of

  abbrev test : Placed → Bool
  test = in_instance race instance

  abbrev pub opened : ℕ → Placed
  opened number = RowAt race instance number (opened_row plan seed fates draw race instance number)

  passes : (number : ℕ) → test (opened number) ≡ true
  passes number = rw (eq-eqb race race refl, eq-eqb instance instance refl) refl

  rows-are : race < length plan.races → instance < plan.instances → filter test (places_in posted) ≡ map opened (numbers_below (entries_of plan race))
  unfolding places_in numbers_below
  rows-are in_race in_instances =
      let v : ℕ → ℕ → ℕ → RowOpening = opened_row plan seed fates draw in
      let rows : ℕ → ℕ → List RowOpening = λ r i. map (v r i) (numbers_below (entries_of plan r)) in
      let instances : ℕ → List (List RowOpening) = λ r. map (rows r) (numbers_below plan.instances) in
      let all : List Placed = indexed (race_row_tree as_place) 0 posted.rows in
      let none : (part : ℕ) (xs : List Placed) → part ≢ 6 → EachOf (IsPart part) xs → EachOf (λ (line : Placed). test line ≡ false) xs
      = λ part xs other are. of-into (IsPart part) (λ (line : Placed). test line ≡ false) xs (λ line is. no-row race instance line (λ e. other (let same : part ≡ 6 = omega (arith, is, e) in same))) are in
      filter-behind test (head posted) _ (none 0 (head posted) (λ e. omega (arith, e)) (head_is posted))
      ∙ (filter-behind test (commit_tree as_place posted) _ (none 2 (commit_tree as_place posted) (λ e. omega (arith, e)) (commits_are posted))
      ∙ (filter-behind test (blocks posted) _ (none 3 (blocks posted) (λ e. omega (arith, e)) (blocks_are posted))
      ∙ (filter-behind test (result_tree as_place posted) _ (none 4 (result_tree as_place posted) (λ e. omega (arith, e)) (results_are posted))
      ∙ (filter-behind test (draw_leaf as_place draw ∷ []) ((all ++ seal_tree as_place 3 posted.seals) ++ claims posted) (draw-row race instance draw, tt)
      ∙ (filter-before test (all ++ seal_tree as_place 3 posted.seals) (claims posted) (disputes-of (λ line. test line ≡ false) posted.disputes (λ b r c w. refl) (λ b r c code. refl))
      ∙ (filter-before test all (seal_tree as_place 3 posted.seals) (seals-of (λ line. test line ≡ false) 3 posted.seals (λ d. refl))
      ∙ (ap (filter test) (indexed-numbers (race_row_tree as_place) instances (length plan.races))
      ∙ (filter-at test (λ r. race_row_tree as_place r (instances r)) 0 (length plan.races - 0) race (omega arith) (omega (arith, in_race))
      (λ r other. of-entries (λ line. test line ≡ false) (row_leaf as_place r) (instances r) (λ i n o is. (and_left (r == race) (i == instance) (ne_eqb r race other), tt)))
      ∙ (ap (filter test) (indexed-numbers (instance_row_tree as_place race) (rows race) plan.instances)
      ∙ (filter-at test (λ i. instance_row_tree as_place race i (rows race i)) 0 (plan.instances - 0) instance (omega arith) (omega (arith, in_instances))
      (λ i other. of-items (λ line. test line ≡ false) (row_leaf as_place race i) (rows race i) (λ n o is. (and_right (race == race) (i == instance) (ne_eqb i instance other), tt)))
      ∙ (ap (filter test) (indexed-numbers (row_leaf as_place race instance) (v race instance) (entries_of plan race))
      ∙ (filter-all test opened 0 (entries_of plan race - 0) passes ∙ ap (λ (n : ℕ). map opened (range_with_len 0 n)) (let same : entries_of plan race - 0 ≡ entries_of plan race = omega arith in same)))))))))))))

  -- those before a row are the earlier ones
  module _ (before : List Placed) (number : ℕ) (opening : RowOpening) (front : IsFront (places_in posted) before (RowAt race instance number opening)) (within : IsHalfOf plan race instance number) where
    earlier : filter test before ≡ map opened (numbers_below number)
    unfolding numbers_below
    earlier =
        let row : Placed = RowAt race instance number opening in
        let here : filter test (row ∷ front.rest) ≡ row ∷ filter test front.rest = ap (λ (b : Bool). cond b (row ∷ filter test front.rest) (filter test front.rest)) (passes number) in
        let parts : map opened (numbers_below (entries_of plan race)) ≡ filter test before ++ row ∷ filter test front.rest
        = sym (rows-are within.0 within.1) ∙ (ap (filter test) front.is ∙ (filter-append test before (row ∷ front.rest) ∙ ap (λ l. filter test before ++ l) here)) in
        let split = split-range opened 0 (entries_of plan race) (filter test before) (filter test front.rest) row parts in
        let same : number ≡ 0 + split.0 = number-of (split.2) in
        split.1 ∙ ap (λ (n : ℕ). map opened (range_with_len 0 n)) (let all : split.0 ≡ number = omega (arith, same) in all)
      where
        number-of : {n k : ℕ} {o p : RowOpening} → RowAt race instance n o ≡ RowAt race instance k p → n ≡ k
        number-of e = cc

    -- a test that only rows of the instance pass
    pub any-earlier : (p : Placed → Bool) → ((line : Placed) → test line ≡ false → p line ≡ false) → list_any p before ≡ list_any (λ n. p (opened n)) (numbers_below number)
    any-earlier p only =
        sym (any-filter p test before ∙ any-same (λ line. test line && p line) p before (λ line. at_test line (test line) refl))
        ∙ (ap (list_any p) earlier ∙ any-map p opened (numbers_below number))
      where
        at_test : (line : Placed) (b : Bool) → test line ≡ b → (b && p line) ≡ p line
        at_test line true is = refl
        at_test line false is = sym (only line is)

    -- a number that only they give
    pub sum-earlier : (g : Placed → ℕ) → ((line : Placed) → test line ≡ false → g line ≡ 0) → sum_by g before ≡ sum_by (λ n. g (opened n)) (numbers_below number)
    sum-earlier g only =
        sym (sum-filter g test before ∙ sum-same (λ line. cond (test line) (g line) 0) g before (λ line. at_test line (test line) refl))
        ∙ (ap (sum_by g) earlier ∙ sum-map g opened (numbers_below number))
      where
        at_test : (line : Placed) (b : Bool) → test line ≡ b → (cond b (g line) 0) ≡ g line
        at_test line true is = refl
        at_test line false is = sym (only line is)
