-- The facts of a record, by its lists.
use Rattle.std.proofs.Common.{◌≡◌, ◌≢◌, ℕ, ◌+◌, ◌-◌, ◌*◌, ◌<◌, ◌==◌, Bool, true, false, ◌&&◌, cond, List, [], ◌∷◌, ◌++◌, length, map, get_or, Option, Some, None, refl, sym, ap, ◌∙◌, arith}
use Rattle.std.proofs.lemmas.Bool.{and_left, and_right, eq-eqb, ne_eqb}
use Rattle.std.proofs.lemmas.Option.{get_or_from_slice_get, slice_get_within}
use Rattle.std.specs.List.{flat_map, list_any}
use Rattle.std.specs.Option.{option_and_then, option_map, option_map_or}
use Rattle.std.specs.Prelude.{slice_get, slice_index_or}
use Rattle.std.proofs.Math.Bool.{or-false}
use Rattle.sg_lists.proofs.Any.{any-before, any-behind}
use Rattle.sg_lists.proofs.Each.{EachOf, of-all, of-append, of-every, of-none}
use Rattle.sg_lists.proofs.Options.{option_map_or-Some as only}
use Rattle.sg_commit.specs.declared.Digest.{Digest}
use Rattle.sg_commit.specs.declared.Opening.{Opening}
use Rattle.sg_plan.specs.Ballots.{races_of_ballot}
use Rattle.sg_plan.specs.declared.plan.Side.{Side}
use Rattle.sg_plan.specs.declared.plan.Side.TheVariants as side
use Rattle.sg_forms.specs.declared.line.RowOpening.{RowOpening}
use Rattle.sg_grammar.specs.Due.{each, lines_for}
use Rattle.sg_grammar.specs.Placed.{Placed}
use Rattle.sg_grammar.specs.Placed.Placed.{CodeAt, CodeCommitAt, DrawnFull, DrawnPublic, FlagsAt, PaperAt, PlacesAt, RowAt, RowCommitAt, SealAt, TotalAt}
use Rattle.sg_grammar.specs.declared.state.Block.TheVariants as block
use Rattle.sg_record.specs.Tree.{as_place, bit_sign, block_tree, cast_leaf, cast_place, code_commit_leaf, code_leaf, dispute_tree, draw_leaf, fate_tree, flag_leaf, flag_tree, indexed, opening_tree, paper_tree, place_tree, race_code_commit_tree, race_results_tree, race_row_commit_tree, race_row_tree, row_commit_leaf, row_leaf, seal_tree, signs_on, total_leaf}
use Rattle.sg_record.specs.Places.{places_in}
use Rattle.sg_record.specs.declared.record.BallotBlock.{BallotBlock}
use Rattle.sg_record.specs.declared.record.BlockFate.{BlockFate}
use Rattle.sg_record.specs.declared.record.BlockFate.TheVariants as fate
use Rattle.sg_record.specs.declared.record.CastLine.{CastLine}
use Rattle.sg_record.specs.declared.record.CastLine.TheVariants as cast
use Rattle.sg_record.specs.declared.record.DisputeBlock.{DisputeBlock}
use Rattle.sg_record.specs.declared.record.Record.{Record}
use Rattle.sg_record.specs.declared.record.RowCommit.{RowCommit}
use Rattle.sg_check.specs.Completions.{posted_half, posts_half}
use Rattle.sg_check.specs.Facts.{code_commitment, commits_code, commits_half, draws_digits, draws_full, first_given, flags_row, is_flagged, is_full_draw, is_set, known_code, sets_place, shows_code, half_commitment, opened_on}
use Rattle.sg_check.specs.Printings.{marked_code, posts_code}
use Rattle.sg_check.proofs.BitsFound.{bits-found}
use Rattle.sg_check.proofs.Fronts.{any-at, given-before, given-behind}
use Rattle.sg_facts.specs.Items.{item_in, row_in}
use Rattle.sg_facts.specs.Laws.{FactsAreListed}
use Rattle.sg_facts.specs.Listed.{block_code, block_mark, cast_shown, code_shown, digest_on, dispute_code, fate_code, fate_mark}
use Rattle.sg_facts.specs.Totals.{totals_candidate}
use Rattle.sg_facts.proofs.Finding.{any_indexed-at, first-at, given-flat, given-map, given-of, nested-at, numbered-at, of-each, paired-at}
use Rattle.sg_facts.proofs.Rising.{any-openings, any-results, given-codes, given-commits, given-openings, given-results, part_of}
use Rattle.sg_facts.proofs.Sections.{codes-of, draw-of, papers-of, race_flags-of, race_results-of, race_sets-of, race_totals-of, row_commits-of, rows-of, seals-of}

-- a line that gives none
abbrev NoneBy : {B : Type 0} → (Placed → Option B) → Placed → Type 0
NoneBy g line = g line ≡ None

abbrev FailsBy : (Placed → Bool) → Placed → Type 0
FailsBy test line = test line ≡ false

ands_first : (a b c : Bool) → a ≡ false → ((a && b) && c) ≡ false
ands_first true b c e = cc
ands_first false b c e = refl

ands_second : (a b c : Bool) → b ≡ false → ((a && b) && c) ≡ false
ands_second true true c e = cc
ands_second true false c e = refl
ands_second false b c e = refl

ands_third : (a b c : Bool) → c ≡ false → ((a && b) && c) ≡ false
ands_third true true c e = e
ands_third true false c e = refl
ands_third false b c e = refl

is_sign : (b : Bool) → (bit_sign b == 0x31) ≡ b
is_sign true = refl
is_sign false = refl

none_if : {B : Type 0} (b : Bool) (o : Option B) → b ≡ false → cond b o None ≡ None
none_if b o e = rw e refl

module _ (posted : Record) where
  abbrev first_seal : List Placed
  first_seal = seal_tree as_place 1 posted.seals

  abbrev row_commits : List Placed
  row_commits = indexed (race_row_commit_tree as_place) 0 posted.row_commits

  -- THE COMMITMENTS

  as_map : {A B : Type 0} (f : A → B) (o : Option A) → option_and_then (λ x. Some (f x)) o ≡ option_map f o
  as_map f None = refl
  as_map f (Some x) = refl

  all_same : {A : Type 0} (o : Option A) → option_and_then (λ x. Some x) o ≡ o
  all_same None = refl
  all_same (Some x) = refl

  pub code_commitment_is : (race entry : ℕ) → code_commitment race entry (places_in posted) ≡ item_in posted.code_commits race entry
  code_commitment_is race entry =
      let g = commits_code race entry in
      given-commits posted g others
      ∙ (given-before g (indexed (race_code_commit_tree as_place) 0 posted.code_commits) (row_commits ++ first_seal)
      (given-of g (row_commits ++ first_seal) (of-append (NoneBy g) row_commits first_seal (row_commits-of (NoneBy g) posted (λ r i x a b. refl)) (seals-of (NoneBy g) 1 posted.seals (λ d. refl))))
      ∙ (paired-at g (code_commit_leaf as_place) (λ d. Some d) race entry
      (λ r e d other. only (g (CodeCommitAt r e d)) ∙ none_if (r == race && e == entry) (Some d) (and_left (r == race) (e == entry) (ne_eqb r race other)))
      (λ e d other. only (g (CodeCommitAt race e d)) ∙ none_if (race == race && e == entry) (Some d) (and_right (race == race) (e == entry) (ne_eqb e entry other)))
      (λ d. only (g (CodeCommitAt race entry d)) ∙ rw (eq-eqb race race refl, eq-eqb entry entry refl) refl) posted.code_commits
      ∙ all_same (item_in posted.code_commits race entry)))
    where
      others : (line : Placed) → part_of line ≢ 2 → commits_code race entry line ≡ None
      others (CodeCommitAt of at digest) other = absurd (other refl)
      others line other = refl

  module _ (g : Placed → Option Digest) (v : RowCommit → Option Digest) (race instance row : ℕ)
      (right : (r i x : ℕ) (a b : Digest) → g (RowCommitAt r i x a b) ≡ cond ((r == race && i == instance) && x == row) (v (record { left = a; right = b })) None)
      (others : (line : Placed) → part_of line ≢ 2 → g line ≡ None) (codes_none : EachOf (NoneBy g) (indexed (race_code_commit_tree as_place) 0 posted.code_commits)) (seal_none : (digest : Digest) → g (SealAt 1 digest) ≡ None) where
    at_row : (r i x : ℕ) (a : RowCommit) → first_given g (row_commit_leaf as_place r i x a) ≡ cond ((r == race && i == instance) && x == row) (v a) None
    at_row r i x a = only (g (RowCommitAt r i x a.left a.right)) ∙ right r i x a.left a.right

    commits_here : first_given g row_commits ≡ option_and_then v (row_in posted.row_commits race instance row)
    commits_here =
        nested-at g (row_commit_leaf as_place) v race instance row
        (λ r i x a other. at_row r i x a ∙ none_if ((r == race && i == instance) && x == row) (v a) (ands_first (r == race) (i == instance) (x == row) (ne_eqb r race other)))
        (λ i x a other. at_row race i x a ∙ none_if ((race == race && i == instance) && x == row) (v a) (ands_second (race == race) (i == instance) (x == row) (ne_eqb i instance other)))
        (λ x a other. at_row race instance x a ∙ none_if ((race == race && instance == instance) && x == row) (v a) (ands_third (race == race) (instance == instance) (x == row) (ne_eqb x row other)))
        (λ a. at_row race instance row a ∙ rw (eq-eqb race race refl, eq-eqb instance instance refl, eq-eqb row row refl) refl) posted.row_commits

    commit_found : first_given g (places_in posted) ≡ option_and_then v (row_in posted.row_commits race instance row)
    commit_found =
        given-commits posted g others
        ∙ (given-behind g (indexed (race_code_commit_tree as_place) 0 posted.code_commits) (row_commits ++ first_seal) (given-of g (indexed (race_code_commit_tree as_place) 0 posted.code_commits) codes_none)
        ∙ (given-before g row_commits first_seal (given-of g first_seal (seals-of (NoneBy g) 1 posted.seals seal_none)) ∙ commits_here))

  commitment : (on : Side) (race instance row : ℕ) → half_commitment (places_in posted) on race instance row ≡ option_map (digest_on on) (row_in posted.row_commits race instance row)
  commitment side.Left race instance row =
      let g = commits_half side.Left race instance row in
      commit_found g (λ commit. Some commit.left) race instance row (λ r i x a b. refl) others (codes-of (NoneBy g) posted (λ r e d. refl)) (λ d. refl)
      ∙ as_map (λ commit. commit.left) (row_in posted.row_commits race instance row)
    where
      others : (line : Placed) → part_of line ≢ 2 → commits_half side.Left race instance row line ≡ None
      others (RowCommitAt of within at left right) other = absurd (other refl)
      others line other = refl
  commitment side.Right race instance row =
      let g = commits_half side.Right race instance row in
      commit_found g (λ commit. Some commit.right) race instance row (λ r i x a b. refl) others (codes-of (NoneBy g) posted (λ r e d. refl)) (λ d. refl)
      ∙ as_map (λ commit. commit.right) (row_in posted.row_commits race instance row)
    where
      others : (line : Placed) → part_of line ≢ 2 → commits_half side.Right race instance row line ≡ None
      others (RowCommitAt of within at left right) other = absurd (other refl)
      others line other = refl

  -- THE DRAW AND THE HALVES

  abbrev rows : List Placed
  rows = indexed (race_row_tree as_place) 0 posted.rows

  abbrev third_seal : List Placed
  third_seal = seal_tree as_place 3 posted.seals

  -- what no row gives, and no seal
  module _ {B : Type 0} (g : Placed → Option B) (rows_none : (r i x : ℕ) (o : RowOpening) → g (RowAt r i x o) ≡ None) (seal_none : (digest : Digest) → g (SealAt 3 digest) ≡ None) where
    behind_draw : first_given g (opening_tree as_place posted) ≡ g (draw_leaf as_place posted.draw)
    behind_draw =
        given-before g (draw_leaf as_place posted.draw ∷ []) (rows ++ third_seal)
        (given-of g (rows ++ third_seal) (of-append (NoneBy g) rows third_seal (rows-of (NoneBy g) posted (λ r i x o is. rows_none r i x o)) (seals-of (NoneBy g) 3 posted.seals seal_none)))
        ∙ only (g (draw_leaf as_place posted.draw))

  pub digits_are : first_given draws_digits (places_in posted) ≡ draws_digits (draw_leaf as_place posted.draw)
  digits_are = given-openings posted draws_digits others ∙ behind_draw draws_digits (λ r i x o. refl) (λ d. refl)
    where
      others : (line : Placed) → part_of line ≢ 5 → part_of line ≢ 6 → draws_digits line ≡ None
      others (DrawnPublic digits) drawn row = absurd (drawn refl)
      others line drawn row = refl

  pub full_draw_is : is_full_draw (places_in posted) ≡ draws_full (draw_leaf as_place posted.draw)
  full_draw_is =
      any-openings posted draws_full others
      ∙ (any-before draws_full (draw_leaf as_place posted.draw ∷ []) (rows ++ third_seal)
      (of-none draws_full (rows ++ third_seal) (of-append (FailsBy draws_full) rows third_seal (rows-of (FailsBy draws_full) posted (λ r i x o is. refl)) (seals-of (FailsBy draws_full) 3 posted.seals (λ d. refl))))
      ∙ or-false (draws_full (draw_leaf as_place posted.draw)))
    where
      others : (line : Placed) → part_of line ≢ 5 → part_of line ≢ 6 → draws_full line ≡ false
      others DrawnFull drawn row = absurd (drawn refl)
      others line drawn row = refl

  module _ (on : Side) (race instance row : ℕ) where
    abbrev posts : Placed → Option Opening
    posts = posts_half on race instance row

    at_opening : (r i x : ℕ) (a : RowOpening) → first_given posts (row_leaf as_place r i x a) ≡ cond ((r == race && i == instance) && x == row) (opened_on on a) None
    at_opening r i x a = only (posts (RowAt r i x a))

    rows_here : first_given posts rows ≡ option_and_then (opened_on on) (row_in posted.rows race instance row)
    rows_here =
        nested-at posts (row_leaf as_place) (opened_on on) race instance row
        (λ r i x a other. at_opening r i x a ∙ none_if ((r == race && i == instance) && x == row) (opened_on on a) (ands_first (r == race) (i == instance) (x == row) (ne_eqb r race other)))
        (λ i x a other. at_opening race i x a ∙ none_if ((race == race && i == instance) && x == row) (opened_on on a) (ands_second (race == race) (i == instance) (x == row) (ne_eqb i instance other)))
        (λ x a other. at_opening race instance x a ∙ none_if ((race == race && instance == instance) && x == row) (opened_on on a) (ands_third (race == race) (instance == instance) (x == row) (ne_eqb x row other)))
        (λ a. at_opening race instance row a ∙ rw (eq-eqb race race refl, eq-eqb instance instance refl, eq-eqb row row refl) refl) posted.rows

    half : posted_half (places_in posted) on race instance row ≡ option_and_then (opened_on on) (row_in posted.rows race instance row)
    half =
        given-openings posted posts others
        ∙ (given-behind posts (draw_leaf as_place posted.draw ∷ []) (rows ++ third_seal) (given-of posts (draw_leaf as_place posted.draw ∷ []) (draw-of (NoneBy posts) posted.draw refl (λ d. refl), tt))
        ∙ (given-before posts rows third_seal (given-of posts third_seal (seals-of (NoneBy posts) 3 posted.seals (λ d. refl))) ∙ rows_here))
      where
        others : (line : Placed) → part_of line ≢ 5 → part_of line ≢ 6 → posts_half on race instance row line ≡ None
        others (RowAt of within at opening) drawn other = absurd (other refl)
        others line drawn other = refl

  -- THE RESULTS

  abbrev results : List Placed
  results = each (race_results_tree as_place posted) 0 (length posted.plan.races)

  -- a test that passes lines of results alone
  in_results : (test : Placed → Bool) → ((line : Placed) → part_of line ≢ 4 → test line ≡ false) → ((digest : Digest) → test (SealAt 2 digest) ≡ false) → list_any test (places_in posted) ≡ list_any test results
  in_results test others seal =
      any-results posted test others ∙ any-before test results (seal_tree as_place 2 posted.seals) (of-none test (seal_tree as_place 2 posted.seals) (seals-of (FailsBy test) 2 posted.seals seal))

  item_of : {A : Type 0} (lists : List (List A)) (outer inner : ℕ) (item : A) → item_in lists outer inner ≡ Some item → (items : List A) × (slice_get lists outer ≡ Some items) × (slice_get items inner ≡ Some item)
  item_of {A} lists outer inner item is = at_items (slice_get lists outer) refl
    where
      at_items : (o : Option (List A)) → slice_get lists outer ≡ o → (items : List A) × (slice_get lists outer ≡ Some items) × (slice_get items inner ≡ Some item)
      at_items None e = let both : None ≡ Some item = sym (ap (option_and_then (λ items. slice_get items inner)) e) ∙ is in cc
      at_items (Some items) e = (items, e, sym (ap (option_and_then (λ items. slice_get items inner)) e) ∙ is)

  bit-of : (bits : List Bool) (at : ℕ) (bit : Bool) → slice_get bits at ≡ Some bit → get_or bits at false ≡ bit
  bit-of bits at bit is = get_or_from_slice_get bits at bit false is

  flag : (race instance row : ℕ) (bit : Bool) → race < length posted.plan.races → row_in posted.flags race instance row ≡ Some bit → is_flagged race instance row (places_in posted) ≡ bit
  flag race instance row bit within is = at_instances (slice_get posted.flags race) refl
    where
      at_instances : (o : Option (List (List Bool))) → slice_get posted.flags race ≡ o → is_flagged race instance row (places_in posted) ≡ bit
      at_instances None e = let both : None ≡ Some bit = sym (ap (option_and_then (λ instances. item_in instances instance row)) e) ∙ is in cc
      at_instances (Some instances) e =
          let found = item_of instances instance row bit (sym (ap (option_and_then (λ i. item_in i instance row)) e) ∙ is) in
          let bits = found.0 in
          let flags_are : slice_index_or posted.flags race [] ≡ instances = get_or_from_slice_get posted.flags race instances [] e in
          let flags = slice_index_or posted.flags race [] in
          let sets = place_tree as_place race (slice_index_or posted.places race []) in
          let totals = indexed (total_leaf as_place race) 0 (slice_index_or posted.totals race []) in
          in_results (flags_row race instance row) others (λ d. refl)
          ∙ (any-at (flags_row race instance row) (race_results_tree as_place posted) 0 (length posted.plan.races - 0) race (omega arith) (omega (arith, within))
          (λ r a b other. of-none (flags_row race instance row) (race_results_tree as_place posted r)
          (race_results-of (FailsBy (flags_row race instance row)) posted r (λ i f signs. rw (ne_eqb r race other) refl) (λ f signs. refl) (λ c n is. refl)))
          ∙ (any-before (flags_row race instance row) (indexed (flag_tree as_place race) 0 flags) (sets ++ totals)
          (of-none (flags_row race instance row) (sets ++ totals)
          (of-append (FailsBy (flags_row race instance row)) sets totals (race_sets-of (FailsBy (flags_row race instance row)) race (slice_index_or posted.places race []) (λ f signs. refl))
          (race_totals-of (FailsBy (flags_row race instance row)) race (slice_index_or posted.totals race []) (λ c n is. refl))))
          ∙ (any_indexed-at (flags_row race instance row) (flag_tree as_place race) 0 flags instance bits (ap (λ (l : List (List Bool)). slice_get l instance) flags_are ∙ found.1)
          (λ j list other. of-none (flags_row race instance row) (flag_tree as_place race j list) (line_fails j list (λ e. other (e ∙ from_none instance))))
          ∙ (ap (λ (i : ℕ). list_any (flags_row race instance row) (flag_tree as_place race i bits)) (sym (from_none instance))
          ∙ (bits-found bit_sign is_sign (flags_row race instance row) (λ line. FlagsAt race instance (64 * line) (signs_on bits line)) bits row
          (λ line. rw (eq-eqb race race refl, eq-eqb instance instance refl) refl) (slice_get_within bits row bit found.2)
          ∙ bit-of bits row bit found.2)))))
        where
          others : (line : Placed) → part_of line ≢ 4 → flags_row race instance row line ≡ false
          others (FlagsAt of within from signs) other = absurd (other refl)
          others line other = refl

          from_none : (i : ℕ) → i ≡ 0 + i
          from_none i = omega arith

          line_fails : (j : ℕ) (list : List Bool) → j ≢ instance → EachOf (FailsBy (flags_row race instance row)) (flag_tree as_place race j list)
          line_fails j list other =
              of-each (FailsBy (flags_row race instance row)) (flag_leaf as_place race j list) 0 (lines_for (length list)) (λ line. (ands_second (race == race) (j == instance) _ (ne_eqb j instance other), tt))

  set_bit : (race at : ℕ) (bit : Bool) → race < length posted.plan.races → item_in posted.places race at ≡ Some bit → is_set race at (places_in posted) ≡ bit
  set_bit race at bit within is =
      let found = item_of posted.places race at bit is in
      let bits = found.0 in
      let test = sets_place race at in
      let bits_are : slice_index_or posted.places race [] ≡ bits = get_or_from_slice_get posted.places race bits [] found.1 in
      let flags = indexed (flag_tree as_place race) 0 (slice_index_or posted.flags race []) in
      let sets = place_tree as_place race (slice_index_or posted.places race []) in
      let totals = indexed (total_leaf as_place race) 0 (slice_index_or posted.totals race []) in
      in_results test others (λ d. refl)
      ∙ (any-at test (race_results_tree as_place posted) 0 (length posted.plan.races - 0) race (omega arith) (omega (arith, within))
      (λ r a b other. of-none test (race_results_tree as_place posted r) (race_results-of (FailsBy test) posted r (λ i f signs. refl) (λ f signs. rw (ne_eqb r race other) refl) (λ c n is. refl)))
      ∙ (any-behind test flags (sets ++ totals) (of-none test flags (race_flags-of (FailsBy test) race (slice_index_or posted.flags race []) (λ i f signs. refl)))
      ∙ (any-before test sets totals (of-none test totals (race_totals-of (FailsBy test) race (slice_index_or posted.totals race []) (λ c n is. refl)))
      ∙ (ap (λ (l : List Bool). list_any test (place_tree as_place race l)) bits_are
      ∙ (bits-found bit_sign is_sign test (λ line. PlacesAt race (64 * line) (signs_on bits line)) bits at (λ line. rw (eq-eqb race race refl) refl) (slice_get_within bits at bit found.2)
      ∙ bit-of bits at bit found.2)))))
    where
      others : (line : Placed) → part_of line ≢ 4 → sets_place race at line ≡ false
      others (PlacesAt of from signs) other = absurd (other refl)
      others line other = refl

  total : (race candidate count : ℕ) → race < length posted.plan.races → item_in posted.totals race candidate ≡ Some count → first_given (totals_candidate race candidate) (places_in posted) ≡ Some count
  total race candidate count within is =
      let found = item_of posted.totals race candidate count is in
      let g = totals_candidate race candidate in
      let totals_are : slice_index_or posted.totals race [] ≡ found.0 = get_or_from_slice_get posted.totals race found.0 [] found.1 in
      let flags = indexed (flag_tree as_place race) 0 (slice_index_or posted.flags race []) in
      let sets = place_tree as_place race (slice_index_or posted.places race []) in
      let totals = indexed (total_leaf as_place race) 0 (slice_index_or posted.totals race []) in
      given-results posted g others
      ∙ (given-before g results (seal_tree as_place 2 posted.seals) (given-of g (seal_tree as_place 2 posted.seals) (seals-of (NoneBy g) 2 posted.seals (λ d. refl)))
      ∙ (numbered-at g (race_results_tree as_place posted) 0 (length posted.plan.races - 0) race (omega arith) (omega (arith, within))
      (λ r other. given-of g (race_results_tree as_place posted r)
      (race_results-of (NoneBy g) posted r (λ i f signs. refl) (λ f signs. refl) (λ c n is. none_if (r == race && c == candidate) (Some n) (and_left (r == race) (c == candidate) (ne_eqb r race other)))))
      ∙ (given-behind g flags (sets ++ totals) (given-of g flags (race_flags-of (NoneBy g) race (slice_index_or posted.flags race []) (λ i f signs. refl)))
      ∙ (given-behind g sets totals (given-of g sets (race_sets-of (NoneBy g) race (slice_index_or posted.places race []) (λ f signs. refl)))
      ∙ (first-at g (total_leaf as_place race) (slice_index_or posted.totals race []) candidate
      (λ j n other. only (g (TotalAt race j n)) ∙ none_if (race == race && j == candidate) (Some n) (and_right (race == race) (j == candidate) (ne_eqb j candidate other)))
      ∙ (ap (λ (l : List ℕ). option_and_then (λ n. first_given g (total_leaf as_place race candidate n)) (slice_get l candidate)) totals_are
      ∙ (ap (option_and_then (λ n. first_given g (total_leaf as_place race candidate n))) found.2
      ∙ rw (eq-eqb race race refl, eq-eqb candidate candidate refl) refl)))))))
    where
      others : (line : Placed) → part_of line ≢ 4 → totals_candidate race candidate line ≡ None
      others (TotalAt of at found) other = absurd (other refl)
      others line other = refl

  -- THE CODES

  -- a value that only lines of blocks give
  module _ (g : Placed → Option ℕ) (others : (line : Placed) → part_of line ≢ 3 → part_of line ≢ 7 → g line ≡ None)
      (block_gives : BallotBlock → Option ℕ) (dispute_gives : DisputeBlock → Option ℕ)
      (in_block : (one : BallotBlock) → first_given g (block_tree as_place posted.plan one) ≡ block_gives one) (in_dispute : (one : DisputeBlock) → first_given g (dispute_tree as_place one) ≡ dispute_gives one) where
    codes_found : first_given g (places_in posted) ≡ option_map_or Some (first_given block_gives posted.ballots) (first_given dispute_gives posted.disputes)
    codes_found =
        given-codes posted g others
        ∙ (ap (λ (o : Option ℕ). option_map_or Some o (first_given g (flat_map (dispute_tree as_place) posted.disputes))) (given-flat g (block_tree as_place posted.plan) block_gives posted.ballots in_block)
        ∙ ap (λ (o : Option ℕ). option_map_or Some (first_given block_gives posted.ballots) o) (given-flat g (dispute_tree as_place) dispute_gives posted.disputes in_dispute))

  papers_none : (g : Placed → Option ℕ) → ((ballot race : ℕ) (list : List ℕ) → g (PaperAt ballot race list) ≡ None) → (ballot : ℕ) (papers : List (List ℕ))
      → first_given g (paper_tree as_place ballot (races_of_ballot posted.plan ballot) papers) ≡ None
  papers_none g none ballot papers =
      let races : List ℕ = races_of_ballot posted.plan ballot in
      given-of g (paper_tree as_place ballot races papers) (papers-of (NoneBy g) none ballot races papers)

  mark : (race entry : ℕ) → marked_code posted.plan race entry (places_in posted) ≡ first_given (block_mark posted.plan race entry) posted.ballots
  mark race entry =
      let none : DisputeBlock → Option ℕ = λ one. None in
      codes_found g others (block_mark posted.plan race entry) none (λ one. in_fate one.ballot one.fate)
      (λ one. given-of g (map (code_leaf as_place block.Dispute one.ballot) one.codes) (of-all (NoneBy g) (code_leaf as_place block.Dispute one.ballot) one.codes (λ code. refl)))
      ∙ (ap (λ (o : Option ℕ). option_map_or Some (first_given (block_mark posted.plan race entry) posted.ballots) o) (given-of none posted.disputes (of-every (λ (one : DisputeBlock). none one ≡ None) posted.disputes (λ one. refl)))
      ∙ only (first_given (block_mark posted.plan race entry) posted.ballots))
    where
      g : Placed → Option ℕ
      g = posts_code posted.plan race entry

      others : (line : Placed) → part_of line ≢ 3 → part_of line ≢ 7 → posts_code posted.plan race entry line ≡ None
      others (CodeAt block.Cast ballot of column code) other claim = absurd (other refl)
      others (CodeAt block.Audited ballot of column code) other claim = refl
      others (CodeAt block.Dispute ballot of column code) other claim = refl
      others line other claim = refl

      in_line : (ballot : ℕ) (line : CastLine) → g (cast_place ballot line) ≡ cast_shown posted.plan race entry ballot line
      in_line ballot (cast.Code code) = refl
      in_line ballot line = refl

      in_fate : (ballot : ℕ) (what : BlockFate) → first_given g (fate_tree as_place posted.plan ballot what) ≡ fate_mark posted.plan race entry ballot what
      in_fate ballot (fate.Cast lines) = given-map g (cast_leaf as_place ballot) (cast_shown posted.plan race entry ballot) lines (in_line ballot)
      in_fate ballot (fate.Audited papers codes) =
          given-behind g (paper_tree as_place ballot (races_of_ballot posted.plan ballot) papers) (map (code_leaf as_place block.Audited ballot) codes) (papers_none g (λ b r l. refl) ballot papers)
          ∙ given-of g (map (code_leaf as_place block.Audited ballot) codes) (of-all (NoneBy g) (code_leaf as_place block.Audited ballot) codes (λ code. refl))
      in_fate ballot other = refl

  known : (race entry : ℕ)
      → known_code posted.plan race entry (places_in posted) ≡ option_map_or Some (first_given (block_code posted.plan race entry) posted.ballots) (first_given (dispute_code posted.plan race entry) posted.disputes)
  known race entry =
      codes_found g others (block_code posted.plan race entry) (dispute_code posted.plan race entry) (λ one. in_fate one.ballot one.fate)
      (λ one. given-map g (code_leaf as_place block.Dispute one.ballot) (code_shown posted.plan race entry one.ballot) one.codes (λ code. refl))
    where
      g : Placed → Option ℕ
      g = shows_code posted.plan race entry

      others : (line : Placed) → part_of line ≢ 3 → part_of line ≢ 7 → shows_code posted.plan race entry line ≡ None
      others (CodeAt block.Cast ballot of column code) other claim = absurd (other refl)
      others (CodeAt block.Audited ballot of column code) other claim = absurd (other refl)
      others (CodeAt block.Dispute ballot of column code) other claim = absurd (claim refl)
      others line other claim = refl

      in_line : (ballot : ℕ) (line : CastLine) → g (cast_place ballot line) ≡ cast_shown posted.plan race entry ballot line
      in_line ballot (cast.Code code) = refl
      in_line ballot line = refl

      in_fate : (ballot : ℕ) (what : BlockFate) → first_given g (fate_tree as_place posted.plan ballot what) ≡ fate_code posted.plan race entry ballot what
      in_fate ballot (fate.Cast lines) = given-map g (cast_leaf as_place ballot) (cast_shown posted.plan race entry ballot) lines (in_line ballot)
      in_fate ballot (fate.Audited papers codes) =
          given-behind g (paper_tree as_place ballot (races_of_ballot posted.plan ballot) papers) (map (code_leaf as_place block.Audited ballot) codes) (papers_none g (λ b r l. refl) ballot papers)
          ∙ given-map g (code_leaf as_place block.Audited ballot) (code_shown posted.plan race entry ballot) codes (λ code. refl)
      in_fate ballot other = refl

pub are_listed : FactsAreListed
are_listed posted = record { commitment = commitment posted; half = half posted; flag = flag posted; place = set_bit posted; total = total posted; mark = mark posted; known = known posted }
