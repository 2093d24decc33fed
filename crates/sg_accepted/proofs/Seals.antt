-- Kind seal over a whole posted record: each of the three seals is over all lines before it.
use Rattle.std.proofs.Common.{◌≡◌, ℕ, zero, suc, ◌+◌, ◌-◌, Bool, true, not, List, [], ◌∷◌, ◌++◌, length, map, slice_index_or, refl, sym, subst, ap, ◌∙◌, append_assoc, append-nil, arith}
use Rattle.std.proofs.lemmas.List.{length-map}
use Rattle.std.specs.List.{flat_map, zip}
use Rattle.sg_lists.proofs.Each.{EachOf, of-append}
use Rattle.sg_plan.specs.declared.plan.Draw.{Draw}
use Rattle.sg_plan.specs.declared.plan.Draw.TheVariants as drawn
use Rattle.sg_plan.specs.declared.plan.Plan.{Plan}
use Rattle.sg_commit.specs.declared.Digest.{Digest}
use Rattle.sg_forms.specs.Said.{Said}
use Rattle.sg_forms.specs.Said.Said.{Paper, Seal}
use Rattle.sg_forms.specs.Spelling.{spelling}
use Rattle.sg_grammar.specs.Due.{each, lines_for, numbered}
use Rattle.sg_grammar.specs.Placed.{Placed}
use Rattle.sg_grammar.specs.Placed.Placed.{OfPlan, PaperAt, SealAt}
use Rattle.sg_grammar.specs.Walk.{Posted}
use Rattle.sg_record.specs.Lines.{lines_in, plan_lines}
use Rattle.sg_record.specs.declared.record.Record.{Record}
use Rattle.sg_record.specs.declared.record.BallotBlock.{BallotBlock}
use Rattle.sg_record.specs.declared.record.BlockFate.{BlockFate}
use Rattle.sg_record.specs.declared.record.BlockFate.TheVariants as blocked
use Rattle.sg_record.specs.declared.record.CastLine.{CastLine}
use Rattle.sg_record.specs.declared.record.CastLine.TheVariants as cast
use Rattle.sg_check.specs.Kinds.{is_bad}
use Rattle.sg_check.specs.declared.judged.Kind.TheVariants as kind
use Rattle.sg_post.specs.Posted.{by_entry, by_row, code_commit_of, dispute_of, opened_row, posted_record, row_commit_of, seal_1, seal_2, seal_3, seal_over, told_blocks}
use Rattle.sg_post.specs.declared.story.Claimed.{Claimed}
use Rattle.sg_post.specs.declared.story.Told.{Told}
use Rattle.sg_facts.proofs.Finding.{of-each}
use Rattle.sg_facts.proofs.Sections.{ballots-of, codes-of, disputes-of, plan-of, race_results-of, row_commits-of, rows-of}
use Rattle.sg_accepted.proofs.Late.{Good, good-append}
use Rattle.sg_accepted.proofs.Seal.{both-length, is_seal, posts-append, section-good, unsealed-good}
use Rattle.sg_grammar.specs.declared.state.Block.TheVariants as block
use Rattle.sg_record.specs.Places.{places_in, posts}
use Rattle.sg_record.specs.Tree.{as_line, as_place, block_tree, cast_leaf, cast_place, code_commit_leaf, code_leaf, dispute_tree, draw_leaf, fate_tree, flag_leaf, flag_tree, indexed, instance_row_commit_tree, instance_row_tree, paper_tree, place_leaf, place_tree, race_code_commit_tree, race_results_tree, race_row_commit_tree, race_row_tree, row_commit_leaf, row_leaf, total_leaf}
use Rattle.sg_plan.specs.Ballots.{races_of_ballot}

-- LISTS PUT TOGETHER OTHERWISE

group : {A : Type 0} (p c r s : List A) → p ++ (c ++ (r ++ s)) ≡ (p ++ (c ++ r)) ++ s
group p c r s = sym (append_assoc p (c ++ r) s ∙ ap (λ l. p ++ l) (append_assoc c r s))

group_front : {A : Type 0} (p c r s x : List A) → p ++ ((c ++ (r ++ s)) ++ x) ≡ (p ++ (c ++ r)) ++ (s ++ x)
group_front p c r s x =
    ap (λ l. p ++ (l ++ x)) (sym (append_assoc c r s)) ∙ (ap (λ l. p ++ l) (append_assoc (c ++ r) s x) ∙ sym (append_assoc p (c ++ r) (s ++ x)))

-- the lines of a record, or their places
group_lines : {A : Type 0} (p c r s b e t o u d : List A)
    → p ++ ((c ++ (r ++ s)) ++ (b ++ ((e ++ t) ++ ((o ++ u) ++ d)))) ≡ (p ++ (c ++ r)) ++ (s ++ ((b ++ e) ++ (t ++ (o ++ (u ++ d)))))
group_lines p c r s b e t o u d =
    group_front p c r s (b ++ ((e ++ t) ++ ((o ++ u) ++ d)))
    ∙ ap (λ l. (p ++ (c ++ r)) ++ (s ++ l))
    (ap (λ l. b ++ l) (append_assoc e t ((o ++ u) ++ d)) ∙ (sym (append_assoc b e (t ++ ((o ++ u) ++ d))) ∙ ap (λ l. (b ++ e) ++ (t ++ l)) (append_assoc o u d)))

-- A SECTION AND ITS SEAL

-- no line is a seal
abbrev NoSeals : List Placed → Type 0
NoSeals places = EachOf (λ (line : Placed). not (is_seal line) ≡ true) places

no-seals : (version : ℕ) (lines : List Said) (places : List Placed) → NoSeals places → EachOf (λ (l : Posted). not (is_seal l.line) ≡ true) (posts version lines places)
no-seals version [] places all = tt
no-seals version (said ∷ lines) [] all = tt
no-seals version (said ∷ lines) (placed ∷ places) all = (all.0, no-seals version lines places all.1)

over-step : (plan : Plan) (before lines rest : List Said) (places_before places others : List Placed) (number : ℕ) (digest : Digest)
    → digest ≡ seal_over plan (before ++ lines) → length before ≡ length places_before → length lines ≡ length places → NoSeals places
    → Good (is_bad kind.Seal plan) (posts plan.version (before ++ (lines ++ Seal number digest ∷ [])) (places_before ++ (places ++ SealAt number digest ∷ []))) (posts plan.version rest others)
    → Good (is_bad kind.Seal plan) (posts plan.version before places_before) (posts plan.version (lines ++ (Seal number digest ∷ rest)) (places ++ (SealAt number digest ∷ others)))
over-step plan before lines rest places_before places others number digest is first second none behind =
    let v : ℕ = plan.version in
    let seal : Posted = record { bytes = spelling v (Seal number digest); line = SealAt number digest } in
    let here : Good (is_bad kind.Seal plan) (posts v before places_before) (posts v lines places ++ seal ∷ [])
    = subst (λ (d : Digest). Good (is_bad kind.Seal plan) (posts v before places_before) (posts v lines places ++ record { bytes = spelling v (Seal number d); line = SealAt number d } ∷ [])) (sym is)
    (section-good plan v before lines places_before places number refl first second (no-seals v lines places none)) in
    let front : posts v (before ++ (lines ++ Seal number digest ∷ [])) (places_before ++ (places ++ SealAt number digest ∷ [])) ≡ posts v before places_before ++ (posts v lines places ++ seal ∷ [])
    = posts-append v before (lines ++ Seal number digest ∷ []) places_before (places ++ SealAt number digest ∷ []) first
    ∙ ap (λ (l : List Posted). posts v before places_before ++ l) (posts-append v lines (Seal number digest ∷ []) places (SealAt number digest ∷ []) second) in
    let all : posts v (lines ++ (Seal number digest ∷ rest)) (places ++ (SealAt number digest ∷ others)) ≡ (posts v lines places ++ seal ∷ []) ++ posts v rest others
    = posts-append v lines (Seal number digest ∷ rest) places (SealAt number digest ∷ others) second ∙ sym (append_assoc (posts v lines places) (seal ∷ []) (posts v rest others)) in
    subst (λ (l : List Posted). Good (is_bad kind.Seal plan) (posts v before places_before) l) (sym all)
    (good-append (is_bad kind.Seal plan) (posts v before places_before) (posts v lines places ++ seal ∷ []) (posts v rest others) here
    (subst (λ (l : List Posted). Good (is_bad kind.Seal plan) l (posts v rest others)) front behind))

-- LENGTHS

-- lines and places that are as many for each item
items-length : {A : Type 0} (g : ℕ → A → List Said) (h : ℕ → A → List Placed) (at : ℕ) (xs : List A) → ((k : ℕ) (x : A) → length (g k x) ≡ length (h k x)) → length (indexed g at xs) ≡ length (indexed h at xs)
unfolding indexed
items-length g h at [] same = refl
items-length g h at (x ∷ xs) same = both-length (g at x) (indexed g (at + 1) xs) (h at x) (indexed h (at + 1) xs) (same at x) (items-length g h (at + 1) xs same)

-- and for each number
numbers-length : (g : ℕ → List Said) (h : ℕ → List Placed) (at count : ℕ) → ((k : ℕ) → length (g k) ≡ length (h k)) → length (numbered g at count) ≡ length (numbered h at count)
unfolding numbered
numbers-length g h at zero same = refl
numbers-length g h at (suc count) same = both-length (g at) (numbered g (at + 1) count) (h at) (numbered h (at + 1) count) (same at) (numbers-length g h (at + 1) count same)

-- both are maps of one list
maps-length : {A B C : Type 0} (g : A → B) (h : A → C) (xs : List A) → length (map g xs) ≡ length (map h xs)
maps-length g h xs = length-map xs g ∙ sym (length-map xs h)

fate-length : (plan : Plan) (ballot : ℕ) (what : BlockFate) → length (fate_tree as_line plan ballot what) ≡ length (fate_tree as_place plan ballot what)
fate-length plan ballot (blocked.Cast lines) = ap (λ (n : ℕ). suc n) (maps-length (cast_leaf as_line ballot) (cast_leaf as_place ballot) lines)
fate-length plan ballot (blocked.Audited papers codes) =
    let races : List ℕ = races_of_ballot plan ballot in
    ap (λ (n : ℕ). suc n)
    (both-length (paper_tree as_line ballot races papers) (map (code_leaf as_line block.Audited ballot) codes) (paper_tree as_place ballot races papers) (map (code_leaf as_place block.Audited ballot) codes)
    (maps-length (λ (one : ℕ × List ℕ). Paper one.0 one.1) (λ (one : ℕ × List ℕ). PaperAt ballot one.0 one.1) (zip races papers)) (maps-length (code_leaf as_line block.Audited ballot) (code_leaf as_place block.Audited ballot) codes))
fate-length plan ballot other = refl

blocks-length : (plan : Plan) (blocks : List BallotBlock) → length (flat_map (block_tree as_line plan) blocks) ≡ length (flat_map (block_tree as_place plan) blocks)
blocks-length plan [] = refl
blocks-length plan (one ∷ blocks) =
    both-length (block_tree as_line plan one) (flat_map (block_tree as_line plan) blocks) (block_tree as_place plan one) (flat_map (block_tree as_place plan) blocks)
    (fate-length plan one.ballot one.fate) (blocks-length plan blocks)

-- THE RECORD

draw-no_seal : (draw : Draw) → not (is_seal (draw_leaf as_place draw)) ≡ true
draw-no_seal drawn.Full = refl
draw-no_seal (drawn.Public bytes) = refl

cast-no_seal : (ballot : ℕ) (line : CastLine) → not (is_seal (cast_place ballot line)) ≡ true
cast-no_seal ballot (cast.Code code) = refl
cast-no_seal ballot line = refl

-- no line but a seal is one
abbrev IsNoSeal : Placed → Type 0
IsNoSeal line = not (is_seal line) ≡ true

module _ (plan : Plan) (seed : List ℕ) (fates : List Told) (draw : Draw) (claims : List Claimed) where
  abbrev record_of : Record
  record_of = posted_record plan seed fates draw claims

  abbrev codes : List Said
  codes = indexed (race_code_commit_tree as_line) 0 (by_entry plan (code_commit_of plan seed))

  abbrev pairs : List Said
  pairs = indexed (race_row_commit_tree as_line) 0 (by_row plan (row_commit_of plan seed))

  abbrev blocks : List Said
  blocks = flat_map (block_tree as_line plan) (flat_map (told_blocks plan seed) fates)

  abbrev tallies : List Said
  tallies = each (race_results_tree as_line (posted_record plan seed fates draw claims)) 0 (length plan.races)

  abbrev rows : List Said
  rows = indexed (race_row_tree as_line) 0 (by_row plan (opened_row plan seed fates draw))

  abbrev disputes : List Said
  disputes = flat_map (dispute_tree as_line) (map (dispute_of plan seed) claims)

  -- what stands before the first seal, between it and the second, and between that and the third
  abbrev one : List Said
  one = plan_lines plan ++ (codes ++ pairs)

  abbrev two : List Said
  two = blocks ++ tallies

  abbrev three : List Said
  three = draw_leaf as_line draw ∷ rows

  abbrev codes_places : List Placed
  codes_places = indexed (race_code_commit_tree as_place) 0 record_of.code_commits

  abbrev pairs_places : List Placed
  pairs_places = indexed (race_row_commit_tree as_place) 0 record_of.row_commits

  abbrev block_places : List Placed
  block_places = flat_map (block_tree as_place plan) record_of.ballots

  abbrev tally_places : List Placed
  tally_places = each (race_results_tree as_place record_of) 0 (length plan.races)

  abbrev rows_places : List Placed
  rows_places = indexed (race_row_tree as_place) 0 record_of.rows

  abbrev claim_places : List Placed
  claim_places = flat_map (dispute_tree as_place) record_of.disputes

  abbrev one_places : List Placed
  one_places = map OfPlan (plan_lines plan) ++ (codes_places ++ pairs_places)

  abbrev two_places : List Placed
  two_places = block_places ++ tally_places

  abbrev three_places : List Placed
  three_places = draw_leaf as_place draw ∷ rows_places

  abbrev seal_line_1 : List Said
  seal_line_1 = Seal 1 (seal_1 plan seed) ∷ []

  abbrev seal_line_2 : List Said
  seal_line_2 = Seal 2 (seal_2 plan seed fates) ∷ []

  abbrev seal_place_1 : List Placed
  seal_place_1 = SealAt 1 (seal_1 plan seed) ∷ []

  abbrev seal_place_2 : List Placed
  seal_place_2 = SealAt 2 (seal_2 plan seed fates) ∷ []

  -- each seal is over what stands before it
  first_is : seal_1 plan seed ≡ seal_over plan one
  unfolding seal_1
  first_is = ap (λ (l : List Said). seal_over plan (plan_lines plan ++ (codes ++ l))) (append-nil pairs)

  second_is : seal_2 plan seed fates ≡ seal_over plan ((one ++ seal_line_1) ++ two)
  unfolding seal_2
  second_is = ap (λ (l : List Said). seal_over plan (l ++ (blocks ++ (tallies ++ [])))) (group (plan_lines plan) codes pairs seal_line_1) ∙ ap (λ (l : List Said). seal_over plan ((one ++ seal_line_1) ++ (blocks ++ l))) (append-nil tallies)

  third_is : seal_3 plan seed fates draw ≡ seal_over plan (((one ++ seal_line_1) ++ (two ++ seal_line_2)) ++ three)
  unfolding seal_3
  third_is =
      ap (λ (l : List Said). seal_over plan ((l ++ (blocks ++ (tallies ++ seal_line_2))) ++ (draw_leaf as_line draw ∷ (rows ++ [])))) (group (plan_lines plan) codes pairs seal_line_1)
      ∙ (ap (λ (l : List Said). seal_over plan (((one ++ seal_line_1) ++ l) ++ (draw_leaf as_line draw ∷ (rows ++ [])))) (sym (append_assoc blocks tallies seal_line_2))
      ∙ ap (λ (l : List Said). seal_over plan (((one ++ seal_line_1) ++ (two ++ seal_line_2)) ++ (draw_leaf as_line draw ∷ l))) (append-nil rows))

  -- as many lines as places
  codes_length : length codes ≡ length codes_places
  codes_length =
      items-length (race_code_commit_tree as_line) (race_code_commit_tree as_place) 0 (by_entry plan (code_commit_of plan seed)) (λ race digests. items-length (code_commit_leaf as_line race) (code_commit_leaf as_place race) 0 digests (λ entry digest. refl))

  pairs_length : length pairs ≡ length pairs_places
  pairs_length =
      items-length (race_row_commit_tree as_line) (race_row_commit_tree as_place) 0 (by_row plan (row_commit_of plan seed))
      (λ race instances. items-length (instance_row_commit_tree as_line race) (instance_row_commit_tree as_place race) 0 instances
      (λ instance commits. items-length (row_commit_leaf as_line race instance) (row_commit_leaf as_place race instance) 0 commits (λ row commit. refl)))

  one_length : length one ≡ length one_places
  one_length =
      both-length (plan_lines plan) (codes ++ pairs) (map OfPlan (plan_lines plan)) (codes_places ++ pairs_places) (sym (length-map (plan_lines plan) OfPlan))
      (both-length codes pairs codes_places pairs_places codes_length pairs_length)

  race_length : (race : ℕ) → length (race_results_tree as_line (posted_record plan seed fates draw claims) race) ≡ length (race_results_tree as_place (posted_record plan seed fates draw claims) race)
  race_length race =
      let posted : Record = posted_record plan seed fates draw claims in
      let flags : List (List Bool) = slice_index_or posted.flags race [] in
      let places : List Bool = slice_index_or posted.places race [] in
      let totals : List ℕ = slice_index_or posted.totals race [] in
      both-length (indexed (flag_tree as_line race) 0 flags) (place_tree as_line race places ++ indexed (total_leaf as_line race) 0 totals)
      (indexed (flag_tree as_place race) 0 flags) (place_tree as_place race places ++ indexed (total_leaf as_place race) 0 totals)
      (items-length (flag_tree as_line race) (flag_tree as_place race) 0 flags
      (λ instance bits. numbers-length (flag_leaf as_line race instance bits) (flag_leaf as_place race instance bits) 0 (lines_for (length bits) - 0) (λ line. refl)))
      (both-length (place_tree as_line race places) (indexed (total_leaf as_line race) 0 totals) (place_tree as_place race places) (indexed (total_leaf as_place race) 0 totals)
      (numbers-length (place_leaf as_line race places) (place_leaf as_place race places) 0 (lines_for (length places) - 0) (λ line. refl))
      (items-length (total_leaf as_line race) (total_leaf as_place race) 0 totals (λ candidate count. refl)))

  tallies_length : length tallies ≡ length tally_places
  tallies_length =
      numbers-length (race_results_tree as_line (posted_record plan seed fates draw claims)) (race_results_tree as_place (posted_record plan seed fates draw claims)) 0 (length plan.races - 0) race_length

  two_length : length two ≡ length two_places
  two_length = both-length blocks tallies block_places tally_places (blocks-length plan (flat_map (told_blocks plan seed) fates)) tallies_length

  rows_length : length rows ≡ length rows_places
  rows_length =
      items-length (race_row_tree as_line) (race_row_tree as_place) 0 (by_row plan (opened_row plan seed fates draw))
      (λ race instances. items-length (instance_row_tree as_line race) (instance_row_tree as_place race) 0 instances
      (λ instance openings. items-length (row_leaf as_line race instance) (row_leaf as_place race instance) 0 openings (λ row opening. refl)))

  three_length : length three ≡ length three_places
  three_length = omega (arith, rows_length)

  -- the seals
  one_none : NoSeals one_places
  one_none =
      of-append IsNoSeal (map OfPlan (plan_lines plan)) (codes_places ++ pairs_places) (plan-of IsNoSeal plan (λ said. refl))
      (of-append IsNoSeal codes_places pairs_places (codes-of IsNoSeal record_of (λ r e d. refl)) (row_commits-of IsNoSeal record_of (λ r i x a b. refl)))

  two_none : NoSeals two_places
  two_none =
      of-append IsNoSeal block_places tally_places (ballots-of IsNoSeal (λ b. refl) cast-no_seal (λ b r l. refl) (λ b code. refl) plan record_of.ballots)
      (of-each IsNoSeal (race_results_tree as_place record_of) 0 (length plan.races) (λ race. race_results-of IsNoSeal record_of race (λ i f b. refl) (λ f b. refl) (λ c n is. refl)))

  three_none : NoSeals three_places
  three_none = (draw-no_seal draw, rows-of IsNoSeal record_of (λ r i x o is. refl))

  four_none : NoSeals claim_places
  four_none = disputes-of IsNoSeal record_of.disputes (λ b r c w. refl) (λ b r c code. refl)

  pub seals-good : Good (is_bad kind.Seal plan) [] (posts plan.version (lines_in (posted_record plan seed fates draw claims)) (places_in (posted_record plan seed fates draw claims)))
  unfolding places_in
  seals-good =
      let seal_3_line : List Said = Seal 3 (seal_3 plan seed fates draw) ∷ [] in
      let seal_3_place : List Placed = SealAt 3 (seal_3 plan seed fates draw) ∷ [] in
      let behind_1 : List Said = one ++ seal_line_1 in
      let places_1 : List Placed = one_places ++ seal_place_1 in
      let behind_2 : List Said = behind_1 ++ (two ++ seal_line_2) in
      let places_2 : List Placed = places_1 ++ (two_places ++ seal_place_2) in
      let length_1 : length behind_1 ≡ length places_1 = both-length one seal_line_1 one_places seal_place_1 one_length refl in
      let length_2 : length behind_2 ≡ length places_2 = both-length behind_1 (two ++ seal_line_2) places_1 (two_places ++ seal_place_2) length_1 (both-length two seal_line_2 two_places seal_place_2 two_length refl) in
      let last = unsealed-good plan (posts plan.version (behind_2 ++ (three ++ seal_3_line)) (places_2 ++ (three_places ++ seal_3_place))) (posts plan.version disputes claim_places)
      (no-seals plan.version disputes claim_places four_none) in
      let third = over-step plan behind_2 three disputes places_2 three_places claim_places 3 (seal_3 plan seed fates draw) third_is length_2 three_length three_none last in
      let second = over-step plan behind_1 two (three ++ (Seal 3 (seal_3 plan seed fates draw) ∷ disputes)) places_1 two_places (three_places ++ (SealAt 3 (seal_3 plan seed fates draw) ∷ claim_places))
      2 (seal_2 plan seed fates) second_is length_1 two_length two_none third in
      let first = over-step plan [] one (two ++ (Seal 2 (seal_2 plan seed fates) ∷ (three ++ (Seal 3 (seal_3 plan seed fates draw) ∷ disputes)))) [] one_places
      (two_places ++ (SealAt 2 (seal_2 plan seed fates) ∷ (three_places ++ (SealAt 3 (seal_3 plan seed fates draw) ∷ claim_places)))) 1 (seal_1 plan seed) first_is refl one_length one_none second in
      let same_lines : lines_in (posted_record plan seed fates draw claims) ≡ one ++ (seal_line_1 ++ (two ++ (seal_line_2 ++ (three ++ (seal_3_line ++ disputes)))))
      = group_lines (plan_lines plan) codes pairs seal_line_1 blocks tallies seal_line_2 three seal_3_line disputes in
      let same_places : places_in record_of ≡ one_places ++ (seal_place_1 ++ (two_places ++ (seal_place_2 ++ (three_places ++ (seal_3_place ++ claim_places)))))
      = group_lines (map OfPlan (plan_lines plan)) codes_places pairs_places seal_place_1 block_places tally_places seal_place_2 three_places seal_3_place claim_places in
      subst (λ (l : List Said). Good (is_bad kind.Seal plan) [] (posts plan.version l (places_in record_of))) (sym same_lines)
      (subst (λ (p : List Placed). Good (is_bad kind.Seal plan) [] (posts plan.version (one ++ (seal_line_1 ++ (two ++ (seal_line_2 ++ (three ++ (seal_3_line ++ disputes)))))) p)) (sym same_places) first)
