-- The lines of the commitments, and those behind the ballots: they are one to one with the lists of a record.
use Rattle.std.proofs.Common.{◌≡◌, ℕ, ◌+◌, ◌-◌, ◌*◌, Bool, List, [], ◌∷◌, ◌++◌, length, get_or, slice_index_or, sym, ap, ◌∙◌, arith, ◌/◌, ◌%◌, ◌<◌, ◌==◌, nat_le, true, false, inl, inr, All, slice_index, Some, refl, subst}
use Rattle.sg_commit.specs.declared.Digest.{Digest}
use Rattle.sg_plan.specs.Ballots.{candidates_of, entries_of}
use Rattle.sg_plan.specs.declared.plan.Draw.{Draw}
use Rattle.sg_plan.specs.declared.plan.Plan.{Plan}
use Rattle.sg_forms.specs.Said.{Said}
use Rattle.sg_forms.specs.Said.Said.{Flags, Places, Seal, DrawFull, DrawPublic}
use Rattle.sg_forms.specs.declared.line.RowOpening.{RowOpening}
use Rattle.sg_grammar.specs.Due.{code_commit, commits, each, due_flags, instance_flags, instance_row_commits, instance_rows, due_places, race_code_commits, race_places, race_results, race_row_commits, race_rows, race_totals, results, row_commit, row_opening, due_totals}
use Rattle.sg_grammar.specs.Placed.{Placed}
use Rattle.sg_grammar.specs.Placed.Placed.{FlagsAt, PlacesAt, SealAt}
use Rattle.sg_grammar.specs.declared.state.Slot.TheVariants as slot
use Rattle.sg_record.proofs.BitLines.{bits-spells}
use Rattle.sg_record.proofs.EachItem.{Each-length, Each-zipped, numbered-indexed, unzipped, zipped, zipped-get, zipped-length, zipped-one}
use Rattle.sg_record.proofs.Filling.{Each, Spells, spells-change, spells-each, spells-lines, spells-pair, fits, spells-line}
use Rattle.sg_record.proofs.SlotLines.{Any, Counts, code_commit-spells, flags-spells, places-spells, row-spells, row_commit-spells, seal-spells, total-spells}
use Rattle.sg_record.specs.Tree.{as_line, as_place, code_commit_leaf, draw_leaf, flag_tree, indexed, instance_row_commit_tree, instance_row_tree, place_tree, race_code_commit_tree, race_row_commit_tree, race_row_tree, row_commit_leaf, row_leaf, total_leaf}
use Rattle.sg_record.specs.declared.record.RowCommit.{RowCommit as RowDigests}
use Rattle.std.proofs.lemmas.Bool.{agree_below_at, and_from, cases_lt, eqb-true, le-leb, true≢false}
use Rattle.std.proofs.lemmas.List.{get_or_past}
use Rattle.std.proofs.lemmas.List.Elements.{All-head, All-tail}
use Rattle.std.specs.Char.{digit_value}
use Rattle.hex.specs.Hex.{encode_with, lower_digits}
use Rattle.sg_lines.specs.Words.{encode_lower}
use Rattle.sg_plan.specs.declared.plan.Draw.TheVariants as drawn
use Rattle.sg_forms.specs.Spelling.{AreDigits, IsInRange}
use Rattle.sg_grammar.specs.Walk.{place}
use Rattle.sg_record.specs.Formed.{is_draw}

-- the digits of values below 16 differ from one another, and from what there is behind them
digit_one : (a b : ℕ) → b < 16 → slice_index lower_digits a ≡ slice_index lower_digits b → a ≡ b
digit_one a b less same =
    let value : (c : ℕ) → c < 16 → digit_value (slice_index lower_digits c) ≡ c
    = λ c small. eqb-true (digit_value (slice_index lower_digits c)) c (agree_below_at (λ d. digit_value (slice_index lower_digits d) == d) (λ d. true) 16 c refl small) in
    elim (cases_lt a 16) [
      | inl small ↦ sym (value a small) ∙ (ap digit_value same ∙ value b less)
      | inr large ↦
          let past : slice_index lower_digits a ≡ 0 = get_or_past lower_digits a 0 (omega (arith, large)) in
          let none : (slice_index lower_digits b == 0) ≡ false = agree_below_at (λ d. slice_index lower_digits d == 0) (λ d. false) 16 b refl less in
          absurd (true≢false (ap (λ n. n == 0) (sym past ∙ same) ∙ none))
    ]

-- bytes are those that their digits spell
pub digits_one : (xs ys : List ℕ) → All (λ byte. byte < 256) ys → encode_lower xs ≡ encode_lower ys → xs ≡ ys
unfolding encode_with
digits_one [] [] small same = refl
digits_one [] (y ∷ ys) small same = cc
digits_one (x ∷ xs) [] small same = cc
digits_one (x ∷ xs) (y ∷ ys) small same =
    let byte = All-head (λ b. b < 256) y ys small in
    let high : slice_index lower_digits (x / 16) ≡ slice_index lower_digits (y / 16) = cc in
    let low : slice_index lower_digits (x % 16) ≡ slice_index lower_digits (y % 16) = cc in
    let others : encode_with lower_digits xs ≡ encode_with lower_digits ys = cc in
    let highs = digit_one (x / 16) (y / 16) (omega (arith, byte)) high in
    let lows = digit_one (x % 16) (y % 16) (omega arith) low in
    let first : x ≡ y = omega (arith, highs, lows) in
    ap (λ z. z ∷ xs) first ∙ ap (λ l. y ∷ l) (digits_one xs ys (All-tail (λ b. b < 256) y ys small) others)

-- a draw whose public bytes are bytes, and not too many
abbrev pub IsDraw : ℕ → Draw → Type 0
IsDraw version draw = (is_draw draw ≡ true) × IsInRange version (draw_leaf as_line draw)

draw_one : (version : ℕ) (x y : Draw) → IsDraw version x → IsDraw version y → draw_leaf as_line x ≡ draw_leaf as_line y → x ≡ y
draw_one version drawn.Full drawn.Full p q same = refl
draw_one version drawn.Full (drawn.Public ys) p q same = cc
draw_one version (drawn.Public xs) drawn.Full p q same = cc
draw_one version (drawn.Public xs) (drawn.Public ys) p q same =
    let digits : encode_lower xs ≡ encode_lower ys = cc in
    let bytes : List ℕ = q.1.0 in
    let left : xs ≡ bytes = digits_one xs bytes q.1.2 (digits ∙ q.1.1) in
    let right : ys ≡ bytes = digits_one ys bytes q.1.2 q.1.1 in
    ap drawn.Public (left ∙ sym right)

pub draw-spells : (version : ℕ) → Spells version (IsDraw version) (λ (draw : Draw). draw_leaf as_line draw ∷ []) (λ (draw : Draw). draw_leaf as_place draw ∷ []) (slot.Draw ∷ [])
draw-spells version = spells-line version (IsDraw version) (draw_leaf as_line) (draw_leaf as_place) slot.Draw into from (draw_one version)
  where
    into : (draw : Draw) → IsDraw version draw → place slot.Draw (draw_leaf as_line draw) ≡ Some (draw_leaf as_place draw)
    into drawn.Full passes = refl
    into (drawn.Public bytes) passes = refl

    from : (said : Said) → fits slot.Draw said ≡ true → IsInRange version said → (x : Draw) × IsDraw version x × (said ≡ draw_leaf as_line x)
    from DrawFull there fit = (drawn.Full, (refl, tt), refl)
    from (DrawPublic digits) there fit = (
      drawn.Public fit.0,
      (and_from (nat_le 1 (length fit.0)) (nat_le (length fit.0) 4096) (le-leb 1 (length fit.0) fit.3) (le-leb (length fit.0) 4096 fit.4), subst AreDigits fit.1 fit),
      ap DrawPublic fit.1,
    )
    from said there fit = cc

-- SECTION 1

-- an item for each entry of each race
abbrev pub HasEntries : {A : Type 0} → Plan → List (List A) → Type 0
HasEntries {A} plan lists = Each (λ (race : ℕ). Each (λ (entry : ℕ) (x : A). Any x) 0 (entries_of plan race - 0)) 0 (length plan.races - 0) lists

-- an item for each row of each instance of each race
abbrev pub HasRows : {A : Type 0} → Plan → List (List (List A)) → Type 0
HasRows {A} plan lists =
    Each (λ (race : ℕ). Each (λ (instance : ℕ). Each (λ (row : ℕ) (x : A). Any x) 0 (entries_of plan race - 0)) 0 (plan.instances - 0)) 0 (length plan.races - 0) lists

pub code_commits-spells : (version : ℕ) (plan : Plan) → Spells version (HasEntries {A = Digest} plan) (indexed (race_code_commit_tree as_line) 0) (indexed (race_code_commit_tree as_place) 0) (each (race_code_commits plan) 0 (length plan.races))
code_commits-spells version plan =
    spells-each version (λ (race : ℕ). Each (λ (entry : ℕ) (x : Digest). Any x) 0 (entries_of plan race - 0)) (race_code_commit_tree as_line) (race_code_commit_tree as_place) (race_code_commits plan)
    (λ race. spells-each version (λ (entry : ℕ) (x : Digest). Any x) (code_commit_leaf as_line race) (code_commit_leaf as_place race) (code_commit race) (code_commit-spells version race) 0 (entries_of plan race - 0))
    0 (length plan.races - 0)

pub row_commits-spells : (version : ℕ) (plan : Plan) → Spells version (HasRows {A = RowDigests} plan) (indexed (race_row_commit_tree as_line) 0) (indexed (race_row_commit_tree as_place) 0) (each (race_row_commits plan) 0 (length plan.races))
row_commits-spells version plan =
    spells-each version (λ (race : ℕ). Each (λ (instance : ℕ). Each (λ (row : ℕ) (x : RowDigests). Any x) 0 (entries_of plan race - 0)) 0 (plan.instances - 0))
    (race_row_commit_tree as_line) (race_row_commit_tree as_place) (race_row_commits plan)
    (λ race. spells-each version (λ (instance : ℕ). Each (λ (row : ℕ) (x : RowDigests). Any x) 0 (entries_of plan race - 0)) (instance_row_commit_tree as_line race) (instance_row_commit_tree as_place race)
    (instance_row_commits plan race)
    (λ instance. spells-each version (λ (row : ℕ) (x : RowDigests). Any x) (row_commit_leaf as_line race instance) (row_commit_leaf as_place race instance) (row_commit race instance) (row_commit-spells version race instance)
    0 (entries_of plan race - 0))
    0 (plan.instances - 0))
    0 (length plan.races - 0)

-- the commitments and the first seal
abbrev pub Commits : Type 0
Commits = List (List Digest) × (List (List (List RowDigests)) × Digest)

abbrev pub AreCommits : Plan → Commits → Type 0
AreCommits plan c = HasEntries plan c.0 × (HasRows plan c.1.0 × Any c.1.1)

abbrev pub lines_of_commits : Commits → List Said
lines_of_commits c = indexed (race_code_commit_tree as_line) 0 c.0 ++ (indexed (race_row_commit_tree as_line) 0 c.1.0 ++ Seal 1 c.1.1 ∷ [])

abbrev pub places_of_commits : Commits → List Placed
places_of_commits c = indexed (race_code_commit_tree as_place) 0 c.0 ++ (indexed (race_row_commit_tree as_place) 0 c.1.0 ++ SealAt 1 c.1.1 ∷ [])

pub commits-spells : (version : ℕ) (plan : Plan) → Spells version (AreCommits plan) lines_of_commits places_of_commits (commits plan)
commits-spells version plan =
    spells-pair version (HasEntries plan) (λ (c : List (List (List RowDigests)) × Digest). HasRows plan c.0 × Any c.1)
    (indexed (race_code_commit_tree as_line) 0) (λ (c : List (List (List RowDigests)) × Digest). indexed (race_row_commit_tree as_line) 0 c.0 ++ Seal 1 c.1 ∷ [])
    (indexed (race_code_commit_tree as_place) 0) (λ (c : List (List (List RowDigests)) × Digest). indexed (race_row_commit_tree as_place) 0 c.0 ++ SealAt 1 c.1 ∷ [])
    (each (race_code_commits plan) 0 (length plan.races)) (each (race_row_commits plan) 0 (length plan.races) ++ slot.Seal 1 ∷ [])
    (code_commits-spells version plan)
    (spells-pair version (HasRows plan) Any (indexed (race_row_commit_tree as_line) 0) (λ (digest : Digest). Seal 1 digest ∷ []) (indexed (race_row_commit_tree as_place) 0) (λ (digest : Digest). SealAt 1 digest ∷ [])
    (each (race_row_commits plan) 0 (length plan.races)) (slot.Seal 1 ∷ [])
    (row_commits-spells version plan) (seal-spells version 1))

-- THE RESULTS

-- the flags of each instance of a race, its places and its totals
abbrev pub Tally : Type 0
Tally = List (List Bool) × (List Bool × List ℕ)

abbrev pub HasFlags : Plan → ℕ → List (List Bool) → Type 0
HasFlags plan race = Each (λ (instance : ℕ). Counts (entries_of plan race)) 0 (plan.instances - 0)

abbrev pub HasPlaces : Plan → ℕ → List Bool → Type 0
HasPlaces plan race = Counts (entries_of plan race)

abbrev pub HasTotals : Plan → ℕ → List ℕ → Type 0
HasTotals plan race = Each (λ (candidate : ℕ) (x : ℕ). Any x) 0 (candidates_of plan race - 0)

abbrev pub IsTally : Plan → ℕ → Tally → Type 0
IsTally plan race t = HasFlags plan race t.0 × (HasPlaces plan race t.1.0 × HasTotals plan race t.1.1)

abbrev pub tally_lines : ℕ → Tally → List Said
tally_lines race t = indexed (flag_tree as_line race) 0 t.0 ++ (place_tree as_line race t.1.0 ++ indexed (total_leaf as_line race) 0 t.1.1)

abbrev pub tally_places : ℕ → Tally → List Placed
tally_places race t = indexed (flag_tree as_place race) 0 t.0 ++ (place_tree as_place race t.1.0 ++ indexed (total_leaf as_place race) 0 t.1.1)

pub flags_all-spells : (version : ℕ) (plan : Plan) (race : ℕ)
    → Spells version (HasFlags plan race) (indexed (flag_tree as_line race) 0) (indexed (flag_tree as_place race) 0) (each (instance_flags plan race) 0 plan.instances)
flags_all-spells version plan race =
    spells-each version (λ (instance : ℕ). Counts (entries_of plan race)) (flag_tree as_line race) (flag_tree as_place race) (instance_flags plan race)
    (λ instance. bits-spells version (entries_of plan race) (Flags race instance) (λ line. FlagsAt race instance (64 * line)) (due_flags plan race instance)
    (λ line. flags-spells version race instance line _))
    0 (plan.instances - 0)

pub places_all-spells : (version : ℕ) (plan : Plan) (race : ℕ) → Spells version (HasPlaces plan race) (place_tree as_line race) (place_tree as_place race) (race_places plan race)
places_all-spells version plan race = bits-spells version (entries_of plan race) (Places race) (λ line. PlacesAt race (64 * line)) (due_places plan race) (λ line. places-spells version race line _)

pub tally-spells : (version : ℕ) (plan : Plan) (race : ℕ) → Spells version (IsTally plan race) (tally_lines race) (tally_places race) (race_results plan race)
tally-spells version plan race =
    spells-pair version (HasFlags plan race) (λ (t : List Bool × List ℕ). HasPlaces plan race t.0 × HasTotals plan race t.1)
    (indexed (flag_tree as_line race) 0) (λ (t : List Bool × List ℕ). place_tree as_line race t.0 ++ indexed (total_leaf as_line race) 0 t.1)
    (indexed (flag_tree as_place race) 0) (λ (t : List Bool × List ℕ). place_tree as_place race t.0 ++ indexed (total_leaf as_place race) 0 t.1)
    (each (instance_flags plan race) 0 plan.instances) (race_places plan race ++ race_totals plan race)
    (flags_all-spells version plan race)
    (spells-pair version (HasPlaces plan race) (HasTotals plan race) (place_tree as_line race) (indexed (total_leaf as_line race) 0) (place_tree as_place race) (indexed (total_leaf as_place race) 0)
    (race_places plan race) (race_totals plan race)
    (places_all-spells version plan race)
    (spells-each version (λ (candidate : ℕ) (x : ℕ). Any x) (total_leaf as_line race) (total_leaf as_place race) (due_totals race) (total-spells version race) 0 (candidates_of plan race - 0)))

-- flags, places and totals of all races
abbrev pub Tallies : Type 0
Tallies = List (List (List Bool)) × (List (List Bool) × List (List ℕ))

abbrev pub AreTallies : Plan → Tallies → Type 0
AreTallies plan t =
    Each (HasFlags plan) 0 (length plan.races - 0) t.0
    × (Each (HasPlaces plan) 0 (length plan.races - 0) t.1.0 × Each (HasTotals plan) 0 (length plan.races - 0) t.1.1)

-- those of a race
abbrev pub tally_of : Tallies → ℕ → Tally
tally_of t race = (slice_index_or t.0 race [], (slice_index_or t.1.0 race [], slice_index_or t.1.1 race []))

abbrev pub lines_of_tallies : Plan → Tallies → List Said
lines_of_tallies plan t = each (λ race. tally_lines race (tally_of t race)) 0 (length plan.races)

abbrev pub places_of_tallies : Plan → Tallies → List Placed
places_of_tallies plan t = each (λ race. tally_places race (tally_of t race)) 0 (length plan.races)

-- race by race
abbrev pub by_race : Tallies → List Tally
by_race t = zipped t.0 (zipped t.1.0 t.1.1)

pub tallies-lengths : (plan : Plan) (t : Tallies) → AreTallies plan t → (length t.0 ≡ length plan.races - 0) × (length t.1.0 ≡ length plan.races - 0) × (length t.1.1 ≡ length plan.races - 0)
tallies-lengths plan t are =
    (Each-length (HasFlags plan) 0 (length plan.races - 0) t.0 are.0, Each-length (HasPlaces plan) 0 (length plan.races - 0) t.1.0 are.1.0, Each-length (HasTotals plan) 0 (length plan.races - 0) t.1.1 are.1.1)

pub tallies-into : (plan : Plan) (t : Tallies) → AreTallies plan t → Each (IsTally plan) 0 (length plan.races - 0) (by_race t)
tallies-into plan t are =
    Each-zipped (HasFlags plan) (λ (race : ℕ) (p : List Bool × List ℕ). HasPlaces plan race p.0 × HasTotals plan race p.1) 0 (length plan.races - 0) t.0 (zipped t.1.0 t.1.1) are.0
    (Each-zipped (HasPlaces plan) (HasTotals plan) 0 (length plan.races - 0) t.1.0 t.1.1 are.1.0 are.1.1)

tallies-from : (plan : Plan) (list : List Tally) → Each (IsTally plan) 0 (length plan.races - 0) list → (t : Tallies) × AreTallies plan t × (by_race t ≡ list)
tallies-from plan list passes =
    let outer = unzipped (HasFlags plan) (λ (race : ℕ) (p : List Bool × List ℕ). HasPlaces plan race p.0 × HasTotals plan race p.1) 0 (length plan.races - 0) list passes in
    let inner = unzipped (HasPlaces plan) (HasTotals plan) 0 (length plan.races - 0) outer.right outer.rights in
    ((outer.left, (inner.left, inner.right)), (outer.lefts, (inner.lefts, inner.rights)), ap (zipped outer.left) inner.are ∙ outer.are)

tallies-one : (plan : Plan) (t u : Tallies) → AreTallies plan t → AreTallies plan u → by_race t ≡ by_race u → t ≡ u
tallies-one plan t u p q same =
    let some = tallies-lengths plan t p in
    let many = tallies-lengths plan u q in
    let left = zipped-length t.1.0 t.1.1 (some.2 ∙ sym some.1) in
    let right = zipped-length u.1.0 u.1.1 (many.2 ∙ sym many.1) in
    let outer = zipped-one t.0 u.0 (zipped t.1.0 t.1.1) (zipped u.1.0 u.1.1) (left ∙ (some.1 ∙ sym some.0)) (right ∙ (many.1 ∙ sym many.0)) same in
    let inner = zipped-one t.1.0 u.1.0 t.1.1 u.1.1 (some.2 ∙ sym some.1) (many.2 ∙ sym many.1) outer.1 in
    ap (λ (x : List (List (List Bool))). let whole : Tallies = (x, t.1) in whole) outer.0
    ∙ (ap (λ (x : List (List Bool)). let whole : Tallies = (u.0, (x, t.1.1)) in whole) inner.0 ∙ ap (λ (x : List (List ℕ)). let whole : Tallies = (u.0, (u.1.0, x)) in whole) inner.1)

pub tallies-each : {A : Type 0} (f : ℕ → Tally → List A) (plan : Plan) (t : Tallies) → AreTallies plan t → indexed f 0 (by_race t) ≡ each (λ race. f race (tally_of t race)) 0 (length plan.races)
tallies-each f plan t are =
    let many = tallies-lengths plan t are in
    let inner = zipped-length t.1.0 t.1.1 (many.2 ∙ sym many.1) in
    let outer = zipped-length t.0 (zipped t.1.0 t.1.1) (inner ∙ (many.1 ∙ sym many.0)) in
    let item : ℕ → Tally = λ race. (get_or t.0 race [], (get_or t.1.0 race [], get_or t.1.1 race [])) in
    sym (numbered-indexed f item ([], ([], [])) 0 (length plan.races - 0) (by_race t) (outer ∙ many.0)
    (λ race less.
    let here : 0 + race ≡ race = omega arith in
    zipped-get t.0 (zipped t.1.0 t.1.1) race [] ([], []) (inner ∙ (many.1 ∙ sym many.0)) (omega (arith, many.0, less))
    ∙ (ap (λ (p : List Bool × List ℕ). let whole : Tally = (get_or t.0 race [], p) in whole) (zipped-get t.1.0 t.1.1 race [] [] (many.2 ∙ sym many.1) (omega (arith, many.1, less)))
    ∙ ap item (sym here))))

pub tallies-spells : (version : ℕ) (plan : Plan) → Spells version (AreTallies plan) (lines_of_tallies plan) (places_of_tallies plan) (each (race_results plan) 0 (length plan.races))
tallies-spells version plan =
    spells-lines version (AreTallies plan) (λ (t : Tallies). indexed tally_lines 0 (by_race t)) (lines_of_tallies plan) (λ (t : Tallies). indexed tally_places 0 (by_race t)) (places_of_tallies plan)
    (each (race_results plan) 0 (length plan.races)) (tallies-each tally_lines plan) (tallies-each tally_places plan)
    (spells-change version (Each (IsTally plan) 0 (length plan.races - 0)) (AreTallies plan) (indexed tally_lines 0) (indexed tally_places 0) (each (race_results plan) 0 (length plan.races)) by_race
    (tallies-into plan) (tallies-from plan) (tallies-one plan)
    (spells-each version (IsTally plan) tally_lines tally_places (race_results plan) (tally-spells version plan) 0 (length plan.races - 0)))

-- SECTION 3

pub rows-spells : (version : ℕ) (plan : Plan) → Spells version (HasRows {A = RowOpening} plan) (indexed (race_row_tree as_line) 0) (indexed (race_row_tree as_place) 0) (each (race_rows plan) 0 (length plan.races))
rows-spells version plan =
    spells-each version (λ (race : ℕ). Each (λ (instance : ℕ). Each (λ (row : ℕ) (x : RowOpening). Any x) 0 (entries_of plan race - 0)) 0 (plan.instances - 0))
    (race_row_tree as_line) (race_row_tree as_place) (race_rows plan)
    (λ race. spells-each version (λ (instance : ℕ). Each (λ (row : ℕ) (x : RowOpening). Any x) 0 (entries_of plan race - 0)) (instance_row_tree as_line race) (instance_row_tree as_place race) (instance_rows plan race)
    (λ instance. spells-each version (λ (row : ℕ) (x : RowOpening). Any x) (row_leaf as_line race instance) (row_leaf as_place race instance) (row_opening race instance) (row-spells version race instance) 0 (entries_of plan race - 0))
    0 (plan.instances - 0))
    0 (length plan.races - 0)

-- the rows and the third seal
abbrev pub Openings : Type 0
Openings = List (List (List RowOpening)) × Digest

-- all that follows the ballots, but for the disputes
abbrev pub Results : Type 0
Results = Tallies × (Digest × (Draw × Openings))

abbrev pub AreResults : ℕ → Plan → Results → Type 0
AreResults version plan r = AreTallies plan r.0 × (Any r.1.0 × (IsDraw version r.1.1.0 × (HasRows plan r.1.1.1.0 × Any r.1.1.1.1)))

abbrev pub lines_of_results : Plan → Results → List Said
lines_of_results plan r =
    lines_of_tallies plan r.0 ++ ((Seal 2 r.1.0 ∷ []) ++ ((draw_leaf as_line r.1.1.0 ∷ []) ++ (indexed (race_row_tree as_line) 0 r.1.1.1.0 ++ Seal 3 r.1.1.1.1 ∷ [])))

abbrev pub places_of_results : Plan → Results → List Placed
places_of_results plan r =
    places_of_tallies plan r.0 ++ ((SealAt 2 r.1.0 ∷ []) ++ ((draw_leaf as_place r.1.1.0 ∷ []) ++ (indexed (race_row_tree as_place) 0 r.1.1.1.0 ++ SealAt 3 r.1.1.1.1 ∷ [])))

pub results-spells : (version : ℕ) (plan : Plan) → Spells version (AreResults version plan) (lines_of_results plan) (places_of_results plan) (results plan)
results-spells version plan =
    spells-pair version (AreTallies plan) (λ (r : Digest × (Draw × Openings)). Any r.0 × (IsDraw version r.1.0 × (HasRows plan r.1.1.0 × Any r.1.1.1)))
    (lines_of_tallies plan) (λ (r : Digest × (Draw × Openings)). (Seal 2 r.0 ∷ []) ++ ((draw_leaf as_line r.1.0 ∷ []) ++ (indexed (race_row_tree as_line) 0 r.1.1.0 ++ Seal 3 r.1.1.1 ∷ [])))
    (places_of_tallies plan) (λ (r : Digest × (Draw × Openings)). (SealAt 2 r.0 ∷ []) ++ ((draw_leaf as_place r.1.0 ∷ []) ++ (indexed (race_row_tree as_place) 0 r.1.1.0 ++ SealAt 3 r.1.1.1 ∷ [])))
    (each (race_results plan) 0 (length plan.races)) (slot.Seal 2 ∷ slot.Draw ∷ (each (race_rows plan) 0 (length plan.races) ++ slot.Seal 3 ∷ []))
    (tallies-spells version plan)
    (spells-pair version Any (λ (r : Draw × Openings). IsDraw version r.0 × (HasRows plan r.1.0 × Any r.1.1))
    (λ (digest : Digest). Seal 2 digest ∷ []) (λ (r : Draw × Openings). (draw_leaf as_line r.0 ∷ []) ++ (indexed (race_row_tree as_line) 0 r.1.0 ++ Seal 3 r.1.1 ∷ []))
    (λ (digest : Digest). SealAt 2 digest ∷ []) (λ (r : Draw × Openings). (draw_leaf as_place r.0 ∷ []) ++ (indexed (race_row_tree as_place) 0 r.1.0 ++ SealAt 3 r.1.1 ∷ []))
    (slot.Seal 2 ∷ []) (slot.Draw ∷ (each (race_rows plan) 0 (length plan.races) ++ slot.Seal 3 ∷ []))
    (seal-spells version 2)
    (spells-pair version (IsDraw version) (λ (r : Openings). HasRows plan r.0 × Any r.1)
    (λ (draw : Draw). draw_leaf as_line draw ∷ []) (λ (r : Openings). indexed (race_row_tree as_line) 0 r.0 ++ Seal 3 r.1 ∷ [])
    (λ (draw : Draw). draw_leaf as_place draw ∷ []) (λ (r : Openings). indexed (race_row_tree as_place) 0 r.0 ++ SealAt 3 r.1 ∷ [])
    (slot.Draw ∷ []) (each (race_rows plan) 0 (length plan.races) ++ slot.Seal 3 ∷ [])
    (draw-spells version)
    (spells-pair version (HasRows plan) Any (indexed (race_row_tree as_line) 0) (λ (digest : Digest). Seal 3 digest ∷ []) (indexed (race_row_tree as_place) 0) (λ (digest : Digest). SealAt 3 digest ∷ [])
    (each (race_rows plan) 0 (length plan.races)) (slot.Seal 3 ∷ [])
    (rows-spells version plan) (seal-spells version 3))))
