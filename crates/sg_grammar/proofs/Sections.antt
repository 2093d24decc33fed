-- How many lines are due behind a plan of certain sizes: never many.
use Rattle.std.proofs.Common.{◌≡◌, ℕ, zero, suc, ◌+◌, ◌-◌, ◌*◌, ◌≤◌, List, [], ◌∷◌, ◌++◌, length, ap, ◌∙◌, arith}
use Rattle.std.proofs.Math.Nat.{add-mul, mul-add, mul_left_comm}
use Rattle.std.proofs.lemmas.List.{length-append}
use Rattle.std.proofs.lemmas.Nat.{mul-le}
use Rattle.sg_plan.specs.Ballots.{all_entries, candidates_of, entries_before, entries_of}
use Rattle.sg_plan.specs.declared.plan.Plan.{Plan}
use Rattle.sg_grammar.specs.Due.{numbered, each, code_commit, code_line, commits, due_flags, instance_flags, instance_row_commits, instance_rows, lines_for, due_places, race_code_commits, race_codes, race_places, race_results, race_row_commits, race_rows, race_totals, results, row_commit, row_opening, due_totals}
use Rattle.sg_grammar.specs.Made.{HasSizes}
use Rattle.sg_grammar.specs.declared.state.Block.{Block}
use Rattle.sg_grammar.specs.declared.state.Slot.{Slot}
use Rattle.sg_grammar.specs.declared.state.Slot.TheVariants as slot

-- so many lists of at most so many items
numbered-length : {A : Type 0} (f : ℕ → List A) (most at count : ℕ) → ((k : ℕ) → length (f k) ≤ most) → length (numbered f at count) ≤ count * most
unfolding numbered
numbered-length f most at zero few = omega arith
numbered-length f most at (suc count) few =
    omega (arith, length-append (f at) (numbered f (at + 1) count), few at, numbered-length f most (at + 1) count few)

-- the same, of at most so many lists
pub each-length : {A : Type 0} (f : ℕ → List A) (most count end : ℕ) → ((k : ℕ) → length (f k) ≤ most) → end ≤ count → length (each f 0 end) ≤ count * most
each-length f most count end few less =
    let lists = numbered-length f most 0 (end - 0) few in
    let product = mul-le (end - 0) most count most (omega arith) (omega arith) in
    omega (arith, lists, product)

-- so many lists, each of which has so many items for each entry of a race, and some more
numbered-entries : {A : Type 0} (plan : Plan) (f : ℕ → List A) (b a more at count : ℕ) → ((k : ℕ) → b * length (f k) ≤ a * entries_of plan k + more)
    → b * length (numbered f at count) + a * entries_before plan at ≤ a * entries_before plan (at + count) + count * more
unfolding numbered
numbered-entries plan f b a more at zero few =
    let same : at + 0 ≡ at = omega arith in
    rw same (omega arith)
numbered-entries plan f b a more at (suc count) few =
    let next : at + 1 ≡ suc at = omega arith in
    let end : (at + 1) + count ≡ at + suc count = omega arith in
    let joined : b * length (f at ++ numbered f (at + 1) count) ≡ b * length (f at) + b * length (numbered f (at + 1) count)
    = ap (λ n. b * n) (length-append (f at) (numbered f (at + 1) count)) ∙ mul-add b (length (f at)) (length (numbered f (at + 1) count)) in
    let before : a * entries_before plan (at + 1) ≡ a * entries_before plan at + a * entries_of plan at
    = ap (λ n. a * entries_before plan n) next ∙ mul-add a (entries_before plan at) (entries_of plan at) in
    let behind : a * entries_before plan ((at + 1) + count) ≡ a * entries_before plan (at + suc count) = ap (λ n. a * entries_before plan n) end in
    omega (arith, joined, few at, numbered-entries plan f b a more (at + 1) count few, before, behind)

-- the same, of all races
races-length : {A : Type 0} (plan : Plan) (f : ℕ → List A) (b a more : ℕ) → ((k : ℕ) → b * length (f k) ≤ a * entries_of plan k + more)
    → b * length (each f 0 (length plan.races)) ≤ a * all_entries plan + length plan.races * more
races-length plan f b a more few =
    let all : 0 + (length plan.races - 0) ≡ length plan.races = omega arith in
    let lists : length plan.races - 0 ≡ length plan.races = omega arith in
    let sum = numbered-entries plan f b a more 0 (length plan.races - 0) few in
    let entries : a * entries_before plan (0 + (length plan.races - 0)) ≡ a * all_entries plan = ap (λ n. a * entries_before plan n) all in
    let others : (length plan.races - 0) * more ≡ length plan.races * more = ap (λ n. n * more) lists in
    omega (arith, sum, entries, others)

-- 64 bits stand on a line, but on the last
lines_for-bits : (bits : ℕ) → 64 * lines_for bits ≤ bits + 63
lines_for-bits bits = omega arith

-- a plan of these sizes has no more entries than rows of table R
pub entries-rows : (plan : Plan) → HasSizes plan → all_entries plan ≤ 200000
entries-rows plan sizes = omega (arith, sizes.most_rows, mul-le 1 (all_entries plan) plan.instances (all_entries plan) sizes.one_instance (omega arith))

-- lines for each instance and entry of a race
instances-length : {A : Type 0} (plan : Plan) (race : ℕ) (f : ℕ → List A) → ((k : ℕ) → length (f k) ≤ entries_of plan race)
    → length (each f 0 plan.instances) ≤ plan.instances * entries_of plan race
instances-length plan race f few = each-length f (entries_of plan race) plan.instances plan.instances few (omega arith)

-- lines for each entry of a race
entry-lines : (plan : Plan) (race : ℕ) (f : ℕ → List Slot) → ((k : ℕ) → length (f k) ≤ 1) → length (each f 0 (entries_of plan race)) ≤ entries_of plan race
entry-lines plan race f one = omega (arith, each-length f 1 (entries_of plan race) (entries_of plan race) one (omega arith))

-- section 1
pub commits-length : (plan : Plan) → HasSizes plan → length (commits plan) ≤ 400001
commits-length plan sizes =
    let codes = races-length plan (race_code_commits plan) 1 1 0 (λ race. omega (arith, entry-lines plan race (code_commit race) (λ k. omega arith))) in
    let rows = races-length plan (race_row_commits plan) 1 plan.instances 0 (λ race.
    omega (arith, instances-length plan race (instance_row_commits plan race) (λ instance. entry-lines plan race (row_commit race instance) (λ k. omega arith)))) in
    omega (
      arith,
      codes,
      rows,
      entries-rows plan sizes,
      sizes.most_rows,
      length-append (each (race_code_commits plan) 0 (length plan.races)) (each (race_row_commits plan) 0 (length plan.races) ++ slot.Seal 1 ∷ []),
      length-append (each (race_row_commits plan) 0 (length plan.races)) (slot.Seal 1 ∷ []),
    )

-- the results of a race, 64 times
race_results-length : (plan : Plan) (race : ℕ) → HasSizes plan → 64 * length (race_results plan race) ≤ (plan.instances + 1) * entries_of plan race + (63 * plan.instances + 1087)
race_results-length plan race sizes =
    let few = lines_for-bits (entries_of plan race) in
    let flags : (instance : ℕ) → length (instance_flags plan race instance) ≤ lines_for (entries_of plan race)
    = λ instance. omega (arith, each-length (due_flags plan race instance) 1 (lines_for (entries_of plan race)) (lines_for (entries_of plan race)) (λ k. omega arith) (omega arith)) in
    let all_flags = each-length (instance_flags plan race) (lines_for (entries_of plan race)) plan.instances plan.instances flags (omega arith) in
    let bits = mul-le plan.instances (64 * lines_for (entries_of plan race)) plan.instances (entries_of plan race + 63) (omega arith) few in
    let places = each-length (due_places plan race) 1 (lines_for (entries_of plan race)) (lines_for (entries_of plan race)) (λ k. omega arith) (omega arith) in
    let totals = each-length (due_totals race) 1 16 (candidates_of plan race) (λ k. omega arith) (sizes.most_candidates race) in
    omega (
      arith,
      few,
      all_flags,
      bits,
      places,
      totals,
      mul_left_comm plan.instances 64 (lines_for (entries_of plan race)),
      mul-add plan.instances (entries_of plan race) 63,
      add-mul plan.instances 1 (entries_of plan race),
      length-append (each (instance_flags plan race) 0 plan.instances) (race_places plan race ++ race_totals plan race),
      length-append (race_places plan race) (race_totals plan race),
    )

-- sections 2 and 3, behind the ballots
pub results-length : (plan : Plan) → HasSizes plan → length (results plan) ≤ 207300
results-length plan sizes =
    let all_results = races-length plan (race_results plan) 64 (plan.instances + 1) (63 * plan.instances + 1087) (λ race. race_results-length plan race sizes) in
    let others = mul-le (length plan.races) (63 * plan.instances + 1087) 32 2095 sizes.most_races (omega (arith, sizes.most_instances)) in
    let rows = races-length plan (race_rows plan) 1 plan.instances 0 (λ race.
    omega (arith, instances-length plan race (instance_rows plan race) (λ instance. entry-lines plan race (row_opening race instance) (λ k. omega arith)))) in
    omega (
      arith,
      all_results,
      others,
      rows,
      entries-rows plan sizes,
      sizes.most_rows,
      add-mul plan.instances 1 (all_entries plan),
      length-append (each (race_results plan) 0 (length plan.races)) (slot.Seal 2 ∷ slot.Draw ∷ (each (race_rows plan) 0 (length plan.races) ++ slot.Seal 3 ∷ [])),
      length-append (each (race_rows plan) 0 (length plan.races)) (slot.Seal 3 ∷ []),
    )

-- SECTION 2: THE CODES OF A RACE

pub race_codes-length : (plan : Plan) (kind : Block) (ballot race : ℕ) → length (race_codes plan kind ballot race) ≤ candidates_of plan race
race_codes-length plan kind ballot race =
    omega (arith, each-length (code_line kind ballot race) 1 (candidates_of plan race) (candidates_of plan race) (λ k. omega arith) (omega arith))
