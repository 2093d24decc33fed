-- The blocks of the ballots: how many lines they may still bring.
use Rattle.std.proofs.Common.{◌≡◌, ℕ, zero, suc, ◌+◌, ◌-◌, ◌*◌, ◌==◌, ◌<◌, ◌≤◌, nat_lt, nat_le, Bool, true, false, ◌&&◌, cond, if◌then◌else◌, inl, inr, List, [], ◌∷◌, length, take, drop, get_or, slice_get, count_by, Option, Some, None, refl, sym, ap, ◌∙◌, arith}
use Rattle.std.specs.List.{sum_by}
use Rattle.std.specs.Option.{option_map_or}
use Rattle.std.proofs.Math.Nat.{add-mul, mul-add}
use Rattle.std.proofs.lemmas.Bool.{cases_eq, cond-false, cond-true, eqb-true, and_parts, leb-true, ltb-true, ne_eqb, or_cases}
use Rattle.std.proofs.lemmas.List.{length-append, take-take}
use Rattle.std.proofs.lemmas.List.Sums.{sum_by-cons, sum_by-drop_more, sum_by-take-drop, sum_by-take-le}
use Rattle.std.proofs.lemmas.Nat.{mul-le}
use Rattle.std.proofs.lemmas.Option.{slice_get-get_or}
use Rattle.sg_lists.proofs.Sums.{sum-nothing}
use Rattle.sg_plan.specs.Ballots.{ballot_has, ballot_styles, ballots_of, candidates_of, entries_before, entries_of, rows_of, style_has, style_of_ballot}
use Rattle.sg_plan.specs.declared.plan.Plan.{Plan}
use Rattle.sg_grammar.proofs.Sections.{entries-rows, race_codes-length}
use Rattle.sg_grammar.specs.Due.{numbered, each, due_audit, ballot_codes, ballot_paper, race_codes}
use Rattle.sg_grammar.specs.Left.{block_left, block_lines, blocks_left, lines_before, lines_from, lines_in, lines_of}
use Rattle.sg_grammar.specs.Made.{HasSizes}
use Rattle.sg_grammar.specs.Walk.{follows_in_order}
use Rattle.sg_grammar.specs.declared.state.Block.TheVariants as block
use Rattle.sg_grammar.specs.declared.state.Slot.TheVariants as slot

-- SUMS OVER A LIST

sum-add : (f g : ℕ → ℕ) (xs : List ℕ) → sum_by (λ x. f x + g x) xs ≡ sum_by f xs + sum_by g xs
sum-add f g [] = refl
sum-add f g (x ∷ xs) = omega (arith, sum_by-cons (λ y. f y + g y) x xs, sum_by-cons f x xs, sum_by-cons g x xs, sum-add f g xs)

sum-ones : (xs : List ℕ) → sum_by (λ x. 1) xs ≡ length xs
sum-ones [] = refl
sum-ones (x ∷ xs) = omega (arith, sum_by-cons (λ y. 1) x xs, sum-ones xs)

-- the same number for each item that passes
sum-passes : (p : ℕ → Bool) (n : ℕ) (xs : List ℕ) → sum_by (λ x. cond (p x) n 0) xs ≡ count_by p xs * n
sum-passes p n [] = omega arith
sum-passes p n (x ∷ xs) =
    let first = sum_by-cons (λ y. cond (p y) n 0) x xs in
    let count = sum_by-cons (λ y. cond (p y) 1 0) x xs in
    first ∙ (ap (λ k. cond (p x) n 0 + k) (sum-passes p n xs) ∙ (one (p x) (count_by p xs) ∙ ap (λ k. k * n) (sym count)))
  where
    one : (b : Bool) (k : ℕ) → cond b n 0 + k * n ≡ (cond b 1 0 + k) * n
    one true k = omega (arith, add-mul 1 k n)
    one false k = omega (arith, add-mul 0 k n)

-- a later part has no more
sum-drop : (f : ℕ → ℕ) (xs : List ℕ) (i j : ℕ) → i ≤ j → sum_by f (drop j xs) ≤ sum_by f (drop i xs)
sum-drop f xs i j le =
    let less : sum_by f (take i xs) ≤ sum_by f (take j xs) = rw (take-take i j xs le) at (sum_by-take-le f (take j xs) i) in
    omega (arith, less, sum_by-take-drop f xs i, sum_by-take-drop f xs j)

-- THE LINES OF A BLOCK

-- more races have as many, or more
lines-rise : (plan : Plan) (style race end : ℕ) → race ≤ end → lines_before plan style race ≤ lines_before plan style end
lines-rise plan style race zero le = let none : race ≡ 0 = omega arith in rw none (omega arith)
lines-rise plan style race (suc end) le = elim (cases_eq race (suc end)) [
  | inl same ↦ rw same (omega arith)
  | inr other ↦ omega (arith, lines-rise plan style race end (omega (arith, other)))
]

-- the lines of a race that the style has
lines-here : (plan : Plan) (style race : ℕ) → style_has plan race style ≡ true → lines_in plan style race ≡ candidates_of plan race + 1
lines-here plan style race has = cond-true (style_has plan race style) (candidates_of plan race + 1) 0 has

-- a later column leaves fewer
column-falls : (plan : Plan) (style race column next_race next_column : ℕ) → style_has plan next_race style ≡ true → next_race < length plan.races
    → next_column < candidates_of plan next_race → follows_in_order race column next_race next_column ≡ true
    → lines_from plan next_race (next_column + 1) style < lines_from plan race column style
column-falls plan style race column next_race next_column has within below order =
    let here = lines-here plan style next_race has in
    let last = lines-rise plan style (suc next_race) (length plan.races) (omega arith) in
    elim (or_cases (nat_lt race next_race) (race == next_race && nat_le column next_column) order) [
      | inl later ↦ omega (arith, here, last, below, lines-rise plan style (suc race) next_race (omega (arith, ltb-true race next_race later)))
      | inr same ↦
          let parts = and_parts (race == next_race) (nat_le column next_column) same in
          let one = eqb-true race next_race parts.0 in
          let before : lines_before plan style race ≡ lines_before plan style next_race = ap (λ r. lines_before plan style r) one in
          let lines : lines_in plan style race ≡ lines_in plan style next_race = ap (λ r. lines_in plan style r) one in
          omega (arith, here, last, below, before, lines, leb-true column next_column parts.1)
    ]

-- that a race is over leaves fewer
over-falls : (plan : Plan) (style race column next_race : ℕ) → style_has plan next_race style ≡ true → next_race < length plan.races → race ≤ next_race
    → lines_from plan (next_race + 1) 0 style < lines_from plan race column style
over-falls plan style race column next_race has within le =
    let here = lines-here plan style next_race has in
    let last = lines-rise plan style (suc next_race) (length plan.races) (omega arith) in
    let next : lines_before plan style (next_race + 1) ≡ lines_before plan style (suc next_race)
    = let same : next_race + 1 ≡ suc next_race = omega arith in ap (λ r. lines_before plan style r) same in
    elim (cases_eq race next_race) [
      | inl one ↦
          let before : lines_before plan style race ≡ lines_before plan style next_race = ap (λ r. lines_before plan style r) one in
          let lines : lines_in plan style race ≡ lines_in plan style next_race = ap (λ r. lines_in plan style r) one in
          omega (arith, here, last, next, before, lines)
      | inr other ↦ omega (arith, here, last, next, lines-rise plan style (suc race) next_race (omega (arith, other)))
    ]

-- the same, in the block of a ballot that has the race
pub codes-fall : (plan : Plan) (ballot race column next_race next_column : ℕ) → ballot_has plan ballot next_race ≡ true
    → next_race < length plan.races → next_column < candidates_of plan next_race → follows_in_order race column next_race next_column ≡ true
    → block_left plan ballot next_race (next_column + 1) < block_left plan ballot race column
codes-fall plan ballot race column next_race next_column has within below order = at_style (style_of_ballot plan ballot) has
  where
    at_style : (o : Option ℕ) → option_map_or (style_has plan next_race) o false ≡ true
        → option_map_or (lines_from plan next_race (next_column + 1)) o 0 < option_map_or (lines_from plan race column) o 0
    at_style None none = cc
    at_style (Some style) some = column-falls plan style race column next_race next_column some within below order

pub overs-fall : (plan : Plan) (ballot race column next_race : ℕ) → ballot_has plan ballot next_race ≡ true → next_race < length plan.races → race ≤ next_race
    → block_left plan ballot (next_race + 1) 0 < block_left plan ballot race column
overs-fall plan ballot race column next_race has within le = at_style (style_of_ballot plan ballot) has
  where
    at_style : (o : Option ℕ) → option_map_or (style_has plan next_race) o false ≡ true
        → option_map_or (lines_from plan (next_race + 1) 0) o 0 < option_map_or (lines_from plan race column) o 0
    at_style None none = cc
    at_style (Some style) some = over-falls plan style race column next_race some within le

-- THE BLOCK OF AN AUDITED BALLOT

-- the paper and the codes of a race
due_audit-race : (plan : Plan) (ballot race : ℕ)
    → length (ballot_paper plan ballot race) + length (ballot_codes plan ballot race) ≤ (if ballot_has plan ballot race then candidates_of plan race + 1 else 0)
due_audit-race plan ballot race = at_test (ballot_has plan ballot race)
  where
    at_test : (b : Bool) → length (cond b (slot.Paper ballot race (candidates_of plan race) ∷ []) []) + length (cond b (race_codes plan block.Audited ballot race) [])
        ≤ cond b (candidates_of plan race + 1) 0
    at_test true = omega (arith, race_codes-length plan block.Audited ballot race)
    at_test false = omega arith

-- those of so many races
due_audit-races : (plan : Plan) (ballot style at count : ℕ) → ((race : ℕ) → ballot_has plan ballot race ≡ style_has plan race style)
    → length (numbered (ballot_paper plan ballot) at count) + length (numbered (ballot_codes plan ballot) at count) + lines_before plan style at ≤ lines_before plan style (at + count)
unfolding numbered
due_audit-races plan ballot style at zero has =
    let same : at + 0 ≡ at = omega arith in
    rw same (omega arith)
due_audit-races plan ballot style at (suc count) has =
    let next : lines_before plan style (at + 1) ≡ lines_before plan style (suc at) = let same : at + 1 ≡ suc at = omega arith in ap (λ r. lines_before plan style r) same in
    let end : lines_before plan style ((at + 1) + count) ≡ lines_before plan style (at + suc count)
    = let same : (at + 1) + count ≡ at + suc count = omega arith in ap (λ r. lines_before plan style r) same in
    let here : (if ballot_has plan ballot at then candidates_of plan at + 1 else 0) ≡ lines_in plan style at = ap (λ b. cond b (candidates_of plan at + 1) 0) (has at) in
    omega (
      arith,
      next,
      end,
      here,
      due_audit-race plan ballot at,
      due_audit-races plan ballot style (at + 1) count has,
      length-append (ballot_paper plan ballot at) (numbered (ballot_paper plan ballot) (at + 1) count),
      length-append (ballot_codes plan ballot at) (numbered (ballot_codes plan ballot) (at + 1) count),
    )

-- an audited ballot has no more lines behind its first one than a cast one may have
due_audit-style : (plan : Plan) (ballot style : ℕ) → style_of_ballot plan ballot ≡ Some style → length (due_audit plan ballot) ≤ lines_of plan style
due_audit-style plan ballot style is =
    let count : length plan.races - 0 ≡ length plan.races = omega arith in
    let end : lines_before plan style (0 + (length plan.races - 0)) ≡ lines_of plan style = let same : 0 + (length plan.races - 0) ≡ length plan.races = omega arith in ap (λ r. lines_before plan style r) same in
    omega (
      arith,
      end,
      due_audit-races plan ballot style 0 (length plan.races - 0) (λ race. ap (λ o. option_map_or (style_has plan race) o false) is),
      length-append (each (ballot_paper plan ballot) 0 (length plan.races)) (each (ballot_codes plan ballot) 0 (length plan.races)),
    )

-- THE BLOCKS

-- the style of a ballot of the plan
style_there : (plan : Plan) (ballot : ℕ) → 0 < ballot → ballot ≤ ballots_of plan → style_of_ballot plan ballot ≡ Some (get_or (ballot_styles plan.runs) (ballot - 1) 0)
style_there plan ballot some within =
    cond-false (ballot == 0) None (slice_get (ballot_styles plan.runs) (ballot - 1)) (ne_eqb ballot 0 (λ e. omega (arith, e)))
    ∙ slice_get-get_or (ballot_styles plan.runs) (ballot - 1) 0 (omega arith)

-- an audited ballot has no more lines behind its first one than a cast one may have
pub due_audit-length : (plan : Plan) (ballot : ℕ) → 0 < ballot → ballot ≤ ballots_of plan → length (due_audit plan ballot) ≤ block_left plan ballot 0 0
due_audit-length plan ballot some within =
    let there = style_there plan ballot some within in
    let lines : block_left plan ballot 0 0 ≡ lines_from plan 0 0 (get_or (ballot_styles plan.runs) (ballot - 1) 0) = ap (λ o. option_map_or (lines_from plan 0 0) o 0) there in
    omega (arith, lines, due_audit-style plan ballot (get_or (ballot_styles plan.runs) (ballot - 1) 0) there)

-- a later ballot leaves fewer
pub blocks-fall : (plan : Plan) (last ballot : ℕ) → last < ballot → ballot ≤ ballots_of plan → block_left plan ballot 0 0 + blocks_left plan ballot < blocks_left plan last
blocks-fall plan last ballot later within =
    let there = style_there plan ballot (omega arith) within in
    let lines : block_left plan ballot 0 0 ≡ lines_from plan 0 0 (get_or (ballot_styles plan.runs) (ballot - 1) 0) = ap (λ o. option_map_or (lines_from plan 0 0) o 0) there in
    let first = sum_by-drop_more (block_lines plan) (ballot_styles plan.runs) (ballot - 1) 0 (omega arith) in
    let next : (ballot - 1) + 1 ≡ ballot = omega arith in
    let rest : sum_by (block_lines plan) (drop ((ballot - 1) + 1) (ballot_styles plan.runs)) ≡ blocks_left plan ballot
    = ap (λ n. sum_by (block_lines plan) (drop n (ballot_styles plan.runs))) next in
    let before = sum-drop (block_lines plan) (ballot_styles plan.runs) last (ballot - 1) (omega arith) in
    omega (arith, lines, first, rest, before)

-- a race has a line for each of its entries and one for each of its ballots: half as many again as entries, or fewer
race-lines : (plan : Plan) (race : ℕ) → 2 ≤ candidates_of plan race → 2 * sum_by (λ style. lines_in plan style race) (ballot_styles plan.runs) ≤ 3 * entries_of plan race
race-lines plan race two =
    omega (
      arith,
      sum-passes (style_has plan race) (candidates_of plan race + 1) (ballot_styles plan.runs),
      mul-add (rows_of plan race) (candidates_of plan race) 1,
      mul-le (rows_of plan race) 2 (rows_of plan race) (candidates_of plan race) (omega arith) two,
    )

-- the same of the races before this one
races-lines : (plan : Plan) (end : ℕ) → HasSizes plan → end ≤ length plan.races → 2 * sum_by (λ style. lines_before plan style end) (ballot_styles plan.runs) ≤ 3 * entries_before plan end
races-lines plan zero sizes le = omega (arith, sum-nothing (ballot_styles plan.runs))
races-lines plan (suc end) sizes le =
    omega (
      arith,
      sum-add (λ style. lines_before plan style end) (λ style. lines_in plan style end) (ballot_styles plan.runs),
      races-lines plan end sizes (omega arith),
      race-lines plan end (sizes.two_candidates end (omega arith)),
    )

-- the blocks of all ballots
pub blocks-length : (plan : Plan) → HasSizes plan → blocks_left plan 0 ≤ 320000
blocks-length plan sizes =
    omega (
      arith,
      sum-add (lines_of plan) (λ style. 1) (ballot_styles plan.runs),
      races-lines plan (length plan.races) sizes (omega arith),
      sum-ones (ballot_styles plan.runs),
      entries-rows plan sizes,
      sizes.most_ballots,
    )
