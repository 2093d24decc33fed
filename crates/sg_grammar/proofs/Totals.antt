-- A record has few `total` lines: one for each candidate of each race.
use Rattle.std.proofs.Common.{◌≡◌, ℕ, zero, suc, ◌+◌, ◌-◌, ◌*◌, ◌==◌, ◌≤◌, nat_lt, Bool, true, false, ◌&&◌, cond, if◌then◌else◌, List, [], ◌∷◌, ◌++◌, length, map, count_by, Some, refl, subst, arith}
use Rattle.std.proofs.lemmas.List.Sums.{sum_by-cons}
use Rattle.std.proofs.lemmas.Option.{same_Some}
use Rattle.sg_lists.proofs.Bools.{one_if}
use Rattle.sg_lists.proofs.Counting.{count_by-append}
use Rattle.sg_lists.proofs.Options.{option_map-some}
use Rattle.sg_plan.specs.Limits.{most_claims}
use Rattle.sg_plan.specs.Ballots.{ballot_has, candidates_of, entries_of}
use Rattle.sg_plan.specs.declared.plan.Plan.{Plan}
use Rattle.sg_forms.specs.Said.{Said}
use Rattle.sg_forms.specs.Said.Said.{Audited, Ballots, Cast, Code, CodeCommit, Dispute, DrawFull, DrawPublic, Flags, Paper, Places, Row, RowCommit, Seal, Spoiled, Voided}
use Rattle.sg_grammar.proofs.CastLines.{cast-claim}
use Rattle.sg_grammar.proofs.Claims.{if_then-claim}
use Rattle.sg_grammar.proofs.Counting.{start-made, take_line-made}
use Rattle.sg_grammar.proofs.FirstLines.{take_bytes-line, walk-first}
use Rattle.sg_grammar.proofs.Making.{complete-sizes, made-line, made-start}
use Rattle.sg_grammar.specs.Due.{numbered, each, due_audit, ballot_codes, ballot_paper, code_commit, code_line, commits, due_flags, instance_flags, instance_row_commits, instance_rows, lines_for, due_places, race_code_commits, race_codes, race_places, race_results, race_row_commits, race_rows, race_totals, results, row_commit, row_opening, due_totals}
use Rattle.sg_grammar.specs.Head.{Making, head_line}
use Rattle.sg_grammar.specs.Left.{is_total, is_total_line, most_totals, part_totals, totals_at, totals_left}
use Rattle.sg_grammar.specs.Made.{HasSizes, IsMade}
use Rattle.sg_grammar.specs.Placed.{Placed}
use Rattle.sg_grammar.specs.Placed.Placed.{Begun, CodeAt, CodeCommitAt, Disputed, DrawnFull, DrawnPublic, FlagsAt, PaperAt, PlacesAt, RowAt, RowCommitAt, SealAt}
use Rattle.sg_grammar.specs.Walk.{Next, Posted, Taken, Walked, after_block, after_dispute, after_run, begins, behind, body_line, first_taken, headed, in_cast, in_head, is_later, place, start, take_at, take_bytes, take_line, taking, took, walk}
use Rattle.sg_grammar.specs.declared.state.Block.{Block}
use Rattle.sg_grammar.specs.declared.state.Block.TheVariants as block
use Rattle.sg_grammar.specs.declared.state.Head.{Head}
use Rattle.sg_grammar.specs.declared.state.Head.TheVariants as head
use Rattle.sg_grammar.specs.declared.state.Part.{Part}
use Rattle.sg_grammar.specs.declared.state.Part.TheVariants as part
use Rattle.sg_grammar.specs.declared.state.Slot.{Slot}
use Rattle.sg_grammar.specs.declared.state.Slot.TheVariants as slot

-- LISTS OF LINES

-- so many lists with at most so many totals each
numbered-totals : (f : ℕ → List Slot) (most at count : ℕ) → ((k : ℕ) → count_by is_total (f k) ≤ most) → count_by is_total (numbered f at count) ≤ count * most
unfolding numbered
numbered-totals f most at zero few = omega arith
numbered-totals f most at (suc count) few =
    omega (arith, count_by-append is_total (f at) (numbered f (at + 1) count), few at, numbered-totals f most (at + 1) count few)

-- lists without totals
each-none : (f : ℕ → List Slot) (end : ℕ) → ((k : ℕ) → count_by is_total (f k) ≡ 0) → count_by is_total (each f 0 end) ≡ 0
each-none f end none = omega (arith, numbered-totals f 0 0 (end - 0) (λ k. omega (arith, none k)))

-- THE LINES THAT ARE DUE

commits-none : (plan : Plan) → count_by is_total (commits plan) ≡ 0
commits-none plan =
    let codes = each-none (race_code_commits plan) (length plan.races) (λ race. each-none (code_commit race) (entries_of plan race) (λ k. refl)) in
    let rows = each-none (race_row_commits plan) (length plan.races) (λ race.
    each-none (instance_row_commits plan race) plan.instances (λ instance. each-none (row_commit race instance) (entries_of plan race) (λ k. refl))) in
    omega (
      arith,
      codes,
      rows,
      count_by-append is_total (each (race_code_commits plan) 0 (length plan.races)) (each (race_row_commits plan) 0 (length plan.races) ++ slot.Seal 1 ∷ []),
      count_by-append is_total (each (race_row_commits plan) 0 (length plan.races)) (slot.Seal 1 ∷ []),
    )

codes-none : (plan : Plan) (kind : Block) (ballot race : ℕ) → count_by is_total (race_codes plan kind ballot race) ≡ 0
codes-none plan kind ballot race = each-none (code_line kind ballot race) (candidates_of plan race) (λ k. refl)

due_audit-none : (plan : Plan) (ballot : ℕ) → count_by is_total (due_audit plan ballot) ≡ 0
due_audit-none plan ballot =
    let papers = each-none (ballot_paper plan ballot) (length plan.races) paper in
    let codes = each-none (ballot_codes plan ballot) (length plan.races) code in
    omega (arith, papers, codes, count_by-append is_total (each (ballot_paper plan ballot) 0 (length plan.races)) (each (ballot_codes plan ballot) 0 (length plan.races)))
  where
    paper : (race : ℕ) → count_by is_total (ballot_paper plan ballot race) ≡ 0
    paper race = elim (ballot_has plan ballot race) as (λ b. count_by is_total (cond b (slot.Paper ballot race (candidates_of plan race) ∷ []) []) ≡ 0) [ true ↦ refl | false ↦ refl ]

    code : (race : ℕ) → count_by is_total (ballot_codes plan ballot race) ≡ 0
    code race = elim (ballot_has plan ballot race) as (λ b. count_by is_total (cond b (race_codes plan block.Audited ballot race) []) ≡ 0)
        [ true ↦ codes-none plan block.Audited ballot race | false ↦ refl ]

-- a race has a total for each candidate
race-totals : (plan : Plan) (race : ℕ) → HasSizes plan → count_by is_total (race_results plan race) ≤ 16
race-totals plan race sizes =
    let flags = each-none (instance_flags plan race) plan.instances (λ instance. each-none (due_flags plan race instance) (lines_for (entries_of plan race)) (λ k. refl)) in
    let places = each-none (due_places plan race) (lines_for (entries_of plan race)) (λ k. refl) in
    let totals = numbered-totals (due_totals race) 1 0 (candidates_of plan race - 0) (λ k. omega arith) in
    omega (
      arith,
      flags,
      places,
      totals,
      sizes.most_candidates race,
      count_by-append is_total (each (instance_flags plan race) 0 plan.instances) (race_places plan race ++ race_totals plan race),
      count_by-append is_total (race_places plan race) (race_totals plan race),
    )

results-totals : (plan : Plan) → HasSizes plan → count_by is_total (results plan) ≤ most_totals
results-totals plan sizes =
    let all_results = numbered-totals (race_results plan) 16 0 (length plan.races - 0) (λ race. race-totals plan race sizes) in
    let rows = each-none (race_rows plan) (length plan.races) (λ race.
    each-none (instance_rows plan race) plan.instances (λ instance. each-none (row_opening race instance) (entries_of plan race) (λ k. refl))) in
    let draw = sum_by-cons (λ (s : Slot). cond (is_total s) 1 0) slot.Draw (each (race_rows plan) 0 (length plan.races) ++ slot.Seal 3 ∷ []) in
    let seal = sum_by-cons (λ (s : Slot). cond (is_total s) 1 0) (slot.Seal 2) (slot.Draw ∷ (each (race_rows plan) 0 (length plan.races) ++ slot.Seal 3 ∷ [])) in
    omega (
      arith,
      all_results,
      rows,
      draw,
      seal,
      sizes.most_races,
      count_by-append is_total (each (race_results plan) 0 (length plan.races)) (slot.Seal 2 ∷ slot.Draw ∷ (each (race_rows plan) 0 (length plan.races) ++ slot.Seal 3 ∷ [])),
      count_by-append is_total (each (race_rows plan) 0 (length plan.races)) (slot.Seal 3 ∷ []),
    )

-- A LINE BEHIND THE PLAN

-- with this line and behind it at most so many totals come
abbrev Keeps : ℕ → Taken → Type 0
Keeps most taken = one_if (is_total_line taken.placed) + totals_left taken.next ≤ most

keeps-more : (few most : ℕ) (t : Taken) → few ≤ most → Keeps few t → Keeps most t
keeps-more few most t le keeps = omega arith

-- a line behind which these lines are due
keeps-took : (plan : Plan) (due : List Slot) (may_begin : Part) (most : ℕ) (placed : Placed)
    → one_if (is_total_line placed) + (count_by is_total due + part_totals plan may_begin) ≤ most → Keeps most (took placed (behind plan due may_begin))
unfolding totals_left
keeps-took plan due may_begin most placed few = few

-- only a total is placed where one is due
abbrev IsNoMore : Slot → Placed → Type 0
IsNoMore slot placed = one_if (is_total_line placed) ≤ one_if (is_total slot)

place-total : (s : Slot) (said : Said) (placed : Placed) → place s said ≡ Some placed → IsNoMore s placed
place-total (slot.CodeCommit race entry) (CodeCommit named digest) placed e =
    if_then-claim (IsNoMore (slot.CodeCommit race entry)) (named == race) (CodeCommitAt race entry digest) placed (λ ok. omega arith) e
place-total (slot.CodeCommit race entry) said placed e = cc
place-total (slot.RowCommit race instance row) (RowCommit named of left right) placed e =
    if_then-claim (IsNoMore (slot.RowCommit race instance row)) (named == race && of == instance) (RowCommitAt race instance row left right) placed (λ ok. omega arith) e
place-total (slot.RowCommit race instance row) said placed e = cc
place-total (slot.Seal number) (Seal named digest) placed e =
    if_then-claim (IsNoMore (slot.Seal number)) (named == number) (SealAt number digest) placed (λ ok. omega arith) e
place-total (slot.Seal number) said placed e = cc
place-total (slot.Paper ballot race count) (Paper named list) placed e =
    if_then-claim (IsNoMore (slot.Paper ballot race count)) (named == race && length list == count) (PaperAt ballot race list) placed (λ ok. omega arith) e
place-total (slot.Paper ballot race count) said placed e = cc
place-total (slot.Code kind ballot race column) (Code code) placed e =
    if_then-claim (IsNoMore (slot.Code kind ballot race column)) (code.race == race && code.column == column) (CodeAt kind ballot race column code) placed (λ ok. omega arith) e
place-total (slot.Code kind ballot race column) said placed e = cc
place-total (slot.Flags race instance line count) (Flags named of bits) placed e =
    if_then-claim (IsNoMore (slot.Flags race instance line count)) ((named == race && of == instance) && length bits == count) (FlagsAt race instance (64 * line) bits) placed
    (λ ok. omega arith) e
place-total (slot.Flags race instance line count) said placed e = cc
place-total (slot.Places race line count) (Places named bits) placed e =
    if_then-claim (IsNoMore (slot.Places race line count)) (named == race && length bits == count) (PlacesAt race (64 * line) bits) placed (λ ok. omega arith) e
place-total (slot.Places race line count) said placed e = cc
place-total (slot.Total race candidate) said placed e = at_line (is_total_line placed)
  where
    at_line : (b : Bool) → one_if b ≤ 1
    at_line true = omega arith
    at_line false = omega arith
place-total slot.Draw DrawFull placed e = subst (IsNoMore slot.Draw) (same_Some DrawnFull placed e) (omega arith)
place-total slot.Draw (DrawPublic digits) placed e = subst (IsNoMore slot.Draw) (same_Some (DrawnPublic digits) placed e) (omega arith)
place-total slot.Draw said placed e = cc
place-total (slot.Row race instance row) (Row opening) placed e =
    subst (IsNoMore (slot.Row race instance row)) (same_Some (RowAt race instance row opening) placed e) (omega arith)
place-total (slot.Row race instance row) said placed e = cc

-- a line that is due
due-keeps : (plan : Plan) (s : Slot) (due : List Slot) (may_begin : Part) (said : Said) (t : Taken) → taking plan due may_begin (place s said) ≡ Some t
    → Keeps (count_by is_total (s ∷ due) + part_totals plan may_begin) t
due-keeps plan s due may_begin said t e =
    let from = option_map-some (λ line. took line (behind plan due may_begin)) (place s said) t e in
    let count = sum_by-cons (λ (x : Slot). one_if (is_total x)) s due in
    subst (λ (x : Taken). Keeps (count_by is_total (s ∷ due) + part_totals plan may_begin) x) from.2
    (keeps-took plan due may_begin (count_by is_total (s ∷ due) + part_totals plan may_begin) from.0 (omega (arith, count, place-total s said from.0 from.1)))

first_taken-keeps : (plan : Plan) (slots : List Slot) (said : Said) (t : Taken) → first_taken plan slots said ≡ Some t → Keeps (count_by is_total slots) t
first_taken-keeps plan [] said t e = cc
first_taken-keeps plan (slot ∷ due) said t e =
    keeps-more (count_by is_total (slot ∷ due) + 0) (count_by is_total (slot ∷ due)) t (omega arith) (due-keeps plan slot due (part.Disputes 0) said t e)

after_block-keeps : (plan : Plan) (last : ℕ) (said : Said) (t : Taken) → after_block plan last said ≡ Some t → Keeps (count_by is_total (results plan)) t
after_block-keeps plan last (Cast ballot) t e =
    if_then-claim (λ x. Keeps (count_by is_total (results plan)) x) (is_later plan last ballot) (took (Begun ballot) (behind plan [] (part.Cast ballot 0 0))) t
    (λ ok. keeps-took plan [] (part.Cast ballot 0 0) (count_by is_total (results plan)) (Begun ballot) (omega arith)) e
after_block-keeps plan last (Spoiled ballot) t e =
    if_then-claim (λ x. Keeps (count_by is_total (results plan)) x) (is_later plan last ballot) (took (Begun ballot) (behind plan [] (part.Ballots ballot))) t
    (λ ok. keeps-took plan [] (part.Ballots ballot) (count_by is_total (results plan)) (Begun ballot) (omega arith)) e
after_block-keeps plan last (Audited ballot) t e =
    if_then-claim (λ x. Keeps (count_by is_total (results plan)) x) (is_later plan last ballot) (took (Begun ballot) (behind plan (due_audit plan ballot) (part.Ballots ballot))) t
    (λ ok. keeps-took plan (due_audit plan ballot) (part.Ballots ballot) (count_by is_total (results plan)) (Begun ballot) (omega (arith, due_audit-none plan ballot))) e
after_block-keeps plan last (Voided ballot) t e =
    if_then-claim (λ x. Keeps (count_by is_total (results plan)) x) (plan.version == 2 && is_later plan last ballot)
    (took (Begun ballot) (behind plan [] (part.Ballots ballot))) t
    (λ ok. keeps-took plan [] (part.Ballots ballot) (count_by is_total (results plan)) (Begun ballot) (omega arith)) e
after_block-keeps plan last said t e = first_taken-keeps plan (results plan) said t e

in_cast-keeps : (plan : Plan) (ballot race column : ℕ) (said : Said) (t : Taken) → in_cast plan ballot race column said ≡ Some t → Keeps (count_by is_total (results plan)) t
in_cast-keeps plan ballot race column said t e =
    cast-claim plan ballot race column said t (λ x. Keeps (count_by is_total (results plan)) x) (after_block-keeps plan ballot said t)
    (λ line. keeps-took plan [] (part.Cast ballot line.next_race line.next_column) (count_by is_total (results plan)) line.placed (rw line.no_total (omega arith))) e

after_dispute-keeps : (plan : Plan) (count : ℕ) (said : Said) (t : Taken) → after_dispute plan count said ≡ Some t → Keeps 0 t
after_dispute-keeps plan count (Dispute ballot race code word) t e =
    if_then-claim (λ x. Keeps 0 x) (nat_lt count most_claims && (nat_lt race (length plan.races) && ballot_has plan ballot race))
    (took (Disputed ballot race code word) (behind plan (race_codes plan block.Dispute ballot race) (part.Disputes (count + 1)))) t
    (λ ok. keeps-took plan (race_codes plan block.Dispute ballot race) (part.Disputes (count + 1)) 0 (Disputed ballot race code word)
    (omega (arith, codes-none plan block.Dispute ballot race))) e
after_dispute-keeps plan count said t e = cc

begins-keeps : (plan : Plan) (may_begin : Part) (said : Said) (t : Taken) → begins plan may_begin said ≡ Some t → Keeps (part_totals plan may_begin) t
begins-keeps plan (part.Ballots last) said t e = after_block-keeps plan last said t e
begins-keeps plan (part.Cast ballot race column) said t e = in_cast-keeps plan ballot race column said t e
begins-keeps plan (part.Disputes count) said t e = after_dispute-keeps plan count said t e

body_line-keeps : (plan : Plan) (due : List Slot) (may_begin : Part) (said : Said) (t : Taken) → body_line plan due may_begin said ≡ Some t
    → Keeps (count_by is_total due + part_totals plan may_begin) t
body_line-keeps plan (slot ∷ due) may_begin said t e = due-keeps plan slot due may_begin said t e
body_line-keeps plan [] may_begin said t e =
    keeps-more (part_totals plan may_begin) (count_by is_total [] + part_totals plan may_begin) t (omega arith) (begins-keeps plan may_begin said t e)

-- A LINE OF THE PLAN

-- no plan has more totals behind it
made-totals : (plan : Plan) (stage : Head) → IsMade plan stage → totals_at plan stage [] (part.Ballots 0) ≤ most_totals
made-totals plan head.Whole kept = omega (arith, results-totals plan (complete-sizes plan kept.stands))
made-totals plan stage kept = omega arith

in_head-keeps : (plan : Plan) (stage : Head) (said : Said) (t : Taken) → IsMade plan stage → in_head plan stage said ≡ Some t → Keeps most_totals t
unfolding totals_left
in_head-keeps plan stage said t kept e =
    let from = option_map-some (headed said) (head_line plan stage said) t e in
    subst (λ (x : Taken). Keeps most_totals x) from.2 (stage_keeps from.0 (made-totals from.0.plan from.0.head (made-line plan stage said from.0 kept from.1)))
  where
    stage_keeps : (m : Making) → totals_at m.plan m.head [] (part.Ballots 0) ≤ most_totals → Keeps most_totals (headed said m)
    stage_keeps m few = omega (arith, few)

after_run-keeps : (plan : Plan) (said : Said) (t : Taken) → IsMade plan head.Runs → after_run plan said ≡ Some t → Keeps most_totals t
after_run-keeps plan (Ballots style count) t kept e = in_head-keeps plan head.Runs (Ballots style count) t kept e
after_run-keeps plan said t kept e =
    let few = results-totals plan (complete-sizes plan kept.stands) in
    keeps-more (count_by is_total (commits plan) + part_totals plan (part.Ballots 0)) most_totals t (omega (arith, few, commits-none plan))
    (body_line-keeps plan (commits plan) (part.Ballots 0) said t e)

-- THE WALK

take_at-keeps : (plan : Plan) (stage : Head) (due : List Slot) (may_begin : Part) (said : Said) (t : Taken) → IsMade plan stage → take_at plan stage due may_begin said ≡ Some t
    → Keeps (totals_at plan stage due may_begin) t
take_at-keeps plan head.Whole due may_begin said t kept e = body_line-keeps plan due may_begin said t e
take_at-keeps plan head.Runs due may_begin said t kept e = after_run-keeps plan said t kept e
take_at-keeps plan stage due may_begin said t kept e = in_head-keeps plan stage said t kept e

-- each line taken leaves as many totals to come, and a total one fewer
pub take_line-totals : (next : Next) (said : Said) (t : Taken) → IsMade next.plan next.head → take_line next said ≡ Some t
    → (if is_total_line t.placed then 1 else 0) + totals_left t.next ≤ totals_left next
unfolding totals_left take_line
take_line-totals next said t kept e = take_at-keeps next.plan next.head next.due next.part said t kept e

-- the totals among lines in their places
abbrev totals_in : List Posted → ℕ
totals_in posted = count_by is_total_line (map (λ (p : Posted). p.line) posted)

-- all totals of a walk, and those that may still come, were to come at its start
walk-totals : (next : Next) (lines : List (List ℕ)) (w : Walked) → IsMade next.plan next.head → walk next lines ≡ Some w → totals_in w.posted + totals_left w.next ≤ totals_left next
unfolding walk
walk-totals next [] w kept e =
    subst (λ (x : Walked). totals_in x.posted + totals_left x.next ≤ totals_left next) (same_none next w e) (omega arith)
  where
    same_none : (n : Next) (x : Walked) → walk n [] ≡ Some x → record { posted = []; next = n } ≡ x
    same_none n x d = same_Some (record { posted = []; next = n }) x d
walk-totals next (bytes ∷ lines) w kept e =
    let on = walk-first next bytes lines w e in
    let line = take_bytes-line next bytes on.taken on.first in
    let rest = walk-totals on.taken.next lines on.rest (take_line-made next line.0 on.taken kept line.2) on.others in
    let count = sum_by-cons (λ (x : Placed). one_if (is_total_line x)) on.taken.placed (map (λ (p : Posted). p.line) on.rest.posted) in
    subst (λ (x : Walked). totals_in x.posted + totals_left x.next ≤ totals_left next) on.is
    (omega (arith, rest, count, take_line-totals next line.0 on.taken kept line.2))

start-totals : totals_left start ≡ most_totals
unfolding totals_left
start-totals = refl

-- a record has at most 512 totals
pub front_totals : (lines : List (List ℕ)) (w : Walked) → walk start lines ≡ Some w → count_by is_total_line (map (λ (p : Posted). p.line) w.posted) ≤ 512
front_totals lines w e = omega (arith, walk-totals start lines w made-start e, start-totals)

-- and with one more line too
pub totals_few : (lines : List (List ℕ)) (w : Walked) (bytes : List ℕ) (t : Taken) → walk start lines ≡ Some w → take_bytes w.next bytes ≡ Some t
    → count_by is_total_line (map (λ (p : Posted). p.line) w.posted) + (if is_total_line t.placed then 1 else 0) ≤ 512
totals_few lines w bytes t e taken =
    let line = take_bytes-line w.next bytes t taken in
    omega (arith, walk-totals start lines w made-start e, start-totals, take_line-totals w.next line.0 t (start-made lines w e) line.2)
