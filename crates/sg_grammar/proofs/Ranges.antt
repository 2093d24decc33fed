-- The numbers of each line of a record are in its plan, and what it shows is in its range.
use Rattle.std.proofs.Common.{◌≡◌, ℕ, zero, suc, ◌+◌, ◌-◌, ◌*◌, ◌<◌, ◌≤◌, ◌==◌, nat_le, nat_lt, Bool, true, false, ◌&&◌, cond, inl, inr, List, [], ◌∷◌, ◌++◌, length, Option, Some, None, refl, sym, subst, ap, ◌∙◌, arith}
use Rattle.std.proofs.lemmas.Bool.{and_parts, eqb-true, leb-true, ltb-true}
use Rattle.std.proofs.lemmas.Option.{same_Some}
use Rattle.sg_lists.proofs.Options.{option_map-some}
use Rattle.sg_plan.specs.Limits.{most_claims}
use Rattle.sg_plan.specs.Ballots.{ballot_has, ballots_of, candidates_of, entries_of}
use Rattle.sg_plan.specs.declared.plan.Plan.{Plan}
use Rattle.sg_forms.proofs.LineLaws.{lines_are_spelled}
use Rattle.sg_forms.specs.Said.{Said}
use Rattle.sg_forms.specs.Said.Said.{Audited, Ballots, Cast, Code, CodeCommit, Dispute, DrawFull, DrawPublic, Flags, Paper, Places, Row, RowCommit, Seal, Spoiled, Total, Voided}
use Rattle.sg_forms.specs.Spelling.{IsInRange}
use Rattle.sg_grammar.proofs.CastLines.{cast-claim, race_of}
use Rattle.sg_grammar.proofs.Claims.{if_then-claim}
use Rattle.sg_grammar.proofs.FirstLines.{take_bytes-line, walk-first}
use Rattle.sg_grammar.proofs.Walking.{take_line-behind, take_line-head, take_line-plan}
use Rattle.sg_grammar.specs.Due.{due_audit, ballot_codes, ballot_paper, bits_on, code_commit, code_line, commits, each, due_flags, instance_flags, instance_row_commits, instance_rows, lines_for, numbered, due_places, race_code_commits, race_codes, race_places, race_results, race_row_commits, race_rows, race_totals, results, row_commit, row_opening, due_totals}
use Rattle.sg_grammar.specs.Head.{Making, head_line}
use Rattle.sg_grammar.specs.Laws.{LinesAreInPlan}
use Rattle.sg_grammar.specs.Lines.{IsAmong, placed_of}
use Rattle.sg_grammar.specs.Parting.{IsLineIn}
use Rattle.sg_grammar.specs.Placed.{Placed}
use Rattle.sg_grammar.specs.Placed.Placed.{Begun, CodeAt, CodeCommitAt, Disputed, DrawnFull, DrawnPublic, FlagsAt, PaperAt, PlacesAt, RowAt, RowCommitAt, SealAt, TotalAt}
use Rattle.sg_grammar.specs.Walk.{Next, Taken, Walked, after_block, after_dispute, after_run, begins, behind, body_line, first_taken, headed, in_cast, in_head, is_later, place, start, take_at, take_line, took, walk}
use Rattle.sg_grammar.specs.declared.state.Block.{Block}
use Rattle.sg_grammar.specs.declared.state.Block.TheVariants as block
use Rattle.sg_grammar.specs.declared.state.Head.{Head}
use Rattle.sg_grammar.specs.declared.state.Head.TheVariants as head
use Rattle.sg_grammar.specs.declared.state.Part.{Part}
use Rattle.sg_grammar.specs.declared.state.Part.TheVariants as part
use Rattle.sg_grammar.specs.declared.state.Slot.{Slot}
use Rattle.sg_grammar.specs.declared.state.Slot.TheVariants as slot

-- LINES THAT ARE DUE

-- the numbers of a line that is due are in the plan
abbrev IsSlotIn : Plan → Slot → Type 0
IsSlotIn plan (slot.CodeCommit race entry) = (race < length plan.races) × (entry < entries_of plan race)
IsSlotIn plan (slot.RowCommit race instance row) = (race < length plan.races) × (instance < plan.instances) × (row < entries_of plan race)
IsSlotIn plan (slot.Seal number) = Unit {0}
IsSlotIn plan (slot.Paper ballot race count) = (race < length plan.races) × (1 ≤ ballot) × (ballot ≤ ballots_of plan) × (ballot_has plan ballot race ≡ true) × (count ≡ candidates_of plan race)
IsSlotIn plan (slot.Code kind ballot race column) = (race < length plan.races) × (1 ≤ ballot) × (ballot ≤ ballots_of plan) × (ballot_has plan ballot race ≡ true) × (column < candidates_of plan race)
IsSlotIn plan (slot.Flags race instance line count) = (race < length plan.races) × (instance < plan.instances) × (64 * line + count ≤ entries_of plan race)
IsSlotIn plan (slot.Places race line count) = (race < length plan.races) × (64 * line + count ≤ entries_of plan race)
IsSlotIn plan (slot.Total race candidate) = (race < length plan.races) × (candidate < candidates_of plan race)
IsSlotIn plan slot.Draw = Unit {0}
IsSlotIn plan (slot.Row race instance row) = (race < length plan.races) × (instance < plan.instances) × (row < entries_of plan race)

-- the same of each of the lines that are due
abbrev AreSlotsIn : Plan → List Slot → Type 0
AreSlotsIn plan [] = Unit {0}
AreSlotsIn plan (s ∷ slots) = IsSlotIn plan s × AreSlotsIn plan slots

slots_append : (plan : Plan) (xs ys : List Slot) → AreSlotsIn plan xs → AreSlotsIn plan ys → AreSlotsIn plan (xs ++ ys)
slots_append plan [] ys a b = b
slots_append plan (x ∷ xs) ys a b = (a.0, slots_append plan xs ys a.1 b)

slots_numbered : (plan : Plan) (f : ℕ → List Slot) (at count : ℕ) → ((k : ℕ) → at ≤ k → k < at + count → AreSlotsIn plan (f k)) → AreSlotsIn plan (numbered f at count)
unfolding numbered
slots_numbered plan f at zero within = tt
slots_numbered plan f at (suc count) within =
    slots_append plan (f at) (numbered f (at + 1) count) (within at (omega arith) (omega arith)) (slots_numbered plan f (at + 1) count (λ k low high. within k (omega arith) (omega arith)))

slots_each : (plan : Plan) (f : ℕ → List Slot) (end : ℕ) → ((k : ℕ) → k < end → AreSlotsIn plan (f k)) → AreSlotsIn plan (each f 0 end)
slots_each plan f end within = slots_numbered plan f 0 (end - 0) (λ k low high. within k (omega arith))

commits_in : (plan : Plan) → AreSlotsIn plan (commits plan)
commits_in plan =
    slots_append plan (each (race_code_commits plan) 0 (length plan.races)) (each (race_row_commits plan) 0 (length plan.races) ++ slot.Seal 1 ∷ [])
    (slots_each plan (race_code_commits plan) (length plan.races) (λ race a. slots_each plan (code_commit race) (entries_of plan race) (λ entry b. ((a, b), tt))))
    (slots_append plan (each (race_row_commits plan) 0 (length plan.races)) (slot.Seal 1 ∷ [])
    (slots_each plan (race_row_commits plan) (length plan.races) (λ race a.
    slots_each plan (instance_row_commits plan race) plan.instances (λ instance b. slots_each plan (row_commit race instance) (entries_of plan race) (λ row c. ((a, b, c), tt)))))
    (tt, tt))

bits_in : (bits line : ℕ) → line < lines_for bits → 64 * line + bits_on bits line ≤ bits
bits_in bits line less = omega (arith, less)

results_in : (plan : Plan) → AreSlotsIn plan (results plan)
results_in plan =
    slots_append plan (each (race_results plan) 0 (length plan.races)) (slot.Seal 2 ∷ slot.Draw ∷ (each (race_rows plan) 0 (length plan.races) ++ slot.Seal 3 ∷ []))
    (slots_each plan (race_results plan) (length plan.races) (λ race a. race_in race a)) (
      tt,
      (
        tt,
        slots_append plan (each (race_rows plan) 0 (length plan.races)) (slot.Seal 3 ∷ [])
            (slots_each plan (race_rows plan) (length plan.races) (λ race a.
            slots_each plan (instance_rows plan race) plan.instances (λ instance b. slots_each plan (row_opening race instance) (entries_of plan race) (λ row c. ((a, b, c), tt)))))
            (tt, tt),
      ),
    )
  where
    race_in : (race : ℕ) → race < length plan.races → AreSlotsIn plan (race_results plan race)
    race_in race a =
        slots_append plan (each (instance_flags plan race) 0 plan.instances) (race_places plan race ++ race_totals plan race)
        (slots_each plan (instance_flags plan race) plan.instances (λ instance b.
        slots_each plan (due_flags plan race instance) (lines_for (entries_of plan race)) (λ line c. ((a, b, bits_in (entries_of plan race) line c), tt))))
        (slots_append plan (race_places plan race) (race_totals plan race)
        (slots_each plan (due_places plan race) (lines_for (entries_of plan race)) (λ line c. ((a, bits_in (entries_of plan race) line c), tt)))
        (slots_each plan (due_totals race) (candidates_of plan race) (λ candidate c. ((a, c), tt))))

codes_in : (plan : Plan) (kind : Block) (ballot race : ℕ) → race < length plan.races → ballot_has plan ballot race ≡ true → AreSlotsIn plan (race_codes plan kind ballot race)
codes_in plan kind ballot race a has =
    let of = race_of plan ballot race a has in
    slots_each plan (code_line kind ballot race) (candidates_of plan race) (λ column c. ((of.0, of.1, of.2, of.3, c), tt))

audit_in : (plan : Plan) (ballot : ℕ) → AreSlotsIn plan (due_audit plan ballot)
audit_in plan ballot =
    slots_append plan (each (ballot_paper plan ballot) 0 (length plan.races)) (each (ballot_codes plan ballot) 0 (length plan.races))
    (slots_each plan (ballot_paper plan ballot) (length plan.races) (λ race a. paper (ballot_has plan ballot race) race a refl))
    (slots_each plan (ballot_codes plan ballot) (length plan.races) (λ race a. codes (ballot_has plan ballot race) race a refl))
  where
    paper : (b : Bool) (race : ℕ) → race < length plan.races → ballot_has plan ballot race ≡ b → AreSlotsIn plan (cond b (slot.Paper ballot race (candidates_of plan race) ∷ []) [])
    paper true race a has = let of = race_of plan ballot race a has in ((of.0, of.1, of.2, of.3, refl), tt)
    paper false race a has = tt

    codes : (b : Bool) (race : ℕ) → race < length plan.races → ballot_has plan ballot race ≡ b → AreSlotsIn plan (cond b (race_codes plan block.Audited ballot race) [])
    codes true race a has = codes_in plan block.Audited ballot race a has
    codes false race a has = tt

-- ONE LINE

placed_in : (plan : Plan) (s : Slot) (said : Said) (line : Placed) → IsInRange plan.version said → IsSlotIn plan s → place s said ≡ Some line → IsLineIn plan line
placed_in plan (slot.CodeCommit race entry) (CodeCommit named digest) line range within e =
    if_then-claim (IsLineIn plan) (named == race) (CodeCommitAt race entry digest) line (λ ok. record { placed = within; shown = tt }) e
placed_in plan (slot.CodeCommit race entry) said line range within e = cc
placed_in plan (slot.RowCommit race instance row) (RowCommit named of left right) line range within e =
    if_then-claim (IsLineIn plan) (named == race && of == instance) (RowCommitAt race instance row left right) line (λ ok. record { placed = within; shown = tt }) e
placed_in plan (slot.RowCommit race instance row) said line range within e = cc
placed_in plan (slot.Seal number) (Seal named digest) line range within e = if_then-claim (IsLineIn plan) (named == number) (SealAt number digest) line (λ ok. record { placed = tt; shown = tt }) e
placed_in plan (slot.Seal number) said line range within e = cc
placed_in plan (slot.Paper ballot race count) (Paper named list) line range within e =
    if_then-claim (IsLineIn plan) (named == race && length list == count) (PaperAt ballot race list) line
    (λ ok.
    let long = eqb-true (length list) count (and_parts (named == race) (length list == count) ok).1 in
    record { placed = (within.0, within.1, within.2, within.3, long ∙ within.4); shown = tt }) e
placed_in plan (slot.Paper ballot race count) said line range within e = cc
placed_in plan (slot.Code kind ballot race column) (Code code) line range within e =
    if_then-claim (IsLineIn plan) (code.race == race && code.column == column) (CodeAt kind ballot race column code) line (λ ok. record { placed = within; shown = range.3 }) e
placed_in plan (slot.Code kind ballot race column) said line range within e = cc
placed_in plan (slot.Flags race instance number count) (Flags named of bits) line range within e =
    if_then-claim (IsLineIn plan) ((named == race && of == instance) && length bits == count) (FlagsAt race instance (64 * number) bits) line
    (λ ok.
    let long = eqb-true (length bits) count (and_parts (named == race && of == instance) (length bits == count) ok).1 in
    record { placed = (within.0, within.1, omega (arith, long, within.2)); shown = tt }) e
placed_in plan (slot.Flags race instance number count) said line range within e = cc
placed_in plan (slot.Places race number count) (Places named bits) line range within e =
    if_then-claim (IsLineIn plan) (named == race && length bits == count) (PlacesAt race (64 * number) bits) line
    (λ ok.
    let long = eqb-true (length bits) count (and_parts (named == race) (length bits == count) ok).1 in
    record { placed = (within.0, omega (arith, long, within.1)); shown = tt }) e
placed_in plan (slot.Places race number count) said line range within e = cc
placed_in plan (slot.Total race candidate) (Total named of count) line range within e =
    if_then-claim (IsLineIn plan) (named == race && of == candidate) (TotalAt race candidate count) line (λ ok. record { placed = within; shown = tt }) e
placed_in plan (slot.Total race candidate) said line range within e = cc
placed_in plan slot.Draw DrawFull line range within e = subst (IsLineIn plan) (same_Some DrawnFull line e) (record { placed = tt; shown = tt })
placed_in plan slot.Draw (DrawPublic digits) line range within e = subst (IsLineIn plan) (same_Some (DrawnPublic digits) line e) (record { placed = tt; shown = tt })
placed_in plan slot.Draw said line range within e = cc
placed_in plan (slot.Row race instance row) (Row opening) line range within e = subst (IsLineIn plan) (same_Some (RowAt race instance row opening) line e) (record { placed = within; shown = range })
placed_in plan (slot.Row race instance row) said line range within e = cc

-- the line is in the plan, and so are those that are due behind it
abbrev Keeps : Plan → Taken → Type 0
Keeps plan t = IsLineIn plan t.placed × AreSlotsIn t.next.plan t.next.due

begun_in : (plan : Plan) (last ballot : ℕ) → is_later plan last ballot ≡ true → IsLineIn plan (Begun ballot)
begun_in plan last ballot later =
    let parts = and_parts (nat_lt last ballot) (nat_le ballot (ballots_of plan)) later in
    record { placed = (omega (arith, ltb-true last ballot parts.0), leb-true ballot (ballots_of plan) parts.1); shown = tt }

first_taken-keeps : (plan : Plan) (slots : List Slot) (said : Said) (t : Taken) → IsInRange plan.version said → AreSlotsIn plan slots → first_taken plan slots said ≡ Some t → Keeps plan t
first_taken-keeps plan [] said t range within e = cc
first_taken-keeps plan (s ∷ due) said t range within e =
    let from = option_map-some (λ (x : Placed). took x (behind plan due (part.Disputes 0))) (place s said) t e in
    subst (Keeps plan) from.2 (placed_in plan s said from.0 range within.0 from.1, within.1)

after_block-keeps : (plan : Plan) (last : ℕ) (said : Said) (t : Taken) → IsInRange plan.version said → after_block plan last said ≡ Some t → Keeps plan t
after_block-keeps plan last (Cast ballot) t range e =
    if_then-claim (Keeps plan) (is_later plan last ballot) (took (Begun ballot) (behind plan [] (part.Cast ballot 0 0))) t (λ ok. (begun_in plan last ballot ok, tt)) e
after_block-keeps plan last (Spoiled ballot) t range e =
    if_then-claim (Keeps plan) (is_later plan last ballot) (took (Begun ballot) (behind plan [] (part.Ballots ballot))) t (λ ok. (begun_in plan last ballot ok, tt)) e
after_block-keeps plan last (Audited ballot) t range e =
    if_then-claim (Keeps plan) (is_later plan last ballot) (took (Begun ballot) (behind plan (due_audit plan ballot) (part.Ballots ballot))) t (λ ok. (begun_in plan last ballot ok, audit_in plan ballot)) e
after_block-keeps plan last (Voided ballot) t range e =
    if_then-claim (Keeps plan) (plan.version == 2 && is_later plan last ballot) (took (Begun ballot) (behind plan [] (part.Ballots ballot))) t
    (λ ok. (begun_in plan last ballot (and_parts (plan.version == 2) (is_later plan last ballot) ok).1, tt)) e
after_block-keeps plan last said t range e = first_taken-keeps plan (results plan) said t range (results_in plan) e

in_cast-keeps : (plan : Plan) (ballot race column : ℕ) (said : Said) (t : Taken) → IsInRange plan.version said → in_cast plan ballot race column said ≡ Some t → Keeps plan t
in_cast-keeps plan ballot race column said t range e =
    cast-claim plan ballot race column said t (Keeps plan) (after_block-keeps plan ballot said t range) (λ line. (line.within range, tt)) e

after_dispute-keeps : (plan : Plan) (count : ℕ) (said : Said) (t : Taken) → after_dispute plan count said ≡ Some t → Keeps plan t
after_dispute-keeps plan count (Dispute ballot race code word) t e =
    if_then-claim (Keeps plan) (nat_lt count most_claims && (nat_lt race (length plan.races) && ballot_has plan ballot race))
    (took (Disputed ballot race code word) (behind plan (race_codes plan block.Dispute ballot race) (part.Disputes (count + 1)))) t
    (λ ok.
    let parts = and_parts (nat_lt race (length plan.races)) (ballot_has plan ballot race) (and_parts (nat_lt count most_claims) (nat_lt race (length plan.races) && ballot_has plan ballot race) ok).1 in
    let within = ltb-true race (length plan.races) parts.0 in
    (record { placed = race_of plan ballot race within parts.1; shown = tt }, codes_in plan block.Dispute ballot race within parts.1)) e
after_dispute-keeps plan count said t e = cc

begins-keeps : (plan : Plan) (may_begin : Part) (said : Said) (t : Taken) → IsInRange plan.version said → begins plan may_begin said ≡ Some t → Keeps plan t
begins-keeps plan (part.Ballots last) said t range e = after_block-keeps plan last said t range e
begins-keeps plan (part.Cast ballot race column) said t range e = in_cast-keeps plan ballot race column said t range e
begins-keeps plan (part.Disputes count) said t range e = after_dispute-keeps plan count said t e

body_line-keeps : (plan : Plan) (due : List Slot) (may_begin : Part) (said : Said) (t : Taken) → IsInRange plan.version said → AreSlotsIn plan due → body_line plan due may_begin said ≡ Some t → Keeps plan t
body_line-keeps plan [] may_begin said t range within e = begins-keeps plan may_begin said t range e
body_line-keeps plan (s ∷ due) may_begin said t range within e =
    let from = option_map-some (λ (x : Placed). took x (behind plan due may_begin)) (place s said) t e in
    subst (Keeps plan) from.2 (placed_in plan s said from.0 range within.0 from.1, within.1)

in_head-keeps : (plan : Plan) (stage : Head) (said : Said) (t : Taken) → in_head plan stage said ≡ Some t → Keeps plan t
in_head-keeps plan stage said t e = let from = option_map-some (headed said) (head_line plan stage said) t e in subst (Keeps plan) from.2 (record { placed = tt; shown = tt }, tt)

after_run-keeps : (plan : Plan) (said : Said) (t : Taken) → IsInRange plan.version said → after_run plan said ≡ Some t → Keeps plan t
after_run-keeps plan (Ballots style count) t range e = in_head-keeps plan head.Runs (Ballots style count) t e
after_run-keeps plan said t range e = body_line-keeps plan (commits plan) (part.Ballots 0) said t range (commits_in plan) e

take_at-keeps : (plan : Plan) (stage : Head) (due : List Slot) (may_begin : Part) (said : Said) (t : Taken) → IsInRange plan.version said → AreSlotsIn plan due → take_at plan stage due may_begin said ≡ Some t → Keeps plan t
take_at-keeps plan head.Whole due may_begin said t range within e = body_line-keeps plan due may_begin said t range within e
take_at-keeps plan head.Runs due may_begin said t range within e = after_run-keeps plan said t range e
take_at-keeps plan stage due may_begin said t range within e = in_head-keeps plan stage said t e

take_line-keeps : (next : Next) (said : Said) (t : Taken) → IsInRange next.plan.version said → AreSlotsIn next.plan next.due → take_line next said ≡ Some t → Keeps next.plan t
unfolding take_line
take_line-keeps next said t range within e = take_at-keeps next.plan next.head next.due next.part said t range within e

-- THE WALK

-- the plan stays behind its lines
pub walk_plan : (next : Next) (lines : List (List ℕ)) (w : Walked) → next.head ≡ head.Whole → walk next lines ≡ Some w → w.next.plan ≡ next.plan
unfolding walk
walk_plan next [] w whole e = ap (λ (x : Walked). x.next.plan) (sym (same_Some (record { posted = []; next = next }) w e))
walk_plan next (bytes ∷ lines) w whole e =
    let on = walk-first next bytes lines w e in
    let line = take_bytes-line next bytes on.taken on.first in
    let stays = take_line-plan next line.0 on.taken whole line.2 in
    ap (λ (x : Walked). x.next.plan) (sym on.is) ∙ (walk_plan on.taken.next lines on.rest stays.1 on.others ∙ stays.0)

-- a line is in the plan that stands in the end
at_end : (next : Next) (said : Said) (t : Taken) (lines : List (List ℕ)) (rest : Walked) → take_line next said ≡ Some t → walk t.next lines ≡ Some rest → IsLineIn next.plan t.placed → IsLineIn rest.next.plan t.placed
unfolding take_line
at_end next said t lines rest e others within = by_head (head_line next.plan next.head said) refl
  where
    by_head : (o : Option Making) → head_line next.plan next.head said ≡ o → IsLineIn rest.next.plan t.placed
    by_head None none =
        let stays = take_line-behind next said t none e in
        subst (λ (p : Plan). IsLineIn p t.placed) (sym (walk_plan t.next lines rest stays.1 others ∙ stays.0)) within
    by_head (Some making) some =
        subst (λ (x : Taken). IsLineIn rest.next.plan x.placed) (same_Some (headed said making) t (sym (take_line-head next said making some) ∙ e)) (record { placed = tt; shown = tt })

-- each of the lines is in the plan
abbrev AreLinesIn : Plan → List Placed → Type 0
AreLinesIn plan [] = Unit {0}
AreLinesIn plan (line ∷ lines) = IsLineIn plan line × AreLinesIn plan lines

lines_walk : (next : Next) (lines : List (List ℕ)) (w : Walked) → AreSlotsIn next.plan next.due → walk next lines ≡ Some w → AreLinesIn w.next.plan (placed_of w.posted)
unfolding walk
lines_walk next [] w within e = subst (λ (x : Walked). AreLinesIn x.next.plan (placed_of x.posted)) (same_Some (record { posted = []; next = next }) w e) tt
lines_walk next (bytes ∷ lines) w within e =
    let on = walk-first next bytes lines w e in
    let line = take_bytes-line next bytes on.taken on.first in
    let range = (lines_are_spelled next.plan.version bytes line.0 line.1).0 in
    let keeps = take_line-keeps next line.0 on.taken range within line.2 in
    let rest = lines_walk on.taken.next lines on.rest keeps.1 on.others in
    subst (λ (x : Walked). AreLinesIn x.next.plan (placed_of x.posted)) on.is (at_end next line.0 on.taken lines on.rest line.2 on.others keeps.0, rest)

line_among : (plan : Plan) (lines : List Placed) (line : Placed) → AreLinesIn plan lines → IsAmong lines line → IsLineIn plan line
line_among plan lines line all (front, rest, is) = at_front front (subst (λ (l : List Placed). AreLinesIn plan l) is all)
  where
    at_front : (xs : List Placed) → AreLinesIn plan (xs ++ line ∷ rest) → IsLineIn plan line
    at_front [] a = a.0
    at_front (x ∷ xs) a = at_front xs a.1

pub lines_are_in_plan : LinesAreInPlan
lines_are_in_plan lines walked line walks among = line_among walked.next.plan (placed_of walked.posted) line (lines_walk start lines walked tt walks) among
