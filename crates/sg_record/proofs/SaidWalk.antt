-- Lines taken one after another behind the plan: those that are due, and what begins where none is.
use Rattle.std.proofs.Common.{◌≡◌, ℕ, ◌-◌, ◌<◌, Bool, true, false, not, List, [], ◌∷◌, ◌++◌, length, Option, Some, None, refl, sym, subst, ap, ◌∙◌, arith}
use Rattle.std.proofs.lemmas.List.{length-append}
use Rattle.std.proofs.lemmas.List.Folds.{list_all-append}
use Rattle.std.proofs.lemmas.Bool.{and_from, and_parts, not-true, not_from_false, true≢false}
use Rattle.std.specs.List.{list_all}
use Rattle.std.specs.Option.{is_some}
use Rattle.sg_lists.proofs.Options.{option_map-some}
use Rattle.sg_plan.specs.Ballots.{candidates_of, entries_of}
use Rattle.sg_plan.specs.declared.plan.Plan.{Plan}
use Rattle.sg_forms.specs.Said.{Said}
use Rattle.sg_forms.specs.Said.Said.{Audited, Ballots, Cast, Code, CodeCommit, DrawFull, DrawPublic, Flags, Paper, Places, Row, RowCommit, Seal, Spoiled, Total, Voided}
use Rattle.sg_grammar.specs.Due.{each, instance_flags, instance_rows, due_flags, lines_for, due_places, race_places, race_results, race_rows, race_totals, results, row_opening, due_totals, commits, race_code_commits, race_row_commits}
use Rattle.sg_grammar.specs.Placed.{Placed}
use Rattle.sg_grammar.specs.Walk.{Next, Taken, after_block, behind, first_taken, place, take_line, taking, took, after_run, body_line}
use Rattle.sg_grammar.specs.declared.state.Part.{Part}
use Rattle.sg_grammar.specs.declared.state.Part.TheVariants as part
use Rattle.sg_grammar.specs.declared.state.Slot.{Slot}
use Rattle.sg_grammar.specs.declared.state.Slot.TheVariants as slot
use Rattle.sg_record.proofs.BlockLines.{is_code_slot, numbered-all}
use Rattle.sg_record.proofs.CastLines.{cast-other, cast_of}
use Rattle.sg_record.proofs.Filling.{Fills, fits}
use Rattle.sg_grammar.specs.declared.state.Head.TheVariants as head

-- the lines, taken one after another, lead from one state to another
abbrev pub Goes : Next → List Said → Next → Type 0
Goes next [] end = next ≡ end
Goes next (said ∷ lines) end = (taken : Taken) × (take_line next said ≡ Some taken) × Goes taken.next lines end

-- the same lines lead to one state only
pub goes-one : (next a b : Next) (lines : List Said) → Goes next lines a → Goes next lines b → a ≡ b
goes-one next a b [] p q = sym p ∙ q
goes-one next a b (said ∷ lines) p q =
    let same : p.0 ≡ q.0 = let both : Some p.0 ≡ Some q.0 = sym p.1 ∙ q.1 in cc in
    goes-one q.0.next a b lines (subst (λ (t : Taken). Goes t.next lines a) same p.2) q.2

-- LINES THAT ARE DUE

-- a line in its slot, behind which others go on
pub goes-slot : (plan : Plan) (first : Slot) (due : List Slot) (may_begin : Part) (said : Said) (lines : List Said) (end : Next)
    → fits first said ≡ true → Goes (behind plan due may_begin) lines end → Goes (behind plan (first ∷ due) may_begin) (said ∷ lines) end
unfolding take_line
goes-slot plan first due may_begin said lines end there goes = at_place (place first said) refl there
  where
    at_place : (o : Option Placed) → place first said ≡ o → is_some o ≡ true → Goes (behind plan (first ∷ due) may_begin) (said ∷ lines) end
    at_place None e none = cc
    at_place (Some placed) e some = (took placed (behind plan due may_begin), ap (λ o. taking plan due may_begin o) e, goes)

-- and where it comes from
pub slot-goes : (plan : Plan) (first : Slot) (due : List Slot) (may_begin : Part) (said : Said) (taken : Taken)
    → taking plan due may_begin (place first said) ≡ Some taken → (fits first said ≡ true) × (behind plan due may_begin ≡ taken.next)
slot-goes plan first due may_begin said taken e =
    let from = option_map-some (λ line. took line (behind plan due may_begin)) (place first said) taken e in
    (ap is_some from.1, ap (λ (t : Taken). t.next) from.2)

-- lines that fill what is due
pub goes-due : (plan : Plan) (due : List Slot) (may_begin : Part) (lines rest : List Said) (end : Next)
    → Fills due lines → Goes (behind plan [] may_begin) rest end → Goes (behind plan due may_begin) (lines ++ rest) end
goes-due plan [] may_begin [] rest end fills goes = goes
goes-due plan [] may_begin (said ∷ lines) rest end fills goes = absurd fills
goes-due plan (first ∷ due) may_begin [] rest end fills goes = absurd fills
goes-due plan (first ∷ due) may_begin (said ∷ lines) rest end fills goes =
    goes-slot plan first due may_begin said (lines ++ rest) end fills.0 (goes-due plan due may_begin lines rest end fills.1 goes)

-- WHAT BEGINS IN NO SLOT

-- the first line of a ballot's block
abbrev pub is_block_line : Said → Bool
is_block_line (Cast ballot) = true
is_block_line (Spoiled ballot) = true
is_block_line (Audited ballot) = true
is_block_line (Voided ballot) = true
is_block_line said = false

-- a line of ballots of the plan
abbrev pub is_run_line : Said → Bool
is_run_line (Ballots style count) = true
is_run_line said = false

-- what a line in a slot is not: a run, the first line of a block, or one of a cast ballot in a slot that is no code's
pub record Fitting (s : Slot) (said : Said) : Type 0 where
  pub no_run : is_run_line said ≡ false
  pub no_block : is_block_line said ≡ false
  pub no_cast : is_code_slot s ≡ false → is_some (cast_of said) ≡ false

pub fitting : (s : Slot) (said : Said) → fits s said ≡ true → Fitting s said
fitting (slot.CodeCommit race entry) (CodeCommit named digest) there = record { no_run = refl; no_block = refl; no_cast = λ other. refl }
fitting (slot.RowCommit race instance at) (RowCommit named of left right) there = record { no_run = refl; no_block = refl; no_cast = λ other. refl }
fitting (slot.Seal number) (Seal named digest) there = record { no_run = refl; no_block = refl; no_cast = λ other. refl }
fitting (slot.Paper ballot race count) (Paper named list) there = record { no_run = refl; no_block = refl; no_cast = λ other. refl }
fitting (slot.Code kind ballot race column) (Code code) there = record { no_run = refl; no_block = refl; no_cast = λ other. other }
fitting (slot.Flags race instance number count) (Flags named of bits) there = record { no_run = refl; no_block = refl; no_cast = λ other. refl }
fitting (slot.Places race number count) (Places named bits) there = record { no_run = refl; no_block = refl; no_cast = λ other. refl }
fitting (slot.Total race candidate) (Total named of count) there = record { no_run = refl; no_block = refl; no_cast = λ other. refl }
fitting slot.Draw DrawFull there = record { no_run = refl; no_block = refl; no_cast = λ other. refl }
fitting slot.Draw (DrawPublic digits) there = record { no_run = refl; no_block = refl; no_cast = λ other. refl }
fitting (slot.Row race instance at) (Row opening) there = record { no_run = refl; no_block = refl; no_cast = λ other. refl }
fitting s said there = absurd (true≢false (sym there))

-- THE FIRST LINE OF THE RESULTS

pub results-some : (plan : Plan) → 0 < length (results plan)
results-some plan =
    omega (
      arith,
      length-append (each (race_results plan) 0 (length plan.races)) (slot.Seal 2 ∷ slot.Draw ∷ (each (race_rows plan) 0 (length plan.races) ++ slot.Seal 3 ∷ [])),
      length-append (each (race_rows plan) 0 (length plan.races)) (slot.Seal 3 ∷ []),
    )

abbrev pub is_other_slot : Slot → Bool
is_other_slot s = not (is_code_slot s)

-- none of the results is a code
pub results-no_code : (plan : Plan) → list_all is_other_slot (results plan) ≡ true
results-no_code plan =
    list_all-append is_other_slot (each (race_results plan) 0 (length plan.races)) (slot.Seal 2 ∷ slot.Draw ∷ (each (race_rows plan) 0 (length plan.races) ++ slot.Seal 3 ∷ []))
    ∙ and_from (list_all is_other_slot (each (race_results plan) 0 (length plan.races))) (list_all is_other_slot (each (race_rows plan) 0 (length plan.races) ++ slot.Seal 3 ∷ []))
    (numbered-all is_other_slot (race_results plan) 0 (length plan.races - 0) race)
    (list_all-append is_other_slot (each (race_rows plan) 0 (length plan.races)) (slot.Seal 3 ∷ [])
    ∙ and_from (list_all is_other_slot (each (race_rows plan) 0 (length plan.races))) true
    (numbered-all is_other_slot (race_rows plan) 0 (length plan.races - 0)
    (λ r. numbered-all is_other_slot (instance_rows plan r) 0 (plan.instances - 0)
    (λ instance. numbered-all is_other_slot (row_opening r instance) 0 (entries_of plan r - 0) (λ row. refl))))
    refl)
  where
    race : (r : ℕ) → list_all is_other_slot (race_results plan r) ≡ true
    race r =
        list_all-append is_other_slot (each (instance_flags plan r) 0 plan.instances) (race_places plan r ++ race_totals plan r)
        ∙ and_from (list_all is_other_slot (each (instance_flags plan r) 0 plan.instances)) (list_all is_other_slot (race_places plan r ++ race_totals plan r))
        (numbered-all is_other_slot (instance_flags plan r) 0 (plan.instances - 0)
        (λ instance. numbered-all is_other_slot (due_flags plan r instance) 0 (lines_for (entries_of plan r) - 0) (λ line. refl)))
        (list_all-append is_other_slot (race_places plan r) (race_totals plan r)
        ∙ and_from (list_all is_other_slot (race_places plan r)) (list_all is_other_slot (race_totals plan r))
        (numbered-all is_other_slot (due_places plan r) 0 (lines_for (entries_of plan r) - 0) (λ line. refl))
        (numbered-all is_other_slot (due_totals r) 0 (candidates_of plan r - 0) (λ candidate. refl)))

-- a line that begins no block is taken as the first of the results
pub block-other : (plan : Plan) (last : ℕ) (said : Said) → is_block_line said ≡ false → after_block plan last said ≡ first_taken plan (results plan) said
block-other plan last (Cast ballot) other = cc
block-other plan last (Spoiled ballot) other = cc
block-other plan last (Audited ballot) other = cc
block-other plan last (Voided ballot) other = cc
block-other plan last said other = refl

-- there is a line, and it stands in no block of a cast ballot
abbrev pub opens : List Said → Bool
opens [] = false
opens (said ∷ lines) = not (is_some (cast_of said))

-- behind the block of a cast ballot what may follow any block may follow
pub goes-open : (plan : Plan) (ballot race column : ℕ) (lines : List Said) (end : Next) → opens lines ≡ true
    → Goes (behind plan [] (part.Ballots ballot)) lines end → Goes (behind plan [] (part.Cast ballot race column)) lines end
unfolding take_line
goes-open plan ballot race column [] end is_open goes = cc
goes-open plan ballot race column (said ∷ lines) end is_open goes =
    (goes.0, cast-other plan ballot race column said (not-true (is_some (cast_of said)) is_open) ∙ goes.1, goes.2)

-- the results, in any place of ballots
pub goes-results : (plan : Plan) (last : ℕ) (lines rest : List Said) (end : Next)
    → Fills (results plan) lines → Goes (behind plan [] (part.Disputes 0)) rest end
    → (opens (lines ++ rest) ≡ true) × Goes (behind plan [] (part.Ballots last)) (lines ++ rest) end
unfolding take_line
goes-results plan last lines rest end fills goes =
    from (results plan) lines refl (results-some plan) (results-no_code plan) fills (goes-due plan (results plan) (part.Disputes 0) lines rest end fills goes)
  where
    from : (slots : List Slot) (front : List Said) → results plan ≡ slots → 0 < length slots → list_all is_other_slot slots ≡ true → Fills slots front
        → Goes (behind plan slots (part.Disputes 0)) (front ++ rest) end
        → (opens (front ++ rest) ≡ true) × Goes (behind plan [] (part.Ballots last)) (front ++ rest) end
    from [] front are some other filled on = absurd (omega arith)
    from (first ∷ due) [] are some other filled on = absurd filled
    from (first ∷ due) (said ∷ front) are some other filled on =
        let tests = and_parts (is_other_slot first) (list_all is_other_slot due) other in
        let no_cast = (fitting first said filled.0).no_cast (not-true (is_code_slot first) tests.0) in (
          not_from_false (is_some (cast_of said)) no_cast,
          (on.0, block-other plan last said (fitting first said filled.0).no_block ∙ (ap (λ l. first_taken plan l said) are ∙ on.1), on.2),
        )

-- where a further run or the first commitment may come
abbrev pub run_state : Plan → Next
run_state plan = record { plan = plan; head = head.Runs; due = []; part = part.Ballots 0 }

pub commits-some : (plan : Plan) → 0 < length (commits plan)
commits-some plan =
    omega (
      arith,
      length-append (each (race_code_commits plan) 0 (length plan.races)) (each (race_row_commits plan) 0 (length plan.races) ++ slot.Seal 1 ∷ []),
      length-append (each (race_row_commits plan) 0 (length plan.races)) (slot.Seal 1 ∷ []),
    )

-- a line that is no run is taken as the first commitment
pub run-other : (plan : Plan) (said : Said) → is_run_line said ≡ false → after_run plan said ≡ body_line plan (commits plan) (part.Ballots 0) said
run-other plan (Ballots style count) other = cc
run-other plan said other = refl

pub goes-commits : (plan : Plan) (lines rest : List Said) (end : Next)
    → Fills (commits plan) lines → Goes (behind plan [] (part.Ballots 0)) rest end → Goes (run_state plan) (lines ++ rest) end
unfolding take_line
goes-commits plan lines rest end fills goes =
    from (commits plan) lines refl (commits-some plan) fills (goes-due plan (commits plan) (part.Ballots 0) lines rest end fills goes)
  where
    from : (slots : List Slot) (front : List Said) → commits plan ≡ slots → 0 < length slots → Fills slots front
        → Goes (behind plan slots (part.Ballots 0)) (front ++ rest) end → Goes (run_state plan) (front ++ rest) end
    from [] front are some filled on = absurd (omega arith)
    from (first ∷ due) [] are some filled on = absurd filled
    from (first ∷ due) (said ∷ front) are some filled on =
        (on.0, run-other plan said (fitting first said filled.0).no_run ∙ (ap (λ l. body_line plan l (part.Ballots 0) said) are ∙ on.1), on.2)
