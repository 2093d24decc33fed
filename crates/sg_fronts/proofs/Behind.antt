-- Behind the plan each slot that is due takes its line, and then the results stand: the record is whole.
use Rattle.std.proofs.Common.{◌≡◌, ℕ, ◌<◌, true, List, [], ◌∷◌, ◌++◌, length, map, Some, refl, ap, ◌∙◌, arith}
use Rattle.std.specs.Prelude.{option_and_then}
use Rattle.std.proofs.lemmas.List.{length-append, length-map}
use Rattle.sg_plan.specs.declared.plan.Plan.{Plan}
use Rattle.sg_forms.proofs.LineLaws.{lines_are_read}
use Rattle.sg_forms.specs.Said.{Said}
use Rattle.sg_forms.specs.Spelling.{IsInRange, spelling}
use Rattle.sg_grammar.proofs.Making.{complete-sizes}
use Rattle.sg_grammar.proofs.Walking.{walk-one}
use Rattle.sg_grammar.specs.Due.{commits, results}
use Rattle.sg_grammar.specs.Made.{IsComplete, IsMade}
use Rattle.sg_grammar.specs.Walk.{Next, Taken, Walked, behind, is_whole, take_bytes, take_line, walk, walked_on}
use Rattle.sg_grammar.specs.declared.state.Head.{Head}
use Rattle.sg_grammar.specs.declared.state.Head.TheVariants as head
use Rattle.sg_grammar.specs.declared.state.Part.{Part}
use Rattle.sg_grammar.specs.declared.state.Part.TheVariants as part
use Rattle.sg_grammar.specs.declared.state.Slot.{Slot}
use Rattle.sg_record.proofs.BytesWalk.{Stays, said-walks}
use Rattle.sg_record.proofs.Filling.{AreIn, AreIn-append}
use Rattle.sg_record.proofs.SaidWalk.{Goes, commits-some, goes-commits, goes-due, goes-open, goes-results, opens, run_state}
use Rattle.sg_fronts.proofs.Filled.{CanFillAll, codes-some, commits-fill, filling, fillings-fill, fillings-in, results-fill}

-- some lines make a whole record behind this state
pub record CanEnd (next : Next) : Type 0 where
  pub more : List (List ℕ)
  pub walked : Walked
  pub goes : walk next more ≡ Some walked
  pub whole : is_whole walked.next ≡ true

-- the plan so far, and what may stand next
abbrev pub state : Plan → Head → List Slot → Part → Next
state plan stage due may_begin = record { plan = plan; head = stage; due = due; part = may_begin }

-- a line is taken, behind which some lines do
pub line-ends : (next : Next) (said : Said) (t : Taken) → IsInRange next.plan.version said → take_line next said ≡ Some t → CanEnd t.next → CanEnd next
unfolding take_bytes
line-ends next said t range taken on =
    let bytes : List ℕ = spelling next.plan.version said in
    let first : take_bytes next bytes ≡ Some t = ap (option_and_then (take_line next)) (lines_are_read next.plan.version said range) ∙ taken in
    record {
      more = bytes ∷ on.more;
      walked = walked_on bytes t on.walked;
      goes = walk-one next bytes on.more t on.walked first on.goes;
      whole = on.whole;
    }

-- lines that lead from a state to a whole record
record Ending (version : ℕ) (next : Next) : Type 0 where
  lines : List Said
  end : Next
  all : AreIn version lines
  goes : Goes next lines end
  whole : is_whole end ≡ true

-- such lines are walked over by their spellings
lines-ends : (version : ℕ) (next : Next) → Stays version next → Ending version next → CanEnd next
lines-ends version next stays ending =
    let walks = said-walks version next ending.lines ending.end stays ending.all ending.goes in
    record { more = map (spelling version) ending.lines; walked = walks.walked; goes = walks.goes; whole = ap is_whole walks.ends ∙ ending.whole }

-- the lines of the results, behind which no dispute stands
abbrev results_said : Plan → List Said
results_said plan = map filling (results plan) ++ []

-- their words are of their kinds
results-in : (plan : Plan) → IsComplete plan → AreIn plan.version (results_said plan)
results-in plan complete =
    AreIn-append plan.version (map filling (results plan)) []
    (fillings-in plan.version (results plan) (codes-some plan.version complete.front.version) (results-fill plan (complete-sizes plan complete))) tt

-- and they may stand behind the last ballot
results-go : (plan : Plan) (last : ℕ) → (opens (results_said plan) ≡ true) × Goes (behind plan [] (part.Ballots last)) (results_said plan) (behind plan [] (part.Disputes 0))
results-go plan last = goes-results plan last (map filling (results plan)) [] (behind plan [] (part.Disputes 0)) (fillings-fill (results plan)) refl

-- what may begin
part-ends : (plan : Plan) (may_begin : Part) → IsComplete plan → Ending plan.version (behind plan [] may_begin)
part-ends plan (part.Ballots last) complete =
    record { lines = results_said plan; end = behind plan [] (part.Disputes 0); all = results-in plan complete; goes = (results-go plan last).1; whole = refl }
part-ends plan (part.Cast ballot race column) complete =
    let end : Next = behind plan [] (part.Disputes 0) in
    let on = results-go plan ballot in
    record { lines = results_said plan; end = end; all = results-in plan complete; goes = goes-open plan ballot race column (results_said plan) end on.0 on.1; whole = refl }
part-ends plan (part.Disputes count) complete = record { lines = []; end = behind plan [] (part.Disputes count); all = tt; goes = refl; whole = refl }

-- slots that are due, and then what may begin
due-ends : (plan : Plan) (due : List Slot) (may_begin : Part) → IsComplete plan → CanFillAll due → Ending plan.version (behind plan due may_begin)
due-ends plan due may_begin complete fill =
    let on = part-ends plan may_begin complete in
    record {
      lines = map filling due ++ on.lines;
      end = on.end;
      all = AreIn-append plan.version (map filling due) on.lines (fillings-in plan.version due (codes-some plan.version complete.front.version) fill) on.all;
      goes = goes-due plan due may_begin (map filling due) on.lines on.end (fillings-fill due) on.goes;
      whole = on.whole;
    }

-- behind the plan
pub whole-ends : (plan : Plan) (due : List Slot) (may_begin : Part) → IsMade plan head.Whole → CanFillAll due → CanEnd (state plan head.Whole due may_begin)
whole-ends plan due may_begin kept fill = lines-ends plan.version (behind plan due may_begin) (refl, refl) (due-ends plan due may_begin kept.stands fill)

-- behind a run no slot is due, and the first commitment may come
runs-goes : (plan : Plan) (due : List Slot) (may_begin : Part) (lines : List Said) (end : Next) → 0 < length lines → Goes (run_state plan) lines end
    → Goes (state plan head.Runs due may_begin) lines end
unfolding take_line
runs-goes plan due may_begin [] end some goes = absurd (omega arith)
runs-goes plan due may_begin (said ∷ lines) end some goes = goes

-- behind a run
pub runs-ends : (plan : Plan) (due : List Slot) (may_begin : Part) → IsMade plan head.Runs → CanEnd (state plan head.Runs due may_begin)
runs-ends plan due may_begin kept =
    let front : List Said = map filling (commits plan) in
    let on = part-ends plan (part.Ballots 0) kept.stands in
    let some : 0 < length (front ++ on.lines) = omega (arith, length-append front on.lines, length-map (commits plan) filling, commits-some plan) in
    lines-ends plan.version (state plan head.Runs due may_begin) (refl, refl) (record {
      lines = front ++ on.lines;
      end = on.end;
      all = AreIn-append plan.version front on.lines
          (fillings-in plan.version (commits plan) (codes-some plan.version kept.stands.front.version) (commits-fill plan (complete-sizes plan kept.stands))) on.all;
      goes = runs-goes plan due may_begin (front ++ on.lines) on.end some (goes-commits plan front on.lines on.end (fillings-fill (commits plan)) on.goes);
      whole = on.whole;
    })
