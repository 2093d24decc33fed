-- A line that may stand, in its place.
use Rattle.std.proofs.Common.{◌≡◌, ℕ, ◌<◌, true, false, List, Some, None, sym, subst, ap, ◌∙◌}
use Rattle.std.specs.Option.{is_some, option_map}
use Rattle.std.specs.Prelude.{option_and_then}
use Rattle.std.proofs.lemmas.Option.{same_Some}
use Rattle.sg_lists.proofs.Options.{is_some-true, option_map-some}
use Rattle.sg_forms.specs.Reading.{line_of}
use Rattle.sg_forms.specs.Said.{Said}
use Rattle.sg_judge.proofs.Behind.{plan_before, runs_stand}
use Rattle.sg_judge.specs.inside.Taking.{StandsAt}
use Rattle.sg_plan.specs.Limits.{fault_of}
use Rattle.sg_grammar.proofs.Counting.{take_line-falls}
use Rattle.sg_grammar.proofs.FirstLines.{take_bytes-line}
use Rattle.sg_grammar.proofs.Walking.{plan_keeps, take_line-head}
use Rattle.sg_grammar.specs.Coordinates.{placed, IsPlacedIn}
use Rattle.sg_grammar.specs.Head.{Making, head_line, is_behind}
use Rattle.sg_grammar.specs.Left.{lines_left}
use Rattle.sg_grammar.specs.Made.{IsMade}
use Rattle.sg_grammar.specs.Slots.{due_of}
use Rattle.sg_grammar.specs.Standing.{taken_at, IsStandingIn}
use Rattle.sg_grammar.specs.Walk.{Next, Taken, behind, headed, take_bytes, take_line, took}
use Rattle.sg_grammar.specs.declared.body.Standing.{Standing}
use Rattle.sg_grammar.specs.declared.placed.PlacedLine.{PlacedLine}
use Rattle.sg_grammar.specs.declared.state.Head.TheVariants as head

-- A LINE OF THE PLAN

-- a line of the plan is taken into it
pub plan_stepped : (old new : Next) (said : Said) → is_some (head_line old.plan old.head said) ≡ true → option_map (λ (x : Taken). x.next) (take_line old said) ≡ Some new
    → (making : Making) × (head_line old.plan old.head said ≡ Some making) × (take_line old said ≡ Some (headed said making)) × ((headed said making).next ≡ new)
plan_stepped old new said named stepped =
    let there = is_some-true (head_line old.plan old.head said) named in
    let taken : take_line old said ≡ Some (headed said there.0) = take_line-head old said there.0 there.1 in
    (there.0, there.1, taken, same_Some (headed said there.0).next new (sym (ap (option_map (λ (x : Taken). x.next)) taken) ∙ stepped))

-- no line behind the plan stands then
pub plan_step-before : (old new : Next) (said : Said) → is_some (head_line old.plan old.head said) ≡ true
    → option_map (λ (x : Taken). x.next) (take_line old said) ≡ Some new → is_behind new.head ≡ false
plan_step-before old new said named stepped =
    let step = plan_stepped old new said named stepped in
    subst (λ (n : Next). is_behind n.head ≡ false) step.3 (plan_before old.plan old.head said step.0 step.1)

-- and fewer lines are to come
pub step-falls : (old new : Next) (said : Said) → IsMade old.plan old.head → option_map (λ (x : Taken). x.next) (take_line old said) ≡ Some new → lines_left new < lines_left old
step-falls old new said made stepped =
    let from = option_map-some (λ (x : Taken). x.next) (take_line old said) new stepped in
    subst (λ (n : Next). lines_left n < lines_left old) from.2 (take_line-falls old said from.0 made from.1)

-- A LINE BEHIND THE PLAN

-- the plan keeps its limits
pub good_plan : (next : Next) (said : Said) (t : Taken) → IsMade next.plan next.head → head_line next.plan next.head said ≡ None → take_line next said ≡ Some t → fault_of next.plan ≡ None
good_plan next said t made named taken = plan_keeps next.plan next.head made (runs_stand next said t named taken)

-- the bytes of a line are taken as it is
pub take_bytes-spelled : (next : Next) (bytes : List ℕ) (said : Said) → line_of next.plan.version bytes ≡ Some said → take_bytes next bytes ≡ take_line next said
unfolding take_bytes
take_bytes-spelled next bytes said spelled = ap (option_and_then (take_line next)) spelled

-- and stand where the program says that it does
pub stands_there : (expect : Next) (bytes : List ℕ) (said : Said) (standing : Standing) (line : PlacedLine) → line_of expect.plan.version bytes ≡ Some said
    → Some (taken_at expect.plan standing) ≡ take_line expect said → IsStandingIn expect.plan standing → IsMade expect.plan head.Whole → standing.line ≡ line → StandsAt expect bytes standing (placed line)
stands_there expect bytes said standing line spelled stands within made is = record {
  taken = take_bytes-spelled expect bytes said spelled ∙ (sym stands ∙ ap (λ (l : PlacedLine). Some (took (placed l) (behind expect.plan (due_of expect.plan standing.slot) standing.part))) is);
  placed = subst (λ (l : PlacedLine). IsPlacedIn expect.plan (placed l)) is within.line;
  slot = within.slot;
  part = within.part;
  made = made;
}

-- fewer lines are to come behind them
pub taken-falls : (old : Next) (bytes : List ℕ) (t : Taken) → IsMade old.plan old.head → take_bytes old bytes ≡ Some t → lines_left t.next < lines_left old
taken-falls old bytes t made taken = let line = take_bytes-line old bytes t taken in take_line-falls old line.0 t made line.2
