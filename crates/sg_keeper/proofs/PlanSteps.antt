-- How the lines of a plan are taken, one after another.
use Rattle.std.proofs.Common.{◌≡◌, ℕ, ◌≤◌, Bool, true, false, cond, List, [], ◌∷◌, drop, length, slice_range, Option, Some, None, refl, sym, ap, ◌∙◌}
use Rattle.std.proofs.lemmas.List.{drop_all}
use Rattle.std.proofs.lemmas.Option.{same_Some}
use Rattle.std.specs.Option.{is_some, option_map}
use Rattle.std.specs.Prelude.{option_and_then}
use Rattle.sg_lists.proofs.Options.{is_some-false, is_some-true, option_map-some}
use Rattle.sg_outside.specs.TextLines.{lines_of}
use Rattle.sg_plan.specs.declared.plan.Plan.{Plan}
use Rattle.sg_forms.specs.Reading.{line_of}
use Rattle.sg_forms.specs.Said.{Said}
use Rattle.sg_forms.specs.Said.Said.{Ballots}
use Rattle.sg_grammar.proofs.Walking.{read_next-some}
use Rattle.sg_grammar.specs.Head.{Making, head_line}
use Rattle.sg_grammar.specs.Walk.{Next, Taken, headed, read_next, take_at, take_line}
use Rattle.sg_grammar.specs.declared.state.Head.{Head}
use Rattle.sg_grammar.specs.declared.state.Head.TheVariants as head
use Rattle.sg_grammar.specs.declared.state.Part.{Part}
use Rattle.sg_grammar.specs.declared.state.Slot.{Slot}
use Rattle.sg_keeper.specs.inside.SetupReading.{no_line, read_plan, with_line}
use Rattle.sg_keeper.specs.inside.PlanLines.{making_of}

-- ONE LINE

-- a line of the plan may stand next
head_taken_at : (plan : Plan) (stage : Head) (due : List Slot) (may : Part) (said : Said) (more : Making) → head_line plan stage said ≡ Some more → take_at plan stage due may said ≡ Some (headed said more)
head_taken_at plan head.Whole due may said more e = cc
head_taken_at plan head.Runs due may (Ballots style count) more e = ap (λ (o : Option Making). option_map (headed (Ballots style count)) o) e
head_taken_at plan head.Runs due may said more e = cc
head_taken_at plan stage due may said more e = ap (λ (o : Option Making). option_map (headed said) o) e

head_taken : (next : Next) (said : Said) (more : Making) → head_line next.plan next.head said ≡ Some more → take_line next said ≡ Some (headed said more)
unfolding take_line
head_taken next said more e = head_taken_at next.plan next.head next.due next.part said more e

not_taken : (next : Next) (said : Said) (more : Option Making) → head_line next.plan next.head said ≡ more → take_line next said ≡ None → more ≡ None
not_taken next said None is none = refl
not_taken next said (Some more) is none = let both : None ≡ Some (headed said more) = sym none ∙ head_taken next said more is in cc

none_read : (next : Next) (bytes : List ℕ) (said : Option Said) (test : Said → Bool) → ((s : Said) → test s ≡ false → head_line next.plan next.head s ≡ None)
    → option_and_then (λ s. cond (test s) (Some s) None) said ≡ None → option_and_then (head_line next.plan next.head) said ≡ None
none_read next bytes None test none e = refl
none_read next bytes (Some said) test none e = at (test said) refl e
  where
    at : (b : Bool) → test said ≡ b → cond b (Some said) None ≡ None → head_line next.plan next.head said ≡ None
    at true is e = cc
    at false is e = none said is

-- bytes that are no line which may stand next
pub takes_none : (next : Next) (bytes : List ℕ) → read_next next bytes ≡ None → with_line (making_of next) bytes ≡ None
unfolding read_next
takes_none next bytes e =
    none_read next bytes (line_of next.plan.version bytes) (λ s. is_some (take_line next s))
    (λ s none. not_taken next s (head_line next.plan next.head s) refl (is_some-false (take_line next s) none)) e

-- a line that may stand next and is none of the plan's
pub takes_other : (next : Next) (bytes : List ℕ) (said : Said) → read_next next bytes ≡ Some said → is_some (head_line next.plan next.head said) ≡ false → with_line (making_of next) bytes ≡ None
takes_other next bytes said read other =
    ap (λ (o : Option Said). option_and_then (head_line next.plan next.head) o) (read_next-some next bytes said read).0 ∙ is_some-false (head_line next.plan next.head said) other

-- a line of the plan
pub takes_plan : (old new : Next) (bytes : List ℕ) (said : Said) → read_next old bytes ≡ Some said → is_some (head_line old.plan old.head said) ≡ true
    → option_map (λ (t : Taken). t.next) (take_line old said) ≡ Some new → with_line (making_of old) bytes ≡ Some (making_of new)
takes_plan old new bytes said read mine step =
    let more = is_some-true (head_line old.plan old.head said) mine in
    let taken = option_map-some (λ (t : Taken). t.next) (take_line old said) new step in
    let same : headed said more.0 ≡ taken.0 = same_Some (headed said more.0) taken.0 (sym (head_taken old said more.0 more.1) ∙ taken.1) in
    let is : more.0 ≡ making_of new = ap (λ (t : Taken). making_of t.next) same ∙ ap making_of taken.2 in
    ap (λ (o : Option Said). option_and_then (head_line old.plan old.head) o) (read_next-some old bytes said read).0 ∙ (more.1 ∙ ap (λ (m : Making). Some m) is)

-- ALL LINES

read_first : (so_far more : Making) (bytes : List ℕ) (lines : List (List ℕ)) → with_line so_far bytes ≡ Some more → read_plan so_far (bytes ∷ lines) ≡ read_plan more lines
unfolding read_plan
read_first so_far more bytes lines e = rw e refl

read_stops : (so_far : Making) (bytes : List ℕ) (lines : List (List ℕ)) → with_line so_far bytes ≡ None → read_plan so_far (bytes ∷ lines) ≡ record { so_far = so_far; left = bytes ∷ lines }
unfolding read_plan
read_stops so_far bytes lines e = rw e refl

read_none : (so_far : Making) → read_plan so_far [] ≡ record { so_far = so_far; left = [] }
unfolding read_plan
read_none so_far = refl

-- a line is taken
pub head_step : (so_far more : Making) (text : List ℕ) (end next : ℕ) (taken : Bool) → read_plan so_far (lines_of (drop end text)) ≡ read_plan no_line (lines_of text)
    → lines_of (drop end text) ≡ slice_range text end next ∷ lines_of (drop next text) → with_line so_far (slice_range text end next) ≡ cond taken (Some more) None → taken ≡ true
    → read_plan more (lines_of (drop next text)) ≡ read_plan no_line (lines_of text)
head_step so_far more text end next true left line takes is =
    sym (ap (read_plan so_far) line ∙ read_first so_far more (slice_range text end next) (lines_of (drop next text)) takes) ∙ left
head_step so_far more text end next false left line takes is = cc

-- a line is not taken
pub head_stop : (so_far more : Making) (text : List ℕ) (end next : ℕ) (taken : Bool) → read_plan so_far (lines_of (drop end text)) ≡ read_plan no_line (lines_of text)
    → lines_of (drop end text) ≡ slice_range text end next ∷ lines_of (drop next text) → with_line so_far (slice_range text end next) ≡ cond taken (Some more) None → taken ≡ false
    → read_plan no_line (lines_of text) ≡ record { so_far = so_far; left = lines_of (drop end text) }
head_stop so_far more text end next false left line takes is =
    sym left ∙ (ap (read_plan so_far) line ∙ (read_stops so_far (slice_range text end next) (lines_of (drop next text)) takes ∙ ap (λ (l : List (List ℕ)). record { so_far = so_far; left = l }) (sym line)))
head_stop so_far more text end next true left line takes is = cc

-- no line is left
pub head_end : (so_far : Making) (text : List ℕ) (end : ℕ) → read_plan so_far (lines_of (drop end text)) ≡ read_plan no_line (lines_of text) → length text ≤ end
    → read_plan no_line (lines_of text) ≡ record { so_far = so_far; left = lines_of (drop end text) }
head_end so_far text end left past =
    let none : lines_of (drop end text) ≡ [] = ap lines_of (drop_all end text past) in
    sym left ∙ (ap (read_plan so_far) none ∙ (read_none so_far ∙ ap (λ (l : List (List ℕ)). record { so_far = so_far; left = l }) (sym none)))
