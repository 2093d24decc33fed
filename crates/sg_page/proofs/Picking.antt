-- How the walk picks the wanted lines, one line after another.
use Rattle.std.proofs.Common.{◌≡◌, ℕ, ◌≤◌, true, Bool, List, [], ◌∷◌, ◌++◌, length, take, Option, Some, None, IfSome, cond, sym, subst, ap, ◌∙◌}
use Rattle.std.specs.Option.{is_some, option_map, option_map_or}
use Rattle.std.specs.Prelude.{option_and_then}
use Rattle.std.proofs.lemmas.Option.{same_Some}
use Rattle.sg_lists.proofs.Options.{is_some-true, option_map-some}
use Rattle.sg_forms.specs.Reading.{line_of}
use Rattle.sg_forms.specs.Said.{Said}
use Rattle.sg_grammar.proofs.FirstLines.{walk-first}
use Rattle.sg_grammar.proofs.Walking.{take_line-head}
use Rattle.sg_grammar.specs.Coordinates.{placed}
use Rattle.sg_grammar.specs.Head.{head_line}
use Rattle.sg_grammar.specs.Placed.{Placed}
use Rattle.sg_grammar.specs.Placed.Placed.{OfPlan}
use Rattle.sg_grammar.specs.Slots.{due_of}
use Rattle.sg_grammar.specs.Standing.{taken_at}
use Rattle.sg_grammar.specs.Walk.{Next, Posted, Taken, Walked, behind, headed, start, take_bytes, take_line, walk}
use Rattle.sg_grammar.specs.declared.body.Standing.{Standing}
use Rattle.sg_page.specs.Shown.{ShowsLines, bytes_where, placed_front, text_where}
use Rattle.sg_page.specs.inside.Wanting.{Found, found_so, is_wanted, step_of}
use Rattle.sg_page.specs.declared.wanted.Wanted.{Wanted}

-- ALL LINES

-- where all lines may stand, the front is all of them
front_walked : (next : Next) (lines : List (List ℕ)) (walked : Walked) → walk next lines ≡ Some walked → placed_front next lines ≡ walked.posted
unfolding walk
front_walked next [] walked e = ap (λ (w : Walked). w.posted) (same_Some (let none : Walked = record { posted = []; next = next } in none) walked e)
front_walked next (bytes ∷ lines) walked e =
    let on = walk-first next bytes lines walked e in
    let one : Posted = record { bytes = bytes; line = on.taken.placed } in
    ap (λ (o : Option Taken). option_map_or (λ (t : Taken). (let p : Posted = record { bytes = bytes; line = t.placed } in p) ∷ placed_front t.next lines) o []) on.first
    ∙ (ap (λ (l : List Posted). one ∷ l) (front_walked on.taken.next lines on.rest on.others) ∙ ap (λ (w : Walked). w.posted) on.is)

pub shows : (is : Placed → Bool) (lines : List (List ℕ)) (shown : List ℕ) → shown ≡ text_where is lines → ShowsLines is lines shown
shows is lines shown same = record { front = same; all = λ walked e. same ∙ ap (bytes_where is) (front_walked start lines walked e) }

-- and so are the bytes that were put, where they had room
pub shows_put : (is : Placed → Bool) (lines : List (List ℕ)) (out : List ℕ) (put : Option ℕ) (used : ℕ) → put ≡ Some used
    → IfSome put (λ (u : ℕ). (u ≤ length out) × (take u out ≡ text_where is lines)) → ShowsLines is lines (take used out)
shows_put is lines out None used e shown = cc
shows_put is lines out (Some u) used e shown = subst (λ (n : ℕ). ShowsLines is lines (take n out)) (same_Some u used e) (shows is lines (take u out) shown.1)

-- ONE LINE MORE

-- a line that may stand next is picked where it is wanted
pub picked : (which : Wanted) (next after : Next) (is : Bool) (bytes : List ℕ) (lines : List (List ℕ)) → step_of which next bytes ≡ Some (found_so after is)
    → bytes_where (is_wanted which) (placed_front next (bytes ∷ lines)) ≡ cond is (bytes ++ bytes_where (is_wanted which) (placed_front after lines)) (bytes_where (is_wanted which) (placed_front after lines))
picked which next after is bytes lines e =
    let from = option_map-some (λ (t : Taken). found_so t.next (is_wanted which t.placed)) (take_bytes next bytes) (found_so after is) e in
    let same_next : from.0.next ≡ after = ap (λ (f : Found). f.next) from.2 in
    let same_is : is_wanted which from.0.placed ≡ is = ap (λ (f : Found). f.is) from.2 in
    let rest : List ℕ = bytes_where (is_wanted which) (placed_front after lines) in
    ap (λ (o : Option Taken). bytes_where (is_wanted which) (option_map_or (λ (t : Taken). (let p : Posted = record { bytes = bytes; line = t.placed } in p) ∷ placed_front t.next lines) o [])) from.1
    ∙ (ap (λ (n : Next). cond (is_wanted which from.0.placed) (bytes ++ bytes_where (is_wanted which) (placed_front n lines)) (bytes_where (is_wanted which) (placed_front n lines))) same_next
    ∙ ap (λ b. cond b (bytes ++ rest) rest) same_is)

-- WHAT A LINE IS FOUND TO BE

-- the bytes of a line are taken as the line is
bytes_taken : (next : Next) (bytes : List ℕ) (said : Said) → line_of next.plan.version bytes ≡ Some said → take_bytes next bytes ≡ take_line next said
unfolding take_bytes
bytes_taken next bytes said e = ap (option_and_then (take_line next)) e

pub found_no_line : (which : Wanted) (next : Next) (bytes : List ℕ) → line_of next.plan.version bytes ≡ None → step_of which next bytes ≡ None
unfolding take_bytes
found_no_line which next bytes e = ap (λ (o : Option Said). option_map (λ (t : Taken). found_so t.next (is_wanted which t.placed)) (option_and_then (take_line next) o)) e

found_taken : (which : Wanted) (next : Next) (bytes : List ℕ) (said : Said) (o : Option Taken) → line_of next.plan.version bytes ≡ Some said → take_line next said ≡ o
    → step_of which next bytes ≡ option_map (λ (t : Taken). found_so t.next (is_wanted which t.placed)) o
found_taken which next bytes said o read taken = ap (option_map (λ (t : Taken). found_so t.next (is_wanted which t.placed))) (bytes_taken next bytes said read ∙ taken)

-- a line that may not stand next
pub found_nowhere : (which : Wanted) (next : Next) (bytes : List ℕ) (said : Said) → line_of next.plan.version bytes ≡ Some said → take_line next said ≡ None → step_of which next bytes ≡ None
found_nowhere which next bytes said read taken = found_taken which next bytes said None read taken

-- a line of the plan
pub found_of_plan : (which : Wanted) (next after : Next) (bytes : List ℕ) (said : Said) (is : Bool) → line_of next.plan.version bytes ≡ Some said
    → is_some (head_line next.plan next.head said) ≡ true → option_map (λ (t : Taken). t.next) (take_line next said) ≡ Some after → ((s : Said) → is ≡ is_wanted which (OfPlan s))
    → step_of which next bytes ≡ Some (found_so after is)
found_of_plan which next after bytes said is read named stepped wants =
    let there = is_some-true (head_line next.plan next.head said) named in
    let taken : take_line next said ≡ Some (headed said there.0) = take_line-head next said there.0 there.1 in
    let same : (headed said there.0).next ≡ after = same_Some (headed said there.0).next after (sym (ap (option_map (λ (t : Taken). t.next)) taken) ∙ stepped) in
    found_taken which next bytes said (Some (headed said there.0)) read taken
    ∙ (ap (λ (n : Next). Some (found_so n (is_wanted which (OfPlan said)))) same ∙ ap (λ b. Some (found_so after b)) (sym (wants said)))

-- a line behind the plan
pub found_behind : (which : Wanted) (next after : Next) (bytes : List ℕ) (said : Said) (standing : Standing) (is : Bool) → line_of next.plan.version bytes ≡ Some said
    → take_line next said ≡ Some (taken_at next.plan standing) → after ≡ behind next.plan (due_of next.plan standing.slot) standing.part → is ≡ is_wanted which (placed standing.line)
    → step_of which next bytes ≡ Some (found_so after is)
found_behind which next after bytes said standing is read taken goes wants =
    found_taken which next bytes said (Some (taken_at next.plan standing)) read taken
    ∙ (ap (λ (n : Next). Some (found_so n (is_wanted which (placed standing.line)))) (sym goes) ∙ ap (λ b. Some (found_so after b)) (sym wants))
