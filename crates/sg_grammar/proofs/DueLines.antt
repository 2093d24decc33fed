-- A line in the place of the one that is due has coordinates of the plan.
use Rattle.std.proofs.Common.{◌≡◌, ℕ, ◌+◌, ◌*◌, ◌<◌, ◌≤◌, ◌==◌, ◌&&◌, Bool, true, false, List, length, take, min, refl, sym, ap, subst, ◌∙◌, arith, Option, Some, IfSome, eqb-true}
use Rattle.std.proofs.lemmas.List.{length-take}
use Rattle.std.proofs.lemmas.Bool.{and_parts}
use Rattle.sg_plan.specs.Ballots.{entries_of}
use Rattle.sg_plan.specs.declared.plan.Plan.{Plan}
use Rattle.sg_forms.specs.Said.{Said}
use Rattle.sg_forms.specs.Said.Said.{CodeCommit, RowCommit, Seal, Paper, Code, Flags, Places, Total, DrawFull, DrawPublic, Row}
use Rattle.sg_grammar.specs.Due.{lines_for, bits_on}
use Rattle.sg_grammar.specs.Head.{if_then}
use Rattle.sg_grammar.specs.Placed.{Placed}
use Rattle.sg_grammar.specs.Placed.Placed.{CodeCommitAt, RowCommitAt, SealAt, PaperAt, CodeAt, FlagsAt, PlacesAt, TotalAt}
use Rattle.sg_grammar.specs.Slots.{IsIn, HasFittingLine}
use Rattle.sg_grammar.specs.Coordinates.{IsPlacedIn}
use Rattle.sg_grammar.specs.Walk.{place}
use Rattle.sg_grammar.specs.declared.state.Block.{Block}
use Rattle.sg_grammar.specs.declared.state.Slot.{Slot}
use Rattle.sg_grammar.specs.declared.state.Slot.TheVariants as slot

pub fits_in : (plan : Plan) (s : Slot) → IsIn plan s → HasFittingLine s
fits_in plan (slot.CodeCommit race entry) h = tt
fits_in plan (slot.RowCommit race instance row) h = tt
fits_in plan (slot.Seal number) h = tt
fits_in plan (slot.Paper ballot race count) h = tt
fits_in plan (slot.Code kind ballot race column) h = tt
fits_in plan (slot.Flags race instance line count) h = h.3
fits_in plan (slot.Places race line count) h = h.2
fits_in plan (slot.Total race candidate) h = tt
fits_in plan slot.Draw h = tt
fits_in plan (slot.Row race instance row) h = tt

pub ruleset standing = (fits_in)

-- a list has so many items as are taken of it, and no more than are there
pub length-listed : (count : ℕ) (list : List ℕ) → length list ≡ 16 → length (take count list) ≡ min count 16
length-listed count list e = length-take count list ∙ ap (min count) e

pub ruleset listed = (length-listed)

-- what a test lets through has what follows from the test
pub if_then_claim : {A : Type 0} (P : A → Type 0) (b : Bool) (x : A) → (b ≡ true → P x) → IfSome (if_then b x) P
if_then_claim P true x h = h refl
if_then_claim P false x h = tt

code_commit_in : (plan : Plan) (race entry : ℕ) (said : Said) → IsIn plan (slot.CodeCommit race entry) → IfSome (place (slot.CodeCommit race entry) said) (IsPlacedIn plan)
code_commit_in plan race entry (CodeCommit named digest) h = if_then_claim (IsPlacedIn plan) (named == race) (CodeCommitAt race entry digest) (λ _. h)
code_commit_in plan race entry said h = tt

row_commit_in : (plan : Plan) (race instance row : ℕ) (said : Said) → IsIn plan (slot.RowCommit race instance row) → IfSome (place (slot.RowCommit race instance row) said) (IsPlacedIn plan)
row_commit_in plan race instance row (RowCommit named of left right) h = if_then_claim (IsPlacedIn plan) (named == race && of == instance) (RowCommitAt race instance row left right) (λ _. h)
row_commit_in plan race instance row said h = tt

seal_in : (plan : Plan) (number : ℕ) (said : Said) → IfSome (place (slot.Seal number) said) (IsPlacedIn plan)
seal_in plan number (Seal named digest) = if_then_claim (IsPlacedIn plan) (named == number) (SealAt number digest) (λ _. tt)
seal_in plan number said = tt

-- so many bits on a line are within the entries
bits_within : (entries line count bits : ℕ) → line < lines_for entries → count ≡ bits_on entries line → bits ≡ count → 64 * line + bits ≤ entries
bits_within entries line count bits h e d = omega arith

paper_in : (plan : Plan) (ballot race count : ℕ) (said : Said) → IsIn plan (slot.Paper ballot race count) → IfSome (place (slot.Paper ballot race count) said) (IsPlacedIn plan)
paper_in plan ballot race count (Paper named list) h =
    if_then_claim (IsPlacedIn plan) (named == race && length list == count) (PaperAt ballot race list) (λ t. (h.0, h.1, h.2, h.3, eqb-true (length list) count (and_parts (named == race) (length list == count) t).1 ∙ h.4))
paper_in plan ballot race count said h = tt

code_in : (plan : Plan) (kind : Block) (ballot race column : ℕ) (said : Said) → IsIn plan (slot.Code kind ballot race column) → IfSome (place (slot.Code kind ballot race column) said) (IsPlacedIn plan)
code_in plan kind ballot race column (Code code) h = if_then_claim (IsPlacedIn plan) (code.race == race && code.column == column) (CodeAt kind ballot race column code) (λ _. h)
code_in plan kind ballot race column said h = tt

flags_in : (plan : Plan) (race instance line count : ℕ) (said : Said) → IsIn plan (slot.Flags race instance line count) → IfSome (place (slot.Flags race instance line count) said) (IsPlacedIn plan)
flags_in plan race instance line count (Flags named of bits) h =
    if_then_claim (IsPlacedIn plan) ((named == race && of == instance) && length bits == count) (FlagsAt race instance (64 * line) bits) (λ t. (h.0, h.1, bits_within (entries_of plan race) line count (length bits) h.2 h.4 (eqb-true (length bits) count (and_parts (named == race && of == instance) (length bits == count) t).1)))
flags_in plan race instance line count said h = tt

places_in : (plan : Plan) (race line count : ℕ) (said : Said) → IsIn plan (slot.Places race line count) → IfSome (place (slot.Places race line count) said) (IsPlacedIn plan)
places_in plan race line count (Places named bits) h =
    if_then_claim (IsPlacedIn plan) (named == race && length bits == count) (PlacesAt race (64 * line) bits) (λ t. (h.0, bits_within (entries_of plan race) line count (length bits) h.1 h.3 (eqb-true (length bits) count (and_parts (named == race) (length bits == count) t).1)))
places_in plan race line count said h = tt

total_in : (plan : Plan) (race candidate : ℕ) (said : Said) → IsIn plan (slot.Total race candidate) → IfSome (place (slot.Total race candidate) said) (IsPlacedIn plan)
total_in plan race candidate (Total named of count) h = if_then_claim (IsPlacedIn plan) (named == race && of == candidate) (TotalAt race candidate count) (λ _. h)
total_in plan race candidate said h = tt

draw_in : (plan : Plan) (said : Said) → IfSome (place slot.Draw said) (IsPlacedIn plan)
draw_in plan DrawFull = tt
draw_in plan (DrawPublic digits) = tt
draw_in plan said = tt

row_in : (plan : Plan) (race instance row : ℕ) (said : Said) → IsIn plan (slot.Row race instance row) → IfSome (place (slot.Row race instance row) said) (IsPlacedIn plan)
row_in plan race instance row (Row opening) h = h
row_in plan race instance row said h = tt

pub place_in : (plan : Plan) (s : Slot) (said : Said) → IsIn plan s → IfSome (place s said) (IsPlacedIn plan)
place_in plan (slot.CodeCommit race entry) said h = code_commit_in plan race entry said h
place_in plan (slot.RowCommit race instance row) said h = row_commit_in plan race instance row said h
place_in plan (slot.Seal number) said h = seal_in plan number said
place_in plan (slot.Paper ballot race count) said h = paper_in plan ballot race count said h
place_in plan (slot.Code kind ballot race column) said h = code_in plan kind ballot race column said h
place_in plan (slot.Flags race instance line count) said h = flags_in plan race instance line count said h
place_in plan (slot.Places race line count) said h = places_in plan race line count said h
place_in plan (slot.Total race candidate) said h = total_in plan race candidate said h
place_in plan slot.Draw said h = draw_in plan said
place_in plan (slot.Row race instance row) said h = row_in plan race instance row said h

-- the line in its place, where it may stand there
pub placed_in : (plan : Plan) (s : Slot) (said : Said) (placed : Placed) → IsIn plan s → Some placed ≡ place s said → IsPlacedIn plan placed
placed_in plan s said placed h e = subst (λ (o : Option Placed). IfSome o (IsPlacedIn plan)) (sym e) (place_in plan s said h)
