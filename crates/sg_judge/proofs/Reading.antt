-- What holds of a line that may stand.
use Rattle.std.proofs.Common.{◌≡◌, ℕ, ◌+◌, ◌*◌, ◌≤◌, Bool, ◌&&◌, ◌==◌, nat_lt, List, [], ◌∷◌, if◌then◌else◌, length, count_by, Option, Some, None, refl, arith, subst, sym, ◌∙◌}
use Rattle.std.specs.Prelude.{IfSome}
use Rattle.std.specs.Option.{option_map}
use Rattle.std.proofs.lemmas.List.{length-append}
use Rattle.std.proofs.lemmas.List.Sums.{sum_by-cons}
use Rattle.sg_check.specs.Verdict.{total_on}
use Rattle.sg_commit.specs.declared.Sealer.{Sealer}
use Rattle.sg_forms.proofs.LineLaws.{lines_are_spelled}
use Rattle.sg_forms.specs.Said.{Said}
use Rattle.sg_forms.specs.Said.Said.{Audited, Ballots, Cast, Code, CodeCommit, Dispute, DrawFull, DrawPublic, Flags, Over, Paper, Places, Row, RowCommit, Seal, Spoiled, Total, Voided}
use Rattle.sg_forms.specs.Spelling.{IsInRange}
use Rattle.sg_ledger.proofs.Laws.{totals_kept-tells}
use Rattle.sg_ledger.specs.Tells.{HasDigits, totals_kept, totals_placed}
use Rattle.sg_ledger.specs.declared.ledger.Ledger.{Ledger}
use Rattle.sg_judge.specs.inside.Taking.{Stands, StandsAt}
use Rattle.sg_judge.proofs.Placing.{take_bytes-spelled}
use Rattle.sg_commit.specs.declared.Digest.{Digest}
use Rattle.sg_forms.specs.Reading.{line_of}
use Rattle.sg_forms.specs.declared.line.RowOpening.{RowOpening}
use Rattle.sg_grammar.specs.declared.body.Standing.{Standing}
use Rattle.sg_plan.specs.Ballots.{ballot_has}
use Rattle.sg_plan.specs.Limits.{most_claims}
use Rattle.sg_plan.specs.declared.plan.Plan.{Plan}
use Rattle.sg_grammar.proofs.DueLines.{if_then_claim}
use Rattle.sg_grammar.proofs.FirstLines.{take_bytes-line}
use Rattle.sg_grammar.proofs.Totals.{totals_few}
use Rattle.sg_grammar.specs.Due.{commits, due_audit, race_codes, results}
use Rattle.sg_grammar.specs.Head.{Making, head_line, if_then}
use Rattle.sg_grammar.specs.Left.{is_total_line}
use Rattle.sg_grammar.specs.Lines.{placed_of}
use Rattle.sg_grammar.specs.Placed.{Placed}
use Rattle.sg_grammar.specs.Placed.Placed.{Begun, CodeAt, CodeCommitAt, Disputed, FlagsAt, OverAt, PaperAt, PlacesAt, RowAt, RowCommitAt, SealAt, TotalAt, DrawnPublic}
use Rattle.sg_grammar.specs.Walk.{Next, Taken, after_block, after_dispute, after_run, behind, body_line, first_taken, follows_in_order, headed, in_cast, is_column, is_later, is_race_left, place, take_at, take_bytes, take_line, taking, took}
use Rattle.sg_grammar.specs.declared.state.Block.TheVariants as block
use Rattle.sg_grammar.specs.declared.state.Head.{Head}
use Rattle.sg_grammar.specs.declared.state.Head.TheVariants as head
use Rattle.sg_grammar.specs.declared.state.Part.{Part}
use Rattle.sg_grammar.specs.declared.state.Part.TheVariants as part
use Rattle.sg_grammar.specs.declared.state.Slot.{Slot}
use Rattle.sg_grammar.specs.declared.state.Slot.TheVariants as slot

-- WHAT A LINE IN ITS PLACE SAYS: commitments, openings and public bytes are those of its words

abbrev pub IsSaid : Said → Placed → Type 0
IsSaid said (CodeCommitAt race entry digest) = (named : ℕ) × (said ≡ CodeCommit named digest)
IsSaid said (RowCommitAt race instance row left right) = (named of : ℕ) × (said ≡ RowCommit named of left right)
IsSaid said (RowAt race instance row opening) = said ≡ Row opening
IsSaid said (DrawnPublic digits) = said ≡ DrawPublic digits
IsSaid said line = Unit {0}

place-said : (s : Slot) (said : Said) → IfSome (place s said) (IsSaid said)
place-said (slot.CodeCommit race entry) (CodeCommit named digest) = if_then_claim (IsSaid (CodeCommit named digest)) (named == race) (CodeCommitAt race entry digest) (λ _. (named, refl))
place-said (slot.RowCommit race instance at) (RowCommit named of left right) =
    if_then_claim (IsSaid (RowCommit named of left right)) (named == race && of == instance) (RowCommitAt race instance at left right) (λ _. (named, of, refl))
place-said (slot.Seal number) (Seal named digest) = if_then_claim (IsSaid (Seal named digest)) (named == number) (SealAt number digest) (λ _. tt)
place-said (slot.Paper ballot race count) (Paper named list) = if_then_claim (IsSaid (Paper named list)) (named == race && length list == count) (PaperAt ballot race list) (λ _. tt)
place-said (slot.Code kind ballot race column) (Code code) = if_then_claim (IsSaid (Code code)) (code.race == race && code.column == column) (CodeAt kind ballot race column code) (λ _. tt)
place-said (slot.Flags race instance number count) (Flags named of bits) = if_then_claim (IsSaid (Flags named of bits)) ((named == race && of == instance) && length bits == count) (FlagsAt race instance (64 * number) bits) (λ _. tt)
place-said (slot.Places race number count) (Places named bits) = if_then_claim (IsSaid (Places named bits)) (named == race && length bits == count) (PlacesAt race (64 * number) bits) (λ _. tt)
place-said (slot.Total race candidate) (Total named of count) = if_then_claim (IsSaid (Total named of count)) (named == race && of == candidate) (TotalAt race candidate count) (λ _. tt)
place-said slot.Draw (DrawPublic digits) = refl
place-said slot.Draw DrawFull = tt
place-said (slot.Row race instance at) (Row opening) = refl
place-said s said = tt

-- so it is of a line that is taken
abbrev TakesSaid : Said → Taken → Type 0
TakesSaid said t = IsSaid said t.placed

taking-said : (said : Said) (plan : Plan) (due : List Slot) (may_begin : Part) (line : Option Placed) → IfSome line (IsSaid said) → IfSome (taking plan due may_begin line) (TakesSaid said)
taking-said said plan due may_begin None is = tt
taking-said said plan due may_begin (Some line) is = is

-- where it only begins
begun-said : (said : Said) (b : Bool) (line : Placed) (next : Next) → IsSaid said line → IfSome (if_then b (took line next)) (TakesSaid said)
begun-said said b line next is = if_then_claim (TakesSaid said) b (took line next) (λ _. is)

first-said : (plan : Plan) (due : List Slot) (said : Said) → IfSome (first_taken plan due said) (TakesSaid said)
first-said plan [] said = tt
first-said plan (s ∷ due) said = taking-said said plan due (part.Disputes 0) (place s said) (place-said s said)

block-said : (plan : Plan) (last : ℕ) (said : Said) → IfSome (after_block plan last said) (TakesSaid said)
block-said plan last (Cast ballot) = begun-said (Cast ballot) (is_later plan last ballot) (Begun ballot) (behind plan [] (part.Cast ballot 0 0)) tt
block-said plan last (Spoiled ballot) = begun-said (Spoiled ballot) (is_later plan last ballot) (Begun ballot) (behind plan [] (part.Ballots ballot)) tt
block-said plan last (Audited ballot) = begun-said (Audited ballot) (is_later plan last ballot) (Begun ballot) (behind plan (due_audit plan ballot) (part.Ballots ballot)) tt
block-said plan last (Voided ballot) = begun-said (Voided ballot) (plan.version == 2 && is_later plan last ballot) (Begun ballot) (behind plan [] (part.Ballots ballot)) tt
block-said plan last said = first-said plan (results plan) said

cast-said : (plan : Plan) (ballot race column : ℕ) (said : Said) → IfSome (in_cast plan ballot race column said) (TakesSaid said)
cast-said plan ballot race column (Code code) =
    begun-said (Code code) (is_column plan ballot code.race code.column && follows_in_order race column code.race code.column) (CodeAt block.Cast ballot code.race code.column code) (behind plan [] (part.Cast ballot code.race (code.column + 1))) tt
cast-said plan ballot race column (Over later) = begun-said (Over later) (is_race_left plan ballot race later) (OverAt ballot later) (behind plan [] (part.Cast ballot (later + 1) 0)) tt
cast-said plan ballot race column said = block-said plan ballot said

dispute-said : (plan : Plan) (count : ℕ) (said : Said) → IfSome (after_dispute plan count said) (TakesSaid said)
dispute-said plan count (Dispute ballot race code word) =
    begun-said (Dispute ballot race code word) (nat_lt count most_claims && (nat_lt race (length plan.races) && ballot_has plan ballot race)) (Disputed ballot race code word) (behind plan (race_codes plan block.Dispute ballot race) (part.Disputes (count + 1))) tt
dispute-said plan count said = tt

body-said : (plan : Plan) (due : List Slot) (may_begin : Part) (said : Said) → IfSome (body_line plan due may_begin said) (TakesSaid said)
body-said plan (s ∷ due) may_begin said = taking-said said plan due may_begin (place s said) (place-said s said)
body-said plan [] (part.Ballots last) said = block-said plan last said
body-said plan [] (part.Cast ballot race column) said = cast-said plan ballot race column said
body-said plan [] (part.Disputes count) said = dispute-said plan count said

made-said : (said : Said) (making : Option Making) → IfSome (option_map (headed said) making) (TakesSaid said)
made-said said None = tt
made-said said (Some making) = tt

run-said : (plan : Plan) (said : Said) → IfSome (after_run plan said) (TakesSaid said)
run-said plan (Ballots style count) = made-said (Ballots style count) (head_line plan head.Runs (Ballots style count))
run-said plan said = body-said plan (commits plan) (part.Ballots 0) said

at-said : (plan : Plan) (stage : Head) (due : List Slot) (may_begin : Part) (said : Said) → IfSome (take_at plan stage due may_begin said) (TakesSaid said)
at-said plan head.Whole due may_begin said = body-said plan due may_begin said
at-said plan head.Runs due may_begin said = run-said plan said
at-said plan stage due may_begin said = made-said said (head_line plan stage said)

line-said : (next : Next) (said : Said) (t : Taken) → take_line next said ≡ Some t → IsSaid said t.placed
unfolding take_line
line-said next said t taken = subst (λ (o : Option Taken). IfSome o (TakesSaid said)) taken (at-said next.plan next.head next.due next.part said)

-- the line that the bytes spell
pub taken-said : (next : Next) (bytes : List ℕ) (said : Said) (t : Taken) → line_of next.plan.version bytes ≡ Some said → take_bytes next bytes ≡ Some t → IsSaid said t.placed
taken-said next bytes said t spelled taken = line-said next said t (sym (take_bytes-spelled next bytes said spelled) ∙ taken)

-- public bytes are spelled as their form wants
digits-said : (version : ℕ) (said : Said) (line : Placed) → IsInRange version said → IsSaid said line → HasDigits line
digits-said version said (DrawnPublic digits) fits is = subst (IsInRange version) is fits
digits-said version said line fits is = tt

pub taken-digits : (next : Next) (bytes : List ℕ) (t : Taken) → take_bytes next bytes ≡ Some t → HasDigits t.placed
taken-digits next bytes t taken =
    let line = take_bytes-line next bytes t taken in
    digits-said next.plan.version line.0 t.placed (lines_are_spelled next.plan.version bytes line.0 line.1).0 (line-said next line.0 t line.2)

-- A LINE OF WHICH A RECORD HAS MANY STANDS WITH WHAT ITS WORDS SAY

same_row : (a b : RowOpening) → Row a ≡ Row b → b ≡ a
same_row a b e = cc

pub row_stands : (expect : Next) (bytes : List ℕ) (standing : Standing) (race instance row : ℕ) (opening told : RowOpening) → line_of expect.plan.version bytes ≡ Some (Row opening)
    → StandsAt expect bytes standing (RowAt race instance row told) → StandsAt expect bytes standing (RowAt race instance row opening)
row_stands expect bytes standing race instance row opening told spelled there =
    subst (λ (o : RowOpening). StandsAt expect bytes standing (RowAt race instance row o)) (same_row opening told (taken-said expect bytes (Row opening) _ spelled there.taken)) there

same_commits : (race instance named of : ℕ) (left right left' right' : Digest) → RowCommit race instance left right ≡ RowCommit named of left' right' → (left' ≡ left) × (right' ≡ right)
same_commits race instance named of left right left' right' e = (cc, cc)

pub commits_stand : (expect : Next) (bytes : List ℕ) (standing : Standing) (race instance row named of : ℕ) (left right left' right' : Digest) → line_of expect.plan.version bytes ≡ Some (RowCommit named of left right)
    → StandsAt expect bytes standing (RowCommitAt race instance row left' right') → StandsAt expect bytes standing (RowCommitAt race instance row left right)
commits_stand expect bytes standing race instance row named of left right left' right' spelled there =
    let said = taken-said expect bytes (RowCommit named of left right) _ spelled there.taken in
    let same = same_commits named of said.0 said.1 left right left' right' said.2 in
    subst (λ (d : Digest). StandsAt expect bytes standing (RowCommitAt race instance row left d)) same.1
    (subst (λ (d : Digest). StandsAt expect bytes standing (RowCommitAt race instance row d right')) same.0 there)

same_commit : (race named : ℕ) (digest digest' : Digest) → CodeCommit race digest ≡ CodeCommit named digest' → digest' ≡ digest
same_commit race named digest digest' e = cc

pub commit_stands : (expect : Next) (bytes : List ℕ) (standing : Standing) (race entry named : ℕ) (digest digest' : Digest) → line_of expect.plan.version bytes ≡ Some (CodeCommit named digest)
    → StandsAt expect bytes standing (CodeCommitAt race entry digest') → StandsAt expect bytes standing (CodeCommitAt race entry digest)
commit_stands expect bytes standing race entry named digest digest' spelled there =
    let said = taken-said expect bytes (CodeCommit named digest) _ spelled there.taken in
    subst (λ (d : Digest). StandsAt expect bytes standing (CodeCommitAt race entry d)) (same_commit named said.0 digest digest' said.1) there

-- TOTALS

-- one total stands on a line of a total, and none on others
total-count : (line : Placed) → length (total_on line) ≡ (if is_total_line line then 1 else 0)
total-count (TotalAt race candidate count) = refl
total-count line = refl

totals-count : (lines : List Placed) → length (totals_placed lines) ≡ count_by is_total_line lines
totals-count [] = refl
totals-count (line ∷ lines) =
    omega (
      arith,
      length-append (total_on line) (totals_placed lines),
      total-count line,
      totals-count lines,
      sum_by-cons (λ (x : Placed). if is_total_line x then 1 else 0) line lines,
    )

-- there is room for the total of one more line
pub room_left : (expect : Next) (sealer : Sealer) (ledger : Ledger) (lines : List (List ℕ)) (bytes : List ℕ) (t : Taken) → Stands expect sealer (Some ledger) lines
    → take_bytes expect bytes ≡ Some t → totals_kept ledger + length (total_on t.placed) ≤ 512
room_left expect sealer ledger lines bytes t stands taken =
    omega (
      arith,
      totals_few lines (record { posted = stands.posted; next = expect }) bytes t stands.walks taken,
      totals_kept-tells expect.plan ledger (placed_of stands.posted) stands.kept,
      totals-count (placed_of stands.posted),
      total-count t.placed,
    )
