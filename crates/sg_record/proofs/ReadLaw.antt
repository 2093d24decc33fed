-- What a reader of a text rests on: the lines of the text, one after another, give a record exactly where the text is
-- that of a formed record.
use Rattle.std.proofs.Common.{◌≡◌, ℕ, ◌≤◌, Bool, true, false, cond, List, [], ◌∷◌, ◌++◌, drop, length, slice_range, Option, Some, None, refl, sym, ap, ◌∙◌}
use Rattle.std.proofs.lemmas.Bool.{true≢false}
use Rattle.std.proofs.lemmas.List.{drop_all}
use Rattle.std.proofs.lemmas.Option.{same_Some}
use Rattle.std.specs.List.{concat}
use Rattle.std.specs.Prelude.{option_and_then}
use Rattle.sg_outside.proofs.LineLemmas.{concat-lines_of, lines_of-concat}
use Rattle.sg_outside.specs.TextLines.{lines_of}
use Rattle.sg_grammar.specs.Walk.{is_whole}
use Rattle.sg_record.proofs.BytesWalk.{AreIn-from_All}
use Rattle.sg_record.proofs.GatherLaw.{formed_gathered, gather-push, whole_gathered}
use Rattle.sg_record.proofs.TextLaw.{spelled_lines}
use Rattle.sg_record.specs.inside.Gathering.{Gathered, gather, gather_line, nothing_yet}
use Rattle.sg_record.specs.Laws.{AreLinesOf, HasWords, IsTextOf}
use Rattle.sg_record.specs.Lines.{lines_in, text_of, texts_in}
use Rattle.sg_record.specs.Places.{behind_record}
use Rattle.sg_record.specs.declared.record.Record.{Record}

-- THE LOOP: what is left to gather

-- no line is left
pub gather-end : (so_far : Gathered) → gather so_far [] ≡ Some so_far
unfolding gather
gather-end so_far = refl

-- the first line may stand, and the others are left
pub gather-first : (so_far more : Gathered) (bytes : List ℕ) (lines : List (List ℕ)) → gather_line so_far bytes ≡ Some more → gather so_far (bytes ∷ lines) ≡ gather more lines
unfolding gather
gather-first so_far more bytes lines e = ap (λ (o : Option Gathered). option_and_then (λ m. gather m lines) o) e

-- the first line may not stand: nothing is gathered
pub gather-stops : (so_far : Gathered) (bytes : List ℕ) (lines : List (List ℕ)) → gather_line so_far bytes ≡ None → gather so_far (bytes ∷ lines) ≡ None
unfolding gather
gather-stops so_far bytes lines e = ap (λ (o : Option Gathered). option_and_then (λ m. gather m lines) o) e

-- behind a line that is taken, what is left to gather gives the same
pub gathered_step : (so_far more : Gathered) (bytes : List ℕ) (start end : ℕ) (taken : Bool) → gather so_far (lines_of (drop start bytes)) ≡ gather nothing_yet (lines_of bytes)
    → lines_of (drop start bytes) ≡ slice_range bytes start end ∷ lines_of (drop end bytes) → gather_line so_far (slice_range bytes start end) ≡ cond taken (Some more) None → taken ≡ true
    → gather more (lines_of (drop end bytes)) ≡ gather nothing_yet (lines_of bytes)
gathered_step so_far more bytes start end true left line takes is =
    sym (ap (gather so_far) line ∙ gather-first so_far more (slice_range bytes start end) (lines_of (drop end bytes)) takes) ∙ left
gathered_step so_far more bytes start end false left line takes is = cc

-- where one isn't, nothing is gathered
pub gathered_stop : (so_far more : Gathered) (bytes : List ℕ) (start end : ℕ) (taken : Bool) → gather so_far (lines_of (drop start bytes)) ≡ gather nothing_yet (lines_of bytes)
    → lines_of (drop start bytes) ≡ slice_range bytes start end ∷ lines_of (drop end bytes) → gather_line so_far (slice_range bytes start end) ≡ cond taken (Some more) None → taken ≡ false
    → None ≡ gather nothing_yet (lines_of bytes)
gathered_stop so_far more bytes start end false left line takes is =
    sym (ap (gather so_far) line ∙ gather-stops so_far (slice_range bytes start end) (lines_of (drop end bytes)) takes) ∙ left
gathered_stop so_far more bytes start end true left line takes is = cc

-- no bytes are left
pub gathered_end : (so_far : Gathered) (bytes : List ℕ) (start : ℕ) → gather so_far (lines_of (drop start bytes)) ≡ gather nothing_yet (lines_of bytes) → length bytes ≤ start
    → Some so_far ≡ gather nothing_yet (lines_of bytes)
gathered_end so_far bytes start left past = sym (gather-end so_far) ∙ (ap (λ (l : List ℕ). gather so_far (lines_of l)) (sym (drop_all start bytes past)) ∙ left)

-- THE RESULT

-- a text's lines are those that it was put together from
pub text_lines : (posted : Record) → HasWords posted → lines_of (text_of posted) ≡ texts_in posted
unfolding text_of
text_lines posted words = lines_of-concat (texts_in posted) (spelled_lines posted.plan.version (lines_in posted) (AreIn-from_All posted.plan.version (lines_in posted) words))

-- what is gathered of lines, up to a whole record, is formed, and the lines are its lines
pub lines_found : (lines : List (List ℕ)) (so_far : Gathered) → Some so_far ≡ gather nothing_yet lines → is_whole so_far.next ≡ true → AreLinesOf lines so_far.made
lines_found lines so_far e whole = let found = whole_gathered lines so_far (sym e) whole in record { words = found.words; formed = found.formed; text = found.is }

-- the lines of a formed record give the record
lines_only : (lines : List (List ℕ)) (posted : Record) → AreLinesOf lines posted → gather nothing_yet lines ≡ Some (record { next = behind_record posted; made = posted })
lines_only lines posted are = ap (gather nothing_yet) are.text ∙ formed_gathered posted are.words are.formed

-- so where nothing is gathered, they are those of no formed record
pub lines_none : (lines : List (List ℕ)) (posted : Record) → None ≡ gather nothing_yet lines → AreLinesOf lines posted → ⊥
lines_none lines posted none are =
    let found : Gathered = record { next = behind_record posted; made = posted } in
    nothing found (none ∙ lines_only lines posted are)
  where
    nothing : (found : Gathered) → ◌≡◌ {A = Option Gathered} None (Some found) → ⊥
    nothing found e = cc

-- what is gathered of a formed record's lines is the record
gathered_is : (lines : List (List ℕ)) (so_far : Gathered) (posted : Record) → Some so_far ≡ gather nothing_yet lines → AreLinesOf lines posted
    → so_far ≡ record { next = behind_record posted; made = posted }
gathered_is lines so_far posted e are = same_Some so_far (record { next = behind_record posted; made = posted }) (e ∙ lines_only lines posted are)

-- so where it isn't whole, the lines are those of no formed record either
pub lines_part : (lines : List (List ℕ)) (so_far : Gathered) (posted : Record) → Some so_far ≡ gather nothing_yet lines → is_whole so_far.next ≡ false → AreLinesOf lines posted → ⊥
lines_part lines so_far posted e part are =
    let whole : is_whole so_far.next ≡ true = ap (λ (g : Gathered). is_whole g.next) (gathered_is lines so_far posted e are) in
    true≢false (sym whole ∙ part)

pub lines_same : (lines : List (List ℕ)) (so_far : Gathered) (posted : Record) → Some so_far ≡ gather nothing_yet lines → AreLinesOf lines posted → so_far.made ≡ posted
lines_same lines so_far posted e are = ap (λ (g : Gathered). g.made) (gathered_is lines so_far posted e are)

-- OF A TEXT

-- the lines of a record's text are its lines
pub text_has : (bytes : List ℕ) (posted : Record) → IsTextOf bytes posted → AreLinesOf (lines_of bytes) posted
text_has bytes posted is = record { words = is.words; formed = is.formed; text = ap lines_of is.text ∙ text_lines posted is.words }

-- what is gathered of a text, up to a whole record, is formed, and the text is its text
pub read_found : (bytes : List ℕ) (so_far : Gathered) → Some so_far ≡ gather nothing_yet (lines_of bytes) → is_whole so_far.next ≡ true → IsTextOf bytes so_far.made
unfolding text_of
read_found bytes so_far e whole =
    let found = lines_found (lines_of bytes) so_far e whole in
    record { words = found.words; formed = found.formed; text = sym (concat-lines_of bytes) ∙ ap concat found.text }

pub read_none : (bytes : List ℕ) (posted : Record) → None ≡ gather nothing_yet (lines_of bytes) → IsTextOf bytes posted → ⊥
read_none bytes posted none is = lines_none (lines_of bytes) posted none (text_has bytes posted is)

pub read_part : (bytes : List ℕ) (so_far : Gathered) (posted : Record) → Some so_far ≡ gather nothing_yet (lines_of bytes) → is_whole so_far.next ≡ false → IsTextOf bytes posted → ⊥
read_part bytes so_far posted e part is = lines_part (lines_of bytes) so_far posted e part (text_has bytes posted is)

pub read_same : (bytes : List ℕ) (so_far : Gathered) (posted : Record) → Some so_far ≡ gather nothing_yet (lines_of bytes) → IsTextOf bytes posted → so_far.made ≡ posted
read_same bytes so_far posted e is = lines_same (lines_of bytes) so_far posted e (text_has bytes posted is)

-- ONE MORE LINE

-- behind a line that may not stand, nothing changes
pub push_stopped : (so_far : Gathered) (stopped : Bool) (lines : List (List ℕ)) (line : List ℕ) → stopped ≡ true → cond stopped None (Some so_far) ≡ gather nothing_yet lines
    → cond stopped None (Some so_far) ≡ gather nothing_yet (lines ++ line ∷ [])
push_stopped so_far true lines line is e = sym (gather-push nothing_yet lines line ∙ ap (option_and_then (λ (g : Gathered). gather_line g line)) (sym e))
push_stopped so_far false lines line is e = cc

-- the line is taken, or may not stand
pub push_taken : (old new : Gathered) (stopped taken : Bool) (lines : List (List ℕ)) (line : List ℕ) → stopped ≡ false → cond stopped None (Some old) ≡ gather nothing_yet lines
    → gather_line old line ≡ cond taken (Some new) None → cond taken (Some new) None ≡ gather nothing_yet (lines ++ line ∷ [])
push_taken old new false taken lines line is e takes =
    sym (gather-push nothing_yet lines line ∙ (ap (option_and_then (λ (g : Gathered). gather_line g line)) (sym e) ∙ takes))
push_taken old new true taken lines line is e takes = cc
