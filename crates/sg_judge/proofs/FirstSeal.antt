-- The digest of the line `seal 1`, with one more line.
use Rattle.std.proofs.Common.{◌≡◌, ℕ, ◌+◌, true, List, [], ◌∷◌, ◌++◌, length, Option, Some, None, refl, sym, subst, ap, ◌∙◌}
use Rattle.std.specs.Option.{is_some, option_map_or}
use Rattle.sg_lists.proofs.Options.{is_some-true}
use Rattle.sg_check.specs.declared.judged.Kind.TheVariants as kind
use Rattle.sg_check.proofs.OneMore.{form_over}
use Rattle.sg_grammar.specs.Lines.{placed_of}
use Rattle.sg_commit.specs.declared.Digest.{Digest}
use Rattle.sg_commit.specs.declared.Sealer.{Sealer}
use Rattle.sg_forms.specs.Said.{Said}
use Rattle.sg_ledger.specs.declared.ledger.Ledger.{Ledger}
use Rattle.sg_judge.proofs.Advancing.{placed_of-push}
use Rattle.sg_judge.proofs.Sealing.{or_seal_none}
use Rattle.sg_check.specs.declared.judged.Kind.{Kind}
use Rattle.sg_judge.proofs.Ending.{open_judges}
use Rattle.sg_judge.specs.FirstSeal.{first_seal, first_seal_in, first_seal_on}
use Rattle.sg_judge.specs.Pass.{Judges}
use Rattle.sg_judge.specs.inside.Taking.{Advances, Stands, next_seal, or_seal}
use Rattle.sg_grammar.proofs.Walking.{take_bytes-read, take_line-head, walk-empty, walk-push}
use Rattle.sg_grammar.specs.Head.{head_line}
use Rattle.sg_grammar.specs.Placed.{Placed}
use Rattle.sg_grammar.specs.Walk.{Next, Posted, Taken, Walked, headed, read_next, start, take_bytes, walk}

first_given-or : (o a b : Option Digest) → option_map_or Some o (or_seal a b) ≡ or_seal (option_map_or Some o a) b
first_given-or None a b = refl
first_given-or (Some digest) a b = refl

or_none : (o : Option Digest) → option_map_or Some o None ≡ o
or_none None = refl
or_none (Some digest) = refl

first_seal_in-push : (lines : List Placed) (line : Placed) → first_seal_in (lines ++ line ∷ []) ≡ or_seal (first_seal_in lines) (first_seal_on line)
first_seal_in-push [] line = or_none (first_seal_on line)
first_seal_in-push (x ∷ lines) line =
    ap (λ (o : Option Digest). option_map_or Some (first_seal_on x) o) (first_seal_in-push lines line) ∙ first_given-or (first_seal_on x) (first_seal_in lines) (first_seal_on line)

seal-at : (lines : List (List ℕ)) (posted : List Posted) (expect : Next) → walk start lines ≡ Some (record { posted = posted; next = expect }) → first_seal lines ≡ first_seal_in (placed_of posted)
seal-at lines posted expect e = ap (λ (o : Option Walked). option_map_or (λ (w : Walked). first_seal_in (placed_of w.posted)) o None) e

push-at : (expect : Next) (sealer : Sealer) (ledger : Option Ledger) (lines : List (List ℕ)) (bytes : List ℕ) (o : Option Taken) → take_bytes expect bytes ≡ o
    → (stands : Stands expect sealer ledger lines) → (new : Next) (sealer' : Sealer) (ledger' : Option Ledger) → Stands new sealer' ledger' (lines ++ bytes ∷ [])
    → first_seal (lines ++ bytes ∷ []) ≡ or_seal (first_seal lines) (option_map_or (λ (t : Taken). first_seal_on t.placed) o None)
push-at expect sealer ledger lines bytes None e stands new sealer' ledger' stands' =
    let bad = form_over lines (record { posted = stands.posted; next = expect }) bytes stands.walks stands.fine e in
    let off : None ≡ Some kind.Form = sym (stands'.fine (length lines + 1)) ∙ bad.broken in
    absurd (let none : ⊥ = cc in none)
push-at expect sealer ledger lines bytes (Some t) e stands new sealer' ledger' stands' =
    seal-at (lines ++ bytes ∷ []) (stands.posted ++ record { bytes = bytes; line = t.placed } ∷ []) t.next (walk-push start lines (record { posted = stands.posted; next = expect }) bytes t stands.walks e)
    ∙ (ap first_seal_in (placed_of-push stands.posted (record { bytes = bytes; line = t.placed }))
    ∙ (first_seal_in-push (placed_of stands.posted) t.placed
    ∙ ap (λ (o : Option Digest). or_seal o (first_seal_on t.placed)) (sym (seal-at lines stands.posted expect stands.walks))))

-- no lines have none
pub first_seal_empty : None ≡ first_seal []
first_seal_empty = sym (seal-at [] [] start (walk-empty start))

-- the first seal of one line more
pub first_seal-push : (expect new : Next) (sealer sealer' : Sealer) (ledger ledger' : Option Ledger) (lines : List (List ℕ)) (bytes : List ℕ) → Stands expect sealer ledger lines → Stands new sealer' ledger' (lines ++ bytes ∷ [])
    → first_seal (lines ++ bytes ∷ []) ≡ or_seal (first_seal lines) (next_seal expect bytes)
first_seal-push expect new sealer sealer' ledger ledger' lines bytes stands stands' = push-at expect sealer ledger lines bytes (take_bytes expect bytes) refl stands new sealer' ledger' stands'

-- that of the next line, where it may stand
pub next_seal-at : (expect : Next) (bytes : List ℕ) (t : Taken) → take_bytes expect bytes ≡ Some t → next_seal expect bytes ≡ first_seal_on t.placed
next_seal-at expect bytes t taken = ap (λ (o : Option Taken). option_map_or (λ (x : Taken). first_seal_on x.placed) o None) taken

-- a line of the plan is none
pub next_seal-plan : (expect : Next) (bytes : List ℕ) (said : Said) (seal : Option Digest) → read_next expect bytes ≡ Some said → is_some (head_line expect.plan expect.head said) ≡ true
    → seal ≡ or_seal seal (next_seal expect bytes)
next_seal-plan expect bytes said seal read named =
    let there = is_some-true (head_line expect.plan expect.head said) named in
    let none : next_seal expect bytes ≡ None = next_seal-at expect bytes (headed said there.0) (take_bytes-read expect bytes said read ∙ take_line-head expect said there.0 there.1) in
    sym (ap (or_seal seal) none ∙ or_seal_none seal)

-- the seal that is kept behind one more fine line
pub seal_going : (broken found : Option Kind) (expect new : Next) (sealer sealer' : Sealer) (ledger ledger' : Option Ledger) (number : ℕ) (bytes : List ℕ) (lines : List (List ℕ)) → broken ≡ None → found ≡ None
    → Judges broken expect sealer ledger number lines → ((all : List (List ℕ)) → Stands expect sealer ledger all → Advances found new sealer' ledger' all bytes)
    → (seal seal' : Option Digest) → seal ≡ first_seal lines → seal' ≡ or_seal seal (next_seal expect bytes) → seal' ≡ first_seal (lines ++ bytes ∷ [])
seal_going broken found expect new sealer sealer' ledger ledger' number bytes lines is good judges goes_on seal seal' before steps =
    let old = (open_judges broken expect sealer ledger number lines judges is).stands in
    let now : Stands new sealer' ledger' (lines ++ bytes ∷ []) = subst (λ (f : Option Kind). Advances f new sealer' ledger' lines bytes) good (goes_on lines old) in
    steps ∙ (ap (λ (o : Option Digest). or_seal o (next_seal expect bytes)) before ∙ sym (first_seal-push expect new sealer sealer' ledger ledger' lines bytes old now))
