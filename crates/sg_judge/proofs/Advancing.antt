-- One more line behind lines that are fine.
use Rattle.std.proofs.Common.{◌≡◌, ℕ, ◌+◌, ◌≤◌, Bool, true, false, inl, inr, List, [], ◌∷◌, ◌++◌, length, Option, Some, None, refl, sym, subst, ap, ◌∙◌, append_assoc, arith}
use Rattle.std.specs.Prelude.{IsSome}
use Rattle.std.specs.Option.{is_some, option_map}
use Rattle.std.proofs.lemmas.List.{append-nil, length_push, map_push, take_all}
use Rattle.sg_grammar.specs.Lines.{placed_of}
use Rattle.sg_check.proofs.Judging.{bad_in-placed, bad_in-seal}
use Rattle.sg_check.proofs.OfPlan.{plan_lines-push}
use Rattle.sg_check.proofs.OneMore.{form_over, kind_over, still_fine}
use Rattle.sg_check.specs.Judging.{AreOfPlan}
use Rattle.sg_check.specs.Kinds.{bad_seal, posted_bytes, first_bad}
use Rattle.sg_check.specs.Laws.{IsPlanKnown}
use Rattle.sg_check.specs.Verdict.{IsFirstBad, least_broken}
use Rattle.sg_check.specs.declared.judged.Kind.{Kind}
use Rattle.sg_check.specs.declared.judged.Kind.TheVariants as kind
use Rattle.sg_commit.specs.Seals.{StandsFor as HasTaken}
use Rattle.sg_commit.specs.declared.Sealer.{Sealer}
use Rattle.sg_forms.specs.Said.{Said}
use Rattle.sg_ledger.specs.declared.ledger.Ledger.{Ledger}
use Rattle.sg_ledger.specs.Tells.{Tells, TellsSome, plan_kept}
use Rattle.sg_judge.proofs.Placing.{plan_stepped}
use Rattle.sg_judge.specs.inside.Taking.{Advances, Keeps, Stands, StandsSome, opened_by}
use Rattle.sg_plan.specs.declared.plan.Plan.{Plan}
use Rattle.sg_grammar.proofs.Counting.{most_lines_stand, start-made}
use Rattle.sg_grammar.proofs.Walking.{take_bytes-read, walk-push}
use Rattle.sg_grammar.specs.Head.{head_line}
use Rattle.sg_grammar.specs.Made.{IsMade}
use Rattle.sg_grammar.specs.Placed.{Placed}
use Rattle.sg_grammar.specs.Placed.Placed.{OfPlan}
use Rattle.sg_grammar.specs.Walk.{Next, Posted, Taken, Walked, headed, read_next, start, take_bytes, take_line}

-- LINES WITH THEIR BYTES

posted_bytes-push : (lines : List Posted) (line : Posted) → posted_bytes (lines ++ line ∷ []) ≡ posted_bytes lines ++ line.bytes
posted_bytes-push [] line = append-nil line.bytes
posted_bytes-push (x ∷ lines) line = ap (λ (l : List ℕ). x.bytes ++ l) (posted_bytes-push lines line) ∙ sym (append_assoc x.bytes (posted_bytes lines) line.bytes)

pub placed_of-push : (lines : List Posted) (line : Posted) → placed_of (lines ++ line ∷ []) ≡ placed_of lines ++ line.line ∷ []
placed_of-push lines line = map_push (λ (l : Posted). l.line) lines line

-- bytes of no line that may stand are the first bad line, in form
pub form_stops : (expect : Next) (sealer : Sealer) (ledger : Option Ledger) (lines : List (List ℕ)) (bytes : List ℕ) → Stands expect sealer ledger lines
    → take_bytes expect bytes ≡ None → IsFirstBad (lines ++ bytes ∷ []) (length lines + 1) kind.Form
form_stops expect sealer ledger lines bytes stands e = form_over lines (record { posted = stands.posted; next = expect }) bytes stands.walks stands.fine e

-- a line that may stand and is bad in nothing leaves the lines fine, where all is kept of it
still_stands : (expect : Next) (sealer sealer' : Sealer) (ledger ledger' : Option Ledger) (lines : List (List ℕ)) (bytes : List ℕ) (t : Taken)
    → (stands : Stands expect sealer ledger lines) → take_bytes expect bytes ≡ Some t → IsPlanKnown (record { posted = stands.posted; next = expect }) t
    → bad_seal (posted_bytes stands.posted) t.placed ≡ false → first_bad t.next.plan (placed_of stands.posted) t.placed ≡ None
    → Keeps t.next.plan ledger' (placed_of stands.posted ++ t.placed ∷ []) → ((before : List ℕ) → HasTaken sealer before → HasTaken sealer' (before ++ bytes))
    → Stands t.next sealer' ledger' (lines ++ bytes ∷ [])
still_stands expect sealer sealer' ledger ledger' lines bytes t stands taken known good fine kept adds =
    let w : Walked = record { posted = stands.posted; next = expect } in
    let line : Posted = record { bytes = bytes; line = t.placed } in
    record {
      posted = stands.posted ++ line ∷ [];
      walks = walk-push start lines w bytes t stands.walks taken;
      fine = still_fine lines w bytes t stands.walks stands.fine taken known (bad_in-placed t.next.plan stands.posted line good ∙ fine);
      sealed = subst (λ (all : List ℕ). HasTaken sealer' all) (sym (posted_bytes-push stands.posted line)) (adds (posted_bytes stands.posted) stands.sealed);
      kept = subst (λ (all : List Placed). Keeps t.next.plan ledger' all) (sym (placed_of-push stands.posted line)) kept;
    }

-- THE LEDGER'S PLAN

-- the ledger has the plan of the lines
pub kept_plan : (expect : Next) (sealer : Sealer) (ledger : Ledger) → StandsSome expect sealer (Some ledger) → plan_kept ledger ≡ expect.plan
kept_plan expect sealer ledger some = some.1.kept.sized.book

-- and tells the lines by it
kept_tells : (expect : Next) (sealer : Sealer) (ledger : Ledger) (lines : List (List ℕ)) → (stands : Stands expect sealer (Some ledger) lines) → Tells (plan_kept ledger) ledger (placed_of stands.posted)
kept_tells expect sealer ledger lines stands = subst (λ (p : Plan). Tells p ledger (placed_of stands.posted)) (sym (kept_plan expect sealer ledger (lines, stands))) stands.kept

-- so it tells some
pub kept_some : (expect : Next) (sealer : Sealer) (ledger : Ledger) → StandsSome expect sealer (Some ledger) → TellsSome (plan_kept ledger) ledger
kept_some expect sealer ledger some = (placed_of some.1.posted, kept_tells expect sealer ledger some.0 some.1)

-- WHAT WAS ANSWERED OF A LINE

-- a line of the plan leaves the lines fine
pub plan_advances : (expect new : Next) (sealer sealer' : Sealer) (bytes : List ℕ) (said : Said)
    → read_next expect bytes ≡ Some said → is_some (head_line expect.plan expect.head said) ≡ true → option_map (λ (x : Taken). x.next) (take_line expect said) ≡ Some new
    → ((before : List ℕ) → HasTaken sealer before → HasTaken sealer' (before ++ bytes))
    → (lines : List (List ℕ)) → Stands expect sealer None lines → Stands new sealer' None (lines ++ bytes ∷ [])
plan_advances expect new sealer sealer' bytes said read named stepped adds lines stands =
    let step = plan_stepped expect new said named stepped in
    subst (λ (n : Next). Stands n sealer' None (lines ++ bytes ∷ [])) step.3
    (still_stands expect sealer sealer' None None lines bytes (headed said step.0) stands (take_bytes-read expect bytes said read ∙ step.2) (inr stands.kept) refl refl
    (plan_lines-push (placed_of stands.posted) (OfPlan said) stands.kept tt) adds)

-- a line behind the plan that was found a bad seal is the first bad line
pub seal_advances : (expect : Next) (sealer : Sealer) (ledger : Option Ledger) (bytes : List ℕ) (t : Taken) → take_bytes expect bytes ≡ Some t → t.next.plan ≡ expect.plan
    → ((before : List ℕ) → HasTaken sealer before → true ≡ bad_seal before t.placed)
    → (lines : List (List ℕ)) → Stands expect sealer ledger lines → IsFirstBad (lines ++ bytes ∷ []) (length lines + 1) kind.Seal
seal_advances expect sealer ledger bytes t taken same bad lines stands =
    kind_over lines (record { posted = stands.posted; next = expect }) bytes t kind.Seal stands.walks stands.fine taken (inl same)
    (bad_in-seal t.next.plan stands.posted (record { bytes = bytes; line = t.placed }) (sym (bad (posted_bytes stands.posted) stands.sealed)))

-- what the ledger finds is what the line is bad in behind the lines
found_behind : (expect : Next) (sealer : Sealer) (ledger : Ledger) (t : Taken) (found : Option Kind) → t.next.plan ≡ expect.plan
    → ((before : List Placed) → Tells (plan_kept ledger) ledger before → found ≡ first_bad (plan_kept ledger) before t.placed)
    → (lines : List (List ℕ)) → (stands : Stands expect sealer (Some ledger) lines) → first_bad t.next.plan (placed_of stands.posted) t.placed ≡ found
found_behind expect sealer ledger t found same judges lines stands =
    let plan = kept_plan expect sealer ledger (lines, stands) in
    ap (λ (p : Plan). first_bad p (placed_of stands.posted) t.placed) (same ∙ sym plan) ∙ sym (judges (placed_of stands.posted) (kept_tells expect sealer ledger lines stands))

-- one that was found bad by the ledger is the first bad line
pub kind_advances : (expect : Next) (sealer : Sealer) (ledger : Ledger) (bytes : List ℕ) (t : Taken) (found : Option Kind) (k : Kind) → take_bytes expect bytes ≡ Some t → t.next.plan ≡ expect.plan
    → ((before : List ℕ) → HasTaken sealer before → false ≡ bad_seal before t.placed)
    → ((before : List Placed) → Tells (plan_kept ledger) ledger before → found ≡ first_bad (plan_kept ledger) before t.placed) → found ≡ Some k
    → (lines : List (List ℕ)) → Stands expect sealer (Some ledger) lines → IsFirstBad (lines ++ bytes ∷ []) (length lines + 1) k
kind_advances expect sealer ledger bytes t found k taken same good judges is lines stands =
    kind_over lines (record { posted = stands.posted; next = expect }) bytes t k stands.walks stands.fine taken (inl same)
    (bad_in-placed t.next.plan stands.posted (record { bytes = bytes; line = t.placed }) (sym (good (posted_bytes stands.posted) stands.sealed))
    ∙ (found_behind expect sealer ledger t found same judges lines stands ∙ is))

-- behind one that was found good the lines are fine
pub line_advances : (expect : Next) (sealer sealer' : Sealer) (ledger ledger' : Ledger) (bytes : List ℕ) (t : Taken) (found : Option Kind) → take_bytes expect bytes ≡ Some t → t.next.plan ≡ expect.plan
    → ((before : List ℕ) → HasTaken sealer before → false ≡ bad_seal before t.placed)
    → ((before : List Placed) → Tells (plan_kept ledger) ledger before → found ≡ first_bad (plan_kept ledger) before t.placed)
    → ((before : List Placed) → Tells (plan_kept ledger) ledger before → Tells (plan_kept ledger) ledger' (before ++ t.placed ∷ [])) → found ≡ None
    → ((before : List ℕ) → HasTaken sealer before → HasTaken sealer' (before ++ bytes))
    → (lines : List (List ℕ)) → Stands expect sealer (Some ledger) lines → Stands t.next sealer' (Some ledger') (lines ++ bytes ∷ [])
line_advances expect sealer sealer' ledger ledger' bytes t found taken same good judges keeps is adds lines stands =
    let plan = kept_plan expect sealer ledger (lines, stands) in
    still_stands expect sealer sealer' (Some ledger) (Some ledger') lines bytes t stands taken (inl same) (sym (good (posted_bytes stands.posted) stands.sealed))
    (found_behind expect sealer ledger t found same judges lines stands ∙ is)
    (subst (λ (p : Plan). Tells p ledger' (placed_of stands.posted ++ t.placed ∷ [])) (plan ∙ sym same) (keeps (placed_of stands.posted) (kept_tells expect sealer ledger lines stands)))
    adds

-- THE FIRST LINE BEHIND THE PLAN

-- a ledger that tells the lines of the plan is kept as well as none
pub opened_stands : (expect : Next) (sealer : Sealer) (plan : Plan) (ledger : Ledger) → plan ≡ expect.plan → ((before : List Placed) → AreOfPlan before → Tells plan ledger before)
    → (lines : List (List ℕ)) → Stands expect sealer None lines → Stands expect sealer (Some ledger) lines
opened_stands expect sealer plan ledger same tells lines stands = record {
  posted = stands.posted;
  walks = stands.walks;
  fine = stands.fine;
  sealed = stands.sealed;
  kept = subst (λ (p : Plan). Tells p ledger (placed_of stands.posted)) same (tells (placed_of stands.posted) stands.kept);
}

-- what was found behind it, where there was none
pub opened_advances : (expect new : Next) (sealer sealer' : Sealer) (plan : Plan) (ledger ledger' : Ledger) (bytes : List ℕ) (found : Option Kind) → plan ≡ expect.plan
    → ((before : List Placed) → AreOfPlan before → Tells plan ledger before)
    → ((lines : List (List ℕ)) → Stands expect sealer (Some ledger) lines → Advances found new sealer' (Some ledger') lines bytes)
    → (lines : List (List ℕ)) → Stands expect sealer None lines → Advances found new sealer' (Some ledger') lines bytes
opened_advances expect new sealer sealer' plan ledger ledger' bytes found same tells goes_on lines stands = goes_on lines (opened_stands expect sealer plan ledger same tells lines stands)

-- and where the ledger is kept if it was found good, and else none
pub kept_advances : (found : Option Kind) (new : Next) (sealer : Sealer) (opened : Ledger) (before kept : Option Ledger) (lines : List (List ℕ)) (bytes : List ℕ) → kept ≡ opened_by found opened before
    → Advances found new sealer (Some opened) lines bytes → Advances found new sealer kept lines bytes
kept_advances None new sealer opened before kept lines bytes e stands = subst (λ (o : Option Ledger). Stands new sealer o (lines ++ bytes ∷ [])) (sym e) stands
kept_advances (Some k) new sealer opened before kept lines bytes e bad = bad

-- then there is a ledger
pub kept_opens : (found : Option Kind) (opened : Ledger) (before kept : Option Ledger) (behind : Bool) → kept ≡ opened_by found opened before → behind ≡ true → found ≡ None → is_some kept ≡ behind
kept_opens None opened before kept behind e whole good = ap is_some e ∙ sym whole
kept_opens (Some k) opened before kept behind e whole good = let none : ⊥ = cc in absurd none

-- and behind a bad line there is none, as before
pub kept_closed : (found : Option Kind) (opened : Ledger) (before kept : Option Ledger) → kept ≡ opened_by found opened before → before ≡ None → IsSome found → kept ≡ None
kept_closed None opened before kept e closed bad = let none : ⊥ = cc in absurd none
kept_closed (Some k) opened before kept e closed bad = e ∙ closed

-- HOW MANY LINES

-- what holds of a plan in the making holds behind fine lines
pub made_stands : (expect : Next) (sealer : Sealer) (ledger : Option Ledger) (lines : List (List ℕ)) → Stands expect sealer ledger lines → IsMade expect.plan expect.head
made_stands expect sealer ledger lines stands = start-made lines (record { posted = stands.posted; next = expect }) stands.walks

-- a record has few lines
pub few_stand : (expect : Next) (sealer : Sealer) (ledger : Option Ledger) (lines : List (List ℕ)) → Stands expect sealer ledger lines → length lines ≤ 1200000
few_stand expect sealer ledger lines stands = most_lines_stand lines (record { posted = stands.posted; next = expect }) stands.walks

-- WHAT THE FIRST BAD LINE SAYS OF ALL LINES

pub broken_all : (lines : List (List ℕ)) (bytes : List ℕ) (k : Kind) → IsFirstBad (lines ++ bytes ∷ []) (length lines + 1) k → IsSome (least_broken (lines ++ bytes ∷ []))
broken_all lines bytes k bad =
    let all : least_broken (lines ++ bytes ∷ []) ≡ Some k = ap least_broken (sym (take_all (length lines + 1) (lines ++ bytes ∷ []) (omega (arith, length_push lines bytes)))) ∙ bad.broken in
    subst (λ (o : Option Kind). IsSome o) (sym all) refl
