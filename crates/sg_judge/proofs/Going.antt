-- What a pass stands for, with one more line.
use Rattle.std.proofs.Common.{◌≡◌, ℕ, ◌+◌, ◌<◌, ◌^◌, false, List, [], ◌∷◌, ◌++◌, length, Option, Some, None, refl, sym, subst, ap, ◌∙◌, arith}
use Rattle.std.specs.Option.{is_some, option_map_or}
use Rattle.std.proofs.lemmas.List.{length_push}
use Rattle.sg_grammar.specs.Head.{is_behind}
use Rattle.sg_check.specs.Verdict.{IsFirstBad}
use Rattle.sg_check.specs.declared.judged.Kind.{Kind}
use Rattle.sg_commit.specs.declared.Sealer.{Sealer}
use Rattle.sg_ledger.specs.declared.ledger.Ledger.{Ledger}
use Rattle.sg_judge.proofs.Advancing.{broken_all, few_stand}
use Rattle.sg_judge.proofs.Ending.{open_judges}
use Rattle.sg_judge.specs.Pass.{Judges, Says, SaysBehind, is_behind_plan, step_of}
use Rattle.sg_judge.specs.inside.Taking.{Advances, Stands}
use Rattle.sg_grammar.specs.Walk.{Next, Walked}

-- the number of one more line is one of 32 bits
pub number_fits : (broken : Option Kind) (expect : Next) (sealer : Sealer) (ledger : Option Ledger) (number : ℕ) (lines : List (List ℕ)) → Judges broken expect sealer ledger number lines
    → broken ≡ None → number + 1 < 2 ^ 32
number_fits broken expect sealer ledger number lines judges is =
    let kept = open_judges broken expect sealer ledger number lines judges is in
    omega (arith, kept.count, few_stand expect sealer ledger lines kept.stands)

-- what is kept of one line more
judges_found : (found : Option Kind) (expect : Next) (sealer : Sealer) (ledger : Option Ledger) (number : ℕ) (lines : List (List ℕ)) (bytes : List ℕ) → number ≡ length lines
    → (found ≡ None → is_some ledger ≡ is_behind expect.head) → Advances found expect sealer ledger lines bytes → Judges found expect sealer ledger (number + 1) (lines ++ bytes ∷ [])
judges_found None expect sealer ledger number lines bytes same opens stands = record { count = omega (arith, same, length_push lines bytes); opened = opens refl; stands = stands }
judges_found (Some k) expect sealer ledger number lines bytes same opens bad = subst (λ (n : ℕ). IsFirstBad (lines ++ bytes ∷ []) (n + 1) k) (sym same) bad

-- whether a line behind the plan is among fine lines
behind-stands : (expect : Next) (sealer : Sealer) (ledger : Option Ledger) (lines : List (List ℕ)) → Stands expect sealer ledger lines → is_behind_plan lines ≡ is_behind expect.head
behind-stands expect sealer ledger lines stands = ap (λ (o : Option Walked). option_map_or (λ (w : Walked). is_behind w.next.head) o false) stands.walks

-- the ledger is there where one is
pub ready-behind : (broken : Option Kind) (expect : Next) (sealer : Sealer) (ledger : Option Ledger) (number : ℕ) (lines : List (List ℕ)) → Judges broken expect sealer ledger number lines
    → broken ≡ None → is_some ledger ≡ is_behind_plan lines
ready-behind broken expect sealer ledger number lines judges is =
    let kept = open_judges broken expect sealer ledger number lines judges is in
    kept.opened ∙ sym (behind-stands expect sealer ledger lines kept.stands)

-- what is said of one line more
says_found : (found : Option Kind) (expect : Next) (sealer : Sealer) (ledger : Option Ledger) (lines : List (List ℕ)) (bytes : List ℕ)
    → (found ≡ None → is_some ledger ≡ is_behind expect.head) → Advances found expect sealer ledger lines bytes → Says (step_of found (is_some ledger)) (lines ++ bytes ∷ [])
says_found (Some k) expect sealer ledger lines bytes opens bad = broken_all lines bytes k bad
says_found None expect sealer None lines bytes opens stands = (stands.fine, behind-stands expect sealer None (lines ++ bytes ∷ []) stands ∙ sym (opens refl))
says_found None expect sealer (Some ledger) lines bytes opens stands = (stands.fine, behind-stands expect sealer (Some ledger) (lines ++ bytes ∷ []) stands ∙ sym (opens refl))

says_behind : (found : Option Kind) (expect : Next) (sealer : Sealer) (ledger : Option Ledger) (lines : List (List ℕ)) (bytes : List ℕ)
    → Advances found expect sealer ledger lines bytes → SaysBehind (step_of found false) (lines ++ bytes ∷ [])
says_behind (Some k) expect sealer ledger lines bytes bad = broken_all lines bytes k bad
says_behind None expect sealer ledger lines bytes stands = stands.fine

module _ (broken found : Option Kind) (expect new : Next) (sealer sealer' : Sealer) (ledger ledger' : Option Ledger) (number : ℕ) (bytes : List ℕ)
    (is_open : broken ≡ None) (goes_on : (lines : List (List ℕ)) → Stands expect sealer ledger lines → Advances found new sealer' ledger' lines bytes)
    (lines : List (List ℕ)) (judges : Judges broken expect sealer ledger number lines) where
  advanced : Advances found new sealer' ledger' lines bytes
  advanced = goes_on lines (open_judges broken expect sealer ledger number lines judges is_open).stands

  -- what the pass keeps then stands for one line more
  pub judges-push : (found ≡ None → is_some ledger' ≡ is_behind new.head) → Judges found new sealer' ledger' (number + 1) (lines ++ bytes ∷ [])
  judges-push opens = judges_found found new sealer' ledger' number lines bytes (open_judges broken expect sealer ledger number lines judges is_open).count opens advanced

  -- and what it says is right of them
  pub says-push : (found ≡ None → is_some ledger' ≡ is_behind new.head) → Says (step_of found (is_some ledger')) (lines ++ bytes ∷ [])
  says-push opens = says_found found new sealer' ledger' lines bytes opens advanced

  pub says_behind-push : SaysBehind (step_of found false) (lines ++ bytes ∷ [])
  says_behind-push = says_behind found new sealer' ledger' lines bytes advanced
