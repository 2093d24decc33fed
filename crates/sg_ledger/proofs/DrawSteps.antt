-- What is kept of the draw and of the last claim tells one more line, where it told the lines before.
use Rattle.std.proofs.Common.{◌≡◌, ℕ, Bool, false, List, [], ◌∷◌, ◌++◌, Option, Some, None, is_some, refl, sym, ap, ◌∙◌}
use Rattle.std.specs.Option.{option_map, option_map_or, option_or}
use Rattle.std.proofs.Math.Bool.{or-true}
use Rattle.sg_check.specs.Facts.{DisputedCode, draws_digits, draws_full, first_given, is_full_draw, last_claim, public_bytes, shows_disputed}
use Rattle.sg_forms.specs.Reading.{bytes_of_digits}
use Rattle.sg_ledger.proofs.Lists.{any-push, any-skip, given-push, given-skip}
use Rattle.sg_ledger.specs.inside.Steps.{claim_after, coins_after, full_after, with_shown}
use Rattle.sg_ledger.specs.Tells.{kept_of}
use Rattle.sg_ledger.specs.declared.claims.Claimed.{Claimed}
use Rattle.sg_plan.specs.declared.plan.ClaimWord.{ClaimWord}
use Rattle.sg_streams.specs.CoinSides.{coin_seed}
use Rattle.sg_grammar.specs.Placed.{Placed}
use Rattle.sg_grammar.specs.Placed.Placed.{CodeAt, DrawnFull, DrawnPublic, Disputed}

-- THE DRAW

pub full_step : (full : Bool) (lines : List Placed) (line : Placed) → full ≡ is_full_draw lines → full_after full line ≡ is_full_draw (lines ++ line ∷ [])
full_step full lines DrawnFull told = sym (any-push draws_full lines DrawnFull ∙ or-true (is_full_draw lines))
full_step full lines line told = told ∙ sym (any-skip draws_full lines line refl)

seed_or : (old : Option (List ℕ)) (digits : List ℕ)
    → option_or (option_map coin_seed (option_map bytes_of_digits old)) (Some (coin_seed (bytes_of_digits digits))) ≡ option_map coin_seed (option_map bytes_of_digits (option_or old (Some digits)))
seed_or None digits = refl
seed_or (Some x) digits = refl

pub coins_step : (coins : Option (List ℕ)) (lines : List Placed) (line : Placed) → coins ≡ option_map coin_seed (public_bytes lines)
    → coins_after coins line ≡ option_map coin_seed (public_bytes (lines ++ line ∷ []))
coins_step coins lines (DrawnPublic digits) told =
    ap (λ (o : Option (List ℕ)). option_or o (Some (coin_seed (bytes_of_digits digits)))) told
    ∙ (seed_or (first_given draws_digits lines) digits
    ∙ ap (λ (o : Option (List ℕ)). option_map coin_seed (option_map bytes_of_digits o)) (sym (given-push draws_digits lines (DrawnPublic digits))))
coins_step coins lines line told = told ∙ ap (λ (o : Option (List ℕ)). option_map coin_seed (option_map bytes_of_digits o)) (sym (given-skip draws_digits lines line refl))

pub public_judged : (coins : Option (List ℕ)) (public : Option (List ℕ)) → coins ≡ option_map coin_seed public → is_some coins ≡ is_some public
public_judged coins None are = ap (λ (c : Option (List ℕ)). is_some c) are
public_judged coins (Some bytes) are = ap (λ (c : Option (List ℕ)). is_some c) are

-- THE CLAIM

abbrev behind_more : Placed → DisputedCode → DisputedCode
behind_more line claim = record { code = claim.code; answer = claim.answer; behind = claim.behind ++ line ∷ [] }

-- the line is no claim
abbrev IsNoClaim : Placed → Type 0
IsNoClaim (Disputed ballot race code word) = ⊥
IsNoClaim line = Unit {0}

alone-none : (line : Placed) → IsNoClaim line → last_claim (line ∷ []) ≡ None
alone-none (Disputed ballot race code word) quiet = absurd quiet
alone-none line quiet = refl

claim_behind : (later : Option DisputedCode) (claim : DisputedCode) (line : Placed)
    → option_map_or Some (option_map (behind_more line) later) (Some (behind_more line claim)) ≡ option_map (behind_more line) (option_map_or Some later (Some claim))
claim_behind None claim line = refl
claim_behind (Some x) claim line = refl

-- the last claim stays, with one more line behind it
claim-push : (lines : List Placed) (line : Placed) → IsNoClaim line → last_claim (lines ++ line ∷ []) ≡ option_map (behind_more line) (last_claim lines)
claim-push [] line quiet = alone-none line quiet
claim-push (Disputed ballot race code word ∷ lines) line quiet =
    ap (λ (o : Option DisputedCode). option_map_or Some o (Some (record { code = code; answer = word; behind = lines ++ line ∷ [] }))) (claim-push lines line quiet)
    ∙ claim_behind (last_claim lines) (record { code = code; answer = word; behind = lines }) line
claim-push (x ∷ lines) line quiet = claim-push lines line quiet

-- a new claim is the last one
claim-new : (lines : List Placed) (ballot race code : ℕ) (word : ClaimWord) → last_claim (lines ++ Disputed ballot race code word ∷ []) ≡ Some (record { code = code; answer = word; behind = [] })
claim-new [] ballot race code word = refl
claim-new (Disputed b r c w ∷ lines) ballot race code word =
    ap (λ (o : Option DisputedCode). option_map_or Some o (Some (record { code = c; answer = w; behind = lines ++ Disputed ballot race code word ∷ [] }))) (claim-new lines ballot race code word)
claim-new (x ∷ lines) ballot race code word = claim-new lines ballot race code word

kept-more : (claim : Option DisputedCode) (line : Placed) (now : Claimed → Claimed) → ((c : DisputedCode) → now (kept_of c) ≡ kept_of (behind_more line c))
    → option_map now (option_map kept_of claim) ≡ option_map kept_of (option_map (behind_more line) claim)
kept-more None line now same = refl
kept-more (Some c) line now same = ap Some (same c)

kept-same : (claim : Option DisputedCode) (line : Placed) → ((code : ℕ) → shows_disputed code line ≡ false)
    → option_map kept_of claim ≡ option_map kept_of (option_map (behind_more line) claim)
kept-same None line quiet = refl
kept-same (Some c) line quiet = ap (λ (b : Bool). Some (record { code = c.code; answer = c.answer; shown = b })) (sym (any-skip (shows_disputed c.code) c.behind line (quiet c.code)))

abbrev pub TellsClaim : Option Claimed → List Placed → Type 0
TellsClaim claim lines = claim ≡ option_map kept_of (last_claim lines)

pub claim_step : (claim : Option Claimed) (lines : List Placed) (line : Placed) → TellsClaim claim lines → TellsClaim (claim_after claim line) (lines ++ line ∷ [])
claim_step claim lines (Disputed ballot race code word) told = ap (λ (o : Option DisputedCode). option_map kept_of o) (sym (claim-new lines ballot race code word))
claim_step claim lines (CodeAt block ballot race column code) told =
    let line = CodeAt block ballot race column code in
    ap (λ (o : Option Claimed). option_map (with_shown block code.code) o) told
    ∙ (kept-more (last_claim lines) line (with_shown block code.code)
    (λ c. ap (λ (b : Bool). record { code = c.code; answer = c.answer; shown = b }) (sym (any-push (shows_disputed c.code) c.behind line)))
    ∙ ap (λ (o : Option DisputedCode). option_map kept_of o) (sym (claim-push lines line tt)))
claim_step claim lines line told =
    told ∙ (kept-same (last_claim lines) line (λ code. refl) ∙ ap (λ (o : Option DisputedCode). option_map kept_of o) (sym (claim-push lines line tt)))
