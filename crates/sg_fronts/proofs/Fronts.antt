-- Each front of a record goes on to a whole record.
use Rattle.std.proofs.Common.{◌≡◌, ℕ, false, List, [], ◌∷◌, ◌++◌, Option, Some, None, refl, sym, subst, ap, ◌∙◌}
use Rattle.std.specs.Option.{option_map_or}
use Rattle.std.specs.Prelude.{IsSome}
use Rattle.sg_grammar.proofs.FirstLines.{walk-first, walk-none}
use Rattle.sg_grammar.proofs.Walking.{walk-one}
use Rattle.sg_grammar.specs.Walk.{Next, Walked, is_whole, start, walk, walked_on}
use Rattle.sg_record.specs.Laws.{AreWhole}
use Rattle.sg_fronts.proofs.Behind.{CanEnd}
use Rattle.sg_fronts.proofs.Heading.{stage-ends}
use Rattle.sg_fronts.proofs.Standing.{front-stands}
use Rattle.sg_fronts.specs.Fronts.{FrontsGoOn}

-- a walk over some lines and over further lines behind them ends where the second one does
walk-both : (next : Next) (lines more : List (List ℕ)) (w v : Walked) → walk next lines ≡ Some w → walk w.next more ≡ Some v
    → (x : Walked) × (walk next (lines ++ more) ≡ Some x) × (x.next ≡ v.next)
walk-both next [] more w v e d = (v, subst (λ (n : Next). walk n more ≡ Some v) (walk-none next w e) d, refl)
walk-both next (bytes ∷ lines) more w v e d =
    let on = walk-first next bytes lines w e in
    let behind : walk on.rest.next more ≡ Some v = subst (λ (x : Walked). walk x.next more ≡ Some v) (sym on.is) d in
    let others = walk-both on.taken.next lines more on.rest v on.others behind in
    (walked_on bytes on.taken others.0, walk-one next bytes (lines ++ more) on.taken others.0 on.first others.1, others.2)

-- a front and lines that make a whole record behind its state
front-whole : (lines : List (List ℕ)) (w : Walked) (on : CanEnd w.next) → walk start lines ≡ Some w → AreWhole (lines ++ on.more)
front-whole lines w on e =
    let both = walk-both start lines on.more w on.walked e on.goes in
    ap (λ (o : Option Walked). option_map_or (λ (x : Walked). is_whole x.next) o false) both.1 ∙ (ap is_whole both.2 ∙ on.whole)

pub fronts_go_on : FrontsGoOn
fronts_go_on lines front = at_walk (walk start lines) refl front
  where
    at_walk : (o : Option Walked) → walk start lines ≡ o → IsSome o → (more : List (List ℕ)) × AreWhole (lines ++ more)
    at_walk None e there = cc
    at_walk (Some w) e there =
        let can = front-stands lines w e in
        let on : CanEnd w.next = stage-ends w.next.plan w.next.head w.next.due w.next.part can.made can.fill in
        (on.more, front-whole lines w on e)
