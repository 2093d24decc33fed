-- The laws of records.
use Rattle.std.proofs.Common.{◌≡◌, ◌≤◌, ◌++◌, length, Option, Some, None, refl}
use Rattle.std.specs.Option.{IsSome}
use Rattle.sg_grammar.proofs.Counting.{most_lines_stand}
use Rattle.sg_grammar.proofs.Totals.{front_totals}
use Rattle.sg_grammar.proofs.Walking.{walk-front}
use Rattle.sg_grammar.specs.Laws.{FewTotals, FrontsOfFronts, MostLines}
use Rattle.sg_grammar.specs.Walk.{Walked, start, walk}

pub lines_are_few : MostLines
lines_are_few lines front = at_walk (walk start lines) refl front
  where
    at_walk : (o : Option Walked) → walk start lines ≡ o → IsSome o → length lines ≤ 1200000
    at_walk None e there = cc
    at_walk (Some w) e there = most_lines_stand lines w e

pub first_lines_are_front : FrontsOfFronts
first_lines_are_front lines more front = at_walk (walk start (lines ++ more)) refl front
  where
    at_walk : (o : Option Walked) → walk start (lines ++ more) ≡ o → IsSome o → IsSome (walk start lines)
    at_walk None e there = cc
    at_walk (Some w) e there = walk-front start lines more w e

pub totals_are_few : FewTotals
totals_are_few lines walked e = front_totals lines walked e
