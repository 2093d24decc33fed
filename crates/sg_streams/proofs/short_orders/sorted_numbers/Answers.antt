-- Each turn writes the number of the next pair. The pairs are sorted, so their numbers are in order.
use Rattle.std.proofs.Common.{◌≡◌, ℕ, ◌++◌, ◌-◌, length, map, replicate, take, arith, ap, ◌∙◌, sym}
use Rattle.std.proofs.lemmas.List.{length-map}
use Rattle.std.proofs.Math.Seq.{take-length}
use Rattle.sg_streams.specs.Numbers.{numbers_below}
use Rattle.sg_streams.specs.Order.{keyed}
use Rattle.sg_streams.proofs.NumberLists.{length-numbers_below}
use Rattle.sg_streams.proofs.OneOrders.{IsOrder-is}
use Rattle.sg_streams.proofs.Ordered.{sorted-IsOrder}
use Rattle.sg_streams.proofs.ShortOrders.{numbers-more}
use Rattle.sg_streams.proofs.short_orders.sorted_numbers.Goals as goal

pub loop-at-preserved : goal.loop-at-preserved
loop-at-preserved c =
    numbers-more c.sort_unstable.new.self c.loop-at.numbers c.loop-at.at c.loop-at-test.true (omega (arith, c.sort_unstable.ensures.len, c.requires)) c.loop-at.invariant

pub returns : goal.returns
returns c = λ seed stream n is.
    let pairs = c.sort_unstable.new.self in
    let order = sorted-IsOrder seed stream n pairs (rw (← is) c.sort_unstable.ensures.permutation) c.sort_unstable.ensures.sorted in
    let long : length pairs ≡ n = c.sort_unstable.ensures.len ∙ ap length is ∙ length-map (numbers_below n) (keyed seed stream) ∙ length-numbers_below n in
    let all : length pairs ≡ c.loop-at.at = omega (arith, c.loop-at-test.false, c.loop-at.auto.at-end) in
    let number : ℕ × ℕ → ℕ = λ p. p.1 in
    c.loop-at.invariant
    ∙ ap (λ k. map number (take k pairs) ++ replicate (16 - k) 0) (sym all)
    ∙ ap (λ l. map number l ++ replicate (16 - length pairs) 0) (take-length pairs)
    ∙ ap (λ k. map number pairs ++ replicate (16 - k) 0) long
    ∙ ap (λ l. l ++ replicate (16 - n) 0) (IsOrder-is seed stream n (map number pairs) order)
