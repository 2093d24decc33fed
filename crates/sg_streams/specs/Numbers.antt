-- The numbers below a number, as a list.
use Rattle.std.specs.Prelude.{ℕ, List}
use Rattle.std.specs.List.{range_with_len}

-- the numbers below n, rising
unfoldable pub numbers_below : ℕ → List ℕ
numbers_below n = range_with_len 0 n
