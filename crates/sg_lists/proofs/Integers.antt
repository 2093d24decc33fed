-- Integers, and pairs of them in their order.
use Rattle.std.proofs.Common.{◌≡◌, ℕ, ◌==◌, true, false, ◌&&◌, ◌||◌, arith}
use Rattle.std.proofs.lemmas.Bool.Decides.{nat_tests}
use Rattle.std.proofs.lemmas.Int.{ints}
use Rattle.std.specs.Ordering.{int_eq}
use Rattle.std.specs.Prelude.{ℤ, int_lt, pos}

-- numbers as integers are the same just where the numbers are
pub int_eq-pos : (a b : ℕ) → int_eq (pos a) (pos b) ≡ (a == b)
int_eq-pos a b = grind (arith, ints, nat_tests)

-- a lower one is another
pub lower_differs : (a b : ℤ) → int_lt a b ≡ true → int_eq a b ≡ false
lower_differs a b lower = grind (arith, ints, lower)

-- and so is a higher one
pub higher_differs : (a b : ℤ) → int_lt b a ≡ true → int_eq a b ≡ false
higher_differs a b higher = grind (arith, ints, higher)

-- pairs by the first, and by the second where the first are the same: the order goes on
pub pairs_trans : (a b c n m o : ℤ) → (int_lt a b || (int_eq a b && int_lt n m)) ≡ true → (int_lt b c || (int_eq b c && int_lt m o)) ≡ true → (int_lt a c || (int_eq a c && int_lt n o)) ≡ true
pairs_trans a b c n m o one two = grind (arith, ints, one, two)

-- of two pairs that differ, one is lower
pub pairs_total : (a b n m : ℤ) → (int_lt a b || (int_eq a b && int_lt n m)) ≡ false → (int_eq b a && int_eq m n) ≡ false → (int_lt b a || (int_eq b a && int_lt m n)) ≡ true
pairs_total a b n m higher other = grind (arith, ints, higher, other)
