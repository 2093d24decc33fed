-- What a stable sort by key makes of rows.
use Rattle.std.proofs.Common.{◌≡◌, Bool, ℤ, List, ◌++◌, Ordering, is_lt, subst, ◌∙◌, arith}
use Rattle.std.proofs.lemmas.Cmp.{int_cmp_total, on_total}
use Rattle.std.proofs.lemmas.Int.{ints}
use Rattle.std.proofs.lemmas.List.MinMax.{ranks_by}
use Rattle.std.specs.Cmp.{IsTotalOrder, then_total}
use Rattle.std.specs.List.Sorted.{IsSortedBy, IsSortedByKey, IsStableByKey}
use Rattle.std.specs.Ordering.{int_cmp, ordering_then}
use Rattle.sg_keeper.specs.inside.Later.{by_key, put_all}
use Rattle.sg_keeper.proofs.StableSort.{put_all_alike, stable_is_put_all}

-- the order of keys
abbrev pub key_cmp : ℤ × ℤ → ℤ × ℤ → Ordering
key_cmp x y = ordering_then (int_cmp x.0 y.0) (int_cmp x.1 y.1)

key_total : IsTotalOrder key_cmp
key_total = then_total (on_total (λ t. t.0) int_cmp_total) (on_total (λ t. t.1) int_cmp_total)

module _ {A : Type 0} (key : A → ℤ × ℤ) where
  abbrev lower : A → A → Bool
  lower a b = is_lt (key_cmp (key a) (key b))

  lower_is : (a b : A) → lower a b ≡ by_key key a b
  lower_is a b = grind (arith, ints)

  pub sort_puts_all : (rows later all sorted : List A) → all ≡ rows ++ later → IsSortedBy (by_key key) rows → IsSortedByKey key key_cmp sorted → IsStableByKey key key_cmp all sorted
      → sorted ≡ put_all (by_key key) rows later
  sort_puts_all rows later all sorted all_is first up stable =
      stable_is_put_all lower (ranks_by key_total key) rows later sorted (λ k d low high. lower_is _ _ ∙ first k d low high) up (subst (λ l. IsStableByKey key key_cmp l sorted) all_is stable)
      ∙ put_all_alike lower (by_key key) lower_is rows later
