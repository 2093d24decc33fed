use Rattle.std.proofs.Common.{rules}
use Rattle.std.proofs.lemmas.List.Sorted.{answers_always}
use Rattle.sg_keeper.proofs.SortedKeys.{sort_puts_all}
use Rattle.sg_keeper.proofs.placed.put_by_sort.Goals as goal

pub returns : goal.returns
returns g c =
    let keys = answers_always _ _ _ (λ f a r next called. search rules) in
    let sorted = c.in_ok-sort_by_key.ensures.sorted g.T.Keyed.key_of keys in
    sort_puts_all g.T.Keyed.key_of _ _ _ _ c.in_ok-put_copies.ensures c.requires sorted (c.sort_by_key.ensures.stable g.T.Keyed.key_of keys)
