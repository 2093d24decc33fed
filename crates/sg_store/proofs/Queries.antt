-- What each selection answers: the rows of its table, in their order.
use Rattle.std.proofs.Common.{◌≡◌, ℕ, ◌^◌, nat_le, cond, unwrap_or, None, true, false, List, [], ◌∷◌, map, flat_map, Less, refl, sym, ap, subst, ◌∙◌}
use Rattle.std.specs.List.Sorted.{IsPermutation}
use Rattle.std.proofs.lemmas.List.Sorted.{IsPermutation-refl, IsPermutation-sym, IsPermutation-trans, IsPermutation-map}
use Rattle.sqlite.specs.declared.types.Value.TheVariants.{Null}
use Rattle.sqlite.specs.Command.TheVariants.{Select}
use Rattle.sqlite.specs.Order.{Row, value_cmp}
use Rattle.sqlite.specs.Program.{overlay}
use Rattle.sqlite.specs.Query.{IsAnswer, Output, output, output_cmp, page}
use Rattle.sqlite.specs.State.{State, Shown}
use Rattle.sqlite.specs.Term.{Term, col}
use Rattle.sqlite.specs.Tree.{Trees, IsTable, IsAscending, rowid}
use Rattle.sqlite.proofs.Callers.{reads_as}
use Rattle.sqlite_keyed.proofs.ListLemmas.{map-map, flat_map-map, flat_map-one, ascending-map, ascending_weaker}
use Rattle.sqlite_keyed.proofs.SortLemmas.{sorted_unique}
use Rattle.sqlite_sql.proofs.QueryLemmas.{output_cmp_total}
use Rattle.sg_store.specs.Tables.{schema_of}
use Rattle.sg_store.proofs.Rows.{Selects, all_by, by_key}

-- a query with no tables of its own reads those of the trees
none_given : (db : Trees) (tree : ℕ) → overlay db [] tree ≡ db tree
none_given db tree = elim (nat_le (2 ^ 31) tree) as (λ b. unwrap_or (cond b None None) (db tree) ≡ db tree) [ true ↦ refl | false ↦ refl ]

-- a statement that selects all rows of a tree by their keys
module _ (tree : ℕ) (columns keys : List Term) (text : List ℕ) (names : List (List ℕ)) (selects : Selects text (all_by tree columns keys) names) where
  abbrev out : Row → Output
  out row = output (all_by tree columns keys) ([] ∷ row ∷ [])

  -- the order in which the rows rise is the only one
  pub all_shown : (old new : State) (found sorted : List Row) → old.now.schema ≡ schema_of 6 → IsPermutation (old.now.trees tree) sorted
      → IsAscending (λ a b. output_cmp (all_by tree columns keys) (out a) (out b) ≡ Less) sorted → Shown text [] old new found → found ≡ map (λ row. (out row).1) sorted
  all_shown old new found sorted has same up h =
      let query = all_by tree columns keys in
      let rows = old.now.trees tree in
      let env = λ (row : Row). [] ∷ row ∷ [] in
      let reads = reads_as text [] old new (schema_of 6) has (Select (record { lets = []; body = query }) names) selects.means.is selects.means.plain selects.unlisted found h in
      let a : IsAnswer query (overlay old.now.trees []) [] found = reads.answer Null in
      let staged : a.staged ≡ map env rows = a.grouped ∙ ap (flat_map (λ row. env row ∷ [])) (none_given old.now.trees tree) ∙ (sym (flat_map-map (λ e. e ∷ []) env rows) ∙ flat_map-one (map env rows)) in
      let kept : a.kept ≡ map out rows = a.distinct ∙ ap (map (output query)) staged ∙ map-map (output query) env rows in
      let moved = IsPermutation-trans (map out sorted) (map out rows) a.ordered (IsPermutation-sym (map out rows) (map out sorted) (IsPermutation-map out rows sorted same)) (subst (λ k. IsPermutation k a.ordered) kept a.same) in
      let ordered = sorted_unique (output_cmp query) (output_cmp_total query) (map out sorted) a.ordered (ascending-map (λ x y. output_cmp query x y ≡ Less) out sorted up) moved a.sorted in
      a.shown ∙ ap (λ xs. page query [] (map (λ (o : Output). o.1) xs)) ordered ∙ map-map (λ (o : Output). o.1) out sorted

-- what a selection shows of a row
abbrev pub shown_by : List Term → Row → Row
shown_by columns row = (output (by_key 0 columns) ([] ∷ row ∷ [])).1

-- a selection by the rowid shows the rows as the tree has them
pub keyed_shown : (tree : ℕ) (columns : List Term) (text : List ℕ) (names : List (List ℕ)) → Selects text (by_key tree columns) names
    → (old new : State) (found : List Row) → old.now.schema ≡ schema_of 6 → IsTable (old.now.trees tree) → Shown text [] old new found → found ≡ map (shown_by columns) (old.now.trees tree)
keyed_shown tree columns text names selects old new found has up h =
    all_shown tree columns (col 1 0 ∷ []) text names selects old new found (old.now.trees tree) has (IsPermutation-refl (old.now.trees tree))
    (ascending_weaker (λ a b. value_cmp (rowid a) (rowid b) ≡ Less) _ (λ a b less. rw less refl) (old.now.trees tree) up) h
