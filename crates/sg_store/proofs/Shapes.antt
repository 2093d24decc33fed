-- The tables' trees are in order, where each state of the store is sure.
use Rattle.std.proofs.Common.{◌≡◌, List, [], ◌∷◌, subst, refl}
use Rattle.std.specs.List.{AllByRecursion}
use Rattle.sqlite.specs.Store.{Ghosts}
use Rattle.sqlite.specs.Effect.{IsDatabase}
use Rattle.sqlite.specs.Held.{Held, state}
use Rattle.sqlite.specs.Steps.{over_memory}
use Rattle.sqlite_trees.specs.View.{IsShaped}
use Rattle.sqlite_trees.specs.declared.store.Shape.TheVariants.{Table}
use Rattle.sqlite_trees.specs.Memory.{memory_is_ordered, memory_is_listed}
use Rattle.sqlite_schema.specs.Rules.{IsLaidOut}
use Rattle.sqlite_catalog.proofs.LayoutLemmas.{laid_out, objects_rise}
use Rattle.sqlite.proofs.Callers.{memory_is_clean}
use Rattle.sqlite.specs.Table as schema
use Rattle.sqlite.specs.Tree.{Trees}
use Rattle.sg_store.specs.Tables.{schema_of}
use Rattle.sg_store.specs.Told.{IsSure}

-- it is a law of a store in memory
pub memory_is_sure : IsSure over_memory
memory_is_sure = record { clean = memory_is_clean; stands = λ held. refl; ordered = memory_is_ordered; listed = memory_is_listed }

-- the trees of the six tables are in order, and their rowids are integers
pub record AreShaped (db : Trees) : Type 0 where
  pub setup : IsShaped Table (db 0)
  pub ballot : IsShaped Table (db 1)
  pub stage : IsShaped Table (db 2)
  pub claim : IsShaped Table (db 3)
  pub done : IsShaped Table (db 4)
  pub voided : IsShaped Table (db 6)

module _ {S : Type 0} (g : Ghosts S) (sure : IsSure g) (held : Held S) where
  each_shaped : (tables : List schema.Table) → AllByRecursion (λ t. (g.view held.store).shape t.tree ≡ Table) tables → AllByRecursion (λ t. IsShaped Table ((state g held).now.trees t.tree)) tables
  each_shaped [] all = tt
  each_shaped (t ∷ tables) all = (subst (λ s. IsShaped s ((g.view held.store).trees t.tree)) all.0 (sure.ordered held.store t.tree), each_shaped tables all.1)

  pub shaped : IsDatabase (state g held).now → held.schema ≡ schema_of 6 → AreShaped (state g held).now.trees
  shaped sound has =
      let v = g.view held.store in
      let laid : IsLaidOut held.schema v.shape = laid_out (sure.listed held.store) (objects_rise v (sure.listed held.store) (sure.ordered held.store)) sound.lists.listed in
      let all = each_shaped (schema_of 6).tables (subst (λ s. AllByRecursion (λ t. v.shape t.tree ≡ Table) s.tables) has laid.tables) in
      record { setup = all.0; ballot = all.1.0; stage = all.1.1.0; claim = all.1.1.1.0; done = all.1.1.1.1.0; voided = all.1.1.1.1.1.0 }
