-- What a statement that is refused leaves, outside a transaction.
use Rattle.std.proofs.Common.{◌≡◌, inl, inr, ℕ, List, false, Err, IsTrue, sym, ◌∙◌}
use Rattle.std.proofs.lemmas.Bool.{cases_Bool}
use Rattle.sqlite.specs.Order.{Row}
use Rattle.sqlite.specs.declared.error.Error.{Error}
use Rattle.sqlite.specs.State.{State, Executes, ExecutesIn, IsNotRun, IsUnchanged, IsRolledBack, shows_rows}

-- all is as before, outside a transaction
pub record Same (old new : State) : Type 0 where
  pub now : new.now ≡ old.now
  pub committed : new.committed ≡ old.committed
  pub settled : new.in_transaction ≡ false

pub unchanged_same : (old new : State) → old.in_transaction ≡ false → IsUnchanged old new → Same old new
unchanged_same old new out h = record { now = h.0.now_is; committed = h.0.committed_is; settled = h.0.mode ∙ out }

pub undone_same : (old new : State) → IsTrue new.is_open → old.now ≡ old.committed → IsRolledBack old new → Same old new
undone_same old new stands same h = record { now = (h.undone stands).0 ∙ sym same; committed = (h.undone stands).1; settled = h.autocommit }

pub refused : (sql : List ℕ) (params : Row) (old new : State) (e : Error) → IsTrue new.is_open → old.now ≡ old.committed → old.in_transaction ≡ false → Executes sql params old new (Err e) → Same old new
unfolding ExecutesIn IsNotRun
refused sql params old new e stands same out (inl (inl h)) = unchanged_same old new out h.1
refused sql params old new e stands same out (inl (inr h)) = undone_same old new stands same h.3
refused sql params old new e stands same out (inr h) = elim (cases_Bool (shows_rows false h.0)) [
  | inl shows ↦ unchanged_same old new out (rw shows at h.2).1
  | inr runs ↦ elim (rw runs at h.2) [ inl k ↦ unchanged_same old new out k.1 | inr k ↦ undone_same old new stands same k.3 ]
]
