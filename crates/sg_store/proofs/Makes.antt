-- What each statement that makes a table does.
use Rattle.std.proofs.Common.{◌≡◌, ℕ, zero, suc, ◌-◌, ◌<◌, if◌then◌else◌, List, [], false, None, Ok, Err, Result, refl, sym, ap, subst, ◌∙◌, arith}
use Rattle.sqlite.specs.Store.{Ghosts}
use Rattle.sqlite.specs.Table.{Table}
use Rattle.sqlite.specs.Command.TheVariants.{CreateTable, Nothing}
use Rattle.sqlite.specs.Change.{created, next_tree, KeepsRows}
use Rattle.sqlite.specs.Does.{Tally, lacks_sequence}
use Rattle.sqlite.specs.Tree.{Trees}
use Rattle.sqlite.specs.declared.error.Error.{Error}
use Rattle.sqlite.specs.Effect.{Database, IsDatabase}
use Rattle.sqlite.specs.State.{State, Writes, Executes}
use Rattle.sqlite.specs.Held.{Held, state}
use Rattle.sqlite.proofs.Callers.{runs_as}
use Rattle.sg_store.specs.Tables.{setup, ballot, stage, claim, done, voided, schema_of}
use Rattle.sg_store.specs.Told.{HasTables, rows_of, rows_in}
use Rattle.sg_store.specs.inside.Steps.{Makes}
use Rattle.sg_store.proofs.Adds.{went, same_value}
use Rattle.sg_store.proofs.Commits.{unchanged}
use Rattle.sg_store.proofs.Creates.{Creates, stays_behind, create_setup, create_ballot, create_stage, create_claim, create_done, create_voided, creates_setup, creates_ballot, creates_stage, creates_claim, creates_done, creates_voided}
use Rattle.sg_store.proofs.Refusals.{refused}

-- one more table is there, without rows
record Grows (turn : ℕ) (old new : State) : Type 0 where
  pub schema : new.now.schema ≡ schema_of (suc turn)
  pub others : KeepsRows (schema_of turn).tables old.now.trees new.now.trees
  pub empty : new.now.trees (next_tree (schema_of turn)) ≡ []
  pub sound : IsDatabase new.now
  pub committed : new.committed ≡ (if old.in_transaction then old.committed else new.now)
  pub mode : new.in_transaction ≡ old.in_transaction

-- the statement of one turn; one more table without rows leaves the rows that are told
module _ (turn : ℕ) (text : List ℕ) (table : Table) (known : Creates turn text table) (is_turn : turn < 6)
    (kept : (s t : Trees) → KeepsRows (schema_of turn).tables s t → t (next_tree (schema_of turn)) ≡ [] → rows_of (record { schema = schema_of (suc turn); trees = t }) ≡ rows_of (record { schema = schema_of turn; trees = s })) where
  grows : (old new : State) (count : ℕ) → old.now.schema ≡ schema_of turn → Executes text [] old new (Ok count) → Grows turn old new
  grows old new count has h =
      let w = subst (λ t. Writes old new None CreateTable t [] count) known.whole (runs_as text [] old new (schema_of turn) has CreateTable known.makes.is known.makes.plain count h) in
      let all = went w.changed in
      let first = went all.1 in
      let made = first.1 in
      let both : Ok made.table ≡ Ok (record table { tree = 0 }) = sym made.defined ∙ known.defined in
      let same : made.table ≡ record table { tree = 0 } = cc in
      let schema : first.0.schema ≡ schema_of (suc turn) = made.is ∙ ap (λ s. created s made.table) has ∙ ap (created (schema_of turn)) same ∙ known.made in
      let plain : lacks_sequence first.0.schema ≡ false = ap lacks_sequence schema ∙ known.uncounted in
      let now : new.now ≡ first.0 = ap (λ (p : Tally × Database). p.1) (same_value all.2) ∙ same_value (rw plain at first.2) in
      record {
        schema = ap (λ (d : Database). d.schema) now ∙ schema;
        others = subst (λ (d : Database). KeepsRows (schema_of turn).tables old.now.trees d.trees) (sym now) (subst (λ s. KeepsRows s.tables old.now.trees first.0.trees) has made.others);
        empty = ap (λ (d : Database). d.trees (next_tree (schema_of turn))) now ∙ subst (λ s. first.0.trees (next_tree s) ≡ []) has made.empty;
        sound = w.sound;
        committed = w.shown.committed_is;
        mode = w.shown.mode;
      }

  rows_kept : (old new : State) → old.now.schema ≡ schema_of turn → Grows turn old new → rows_of new.now ≡ rows_of old.now
  rows_kept old new has more =
      ap (λ s. rows_of (record new.now { schema = s })) more.schema ∙ kept old.now.trees new.now.trees more.others more.empty ∙ sym (ap (λ s. rows_of (record old.now { schema = s })) has)

  makes : {S : Type 0} (g : Ghosts S) (old new : Held S) (r : Result ℕ Error) → (HasTables g turn old → Executes text [] (state g old) (state g new) r) → Makes g turn old new r
  makes g old new (Err e) h has =
      let same = refused text [] (state g old) (state g new) e (has.sure.stands new) has.same has.settled (h has) in (unchanged g turn old new has same.now same.committed same.settled, ap rows_of same.now)
  makes g old new (Ok count) h has = go (has.count - turn) refl
    where
      go : (more : ℕ) → has.count - turn ≡ more → HasTables g (suc turn) new × (rows_in g new ≡ rows_in g old)
      go zero is =
          let at : has.count ≡ turn = omega (arith, has.low, is) in
          let schema = subst (λ n. old.schema ≡ schema_of n) at has.schema in
          let more = grows (state g old) (state g new) count schema (h has) in (
            record { sure = has.sure; count = suc turn; low = omega arith; high = is_turn; schema = more.schema; settled = more.mode ∙ has.settled; same = sym (more.committed ∙ ap (λ b. if b then (state g old).committed else (state g new).now) has.settled); sound = more.sound },
            rows_kept (state g old) (state g new) schema more,
          )
      go (suc more) is =
          let means = stays_behind turn text table known has.count (omega (arith, is)) in
          let same = (runs_as text [] (state g old) (state g new) (schema_of has.count) has.schema Nothing means.is means.plain count (h has)).0.0 in
          let before : HasTables g (suc turn) old = record { sure = has.sure; count = has.count; low = omega (arith, is); high = has.high; schema = has.schema; settled = has.settled; same = has.same; sound = has.sound } in
          (unchanged g (suc turn) old new before same.now_is same.committed_is (same.mode ∙ has.settled), ap rows_of same.now_is)

module _ {S : Type 0} (g : Ghosts S) where
  -- what is shown of each of the six
  abbrev MakesBy : ℕ → List ℕ → Type 0
  MakesBy turn text = (old new : Held S) (r : Result ℕ Error) → (HasTables g turn old → Executes text [] (state g old) (state g new) r) → Makes g turn old new r

  pub makes_setup : MakesBy 0 create_setup
  makes_setup = makes 0 create_setup setup creates_setup (omega arith) (λ s t k empty. rw (empty) refl) g

  pub makes_ballot : MakesBy 1 create_ballot
  makes_ballot = makes 1 create_ballot ballot creates_ballot (omega arith) (λ s t k empty. rw (k.0, empty) refl) g

  pub makes_stage : MakesBy 2 create_stage
  makes_stage = makes 2 create_stage stage creates_stage (omega arith) (λ s t k empty. rw (k.0, k.1.0, empty) refl) g

  pub makes_claim : MakesBy 3 create_claim
  makes_claim = makes 3 create_claim claim creates_claim (omega arith) (λ s t k empty. rw (k.0, k.1.0, k.1.1.0, empty) refl) g

  pub makes_done : MakesBy 4 create_done
  makes_done = makes 4 create_done done creates_done (omega arith) (λ s t k empty. rw (k.0, k.1.0, k.1.1.0, k.1.1.1.0, empty) refl) g

  pub makes_voided : MakesBy 5 create_voided
  makes_voided = makes 5 create_voided voided creates_voided (omega arith) (λ s t k empty. rw (k.0, k.1.0, k.1.1.0, k.1.1.1.0, k.1.1.1.1.0, empty) refl) g
