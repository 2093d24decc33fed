-- Rows that came later, in the order in which they came.
use Rattle.std.specs.Ordering.{int_eq}
use Rattle.std.specs.Prelude.{ℤ, int_lt, Bool, ◌&&◌, ◌||◌, List, [], ◌∷◌, ◌++◌, fold}
use Rattle.sg_keeper.specs.Rows.{ballot_before, claim_before, done_before, put, stage_before, void_before}
use Rattle.sg_keeper.specs.declared.later.Later.{Later}
use Rattle.sg_keeper.specs.declared.rows.Change.{Change}
use Rattle.sg_keeper.specs.declared.rows.ChangeRow.{ChangeRow}
use Rattle.sg_keeper.specs.declared.rows.ChangeRow.TheVariants.{Ballot, Stage, Claim, Void}
use Rattle.sg_keeper.specs.declared.rows.Rows.{Rows}

-- the rows with those that came later, each put in at its place, one after another
abbrev pub put_all : {A : Type 0} → (A → A → Bool) → List A → List A → List A
put_all before rows later = fold (λ rows row. put before row rows) rows later

-- the first row has the lower key: the first number of it is lower, or it is the same and the second one is lower
abbrev pub by_key : {A : Type 0} → (A → ℤ × ℤ) → A → A → Bool
by_key key a b = int_lt (key a).0 (key b).0 || (int_eq (key a).0 (key b).0 && int_lt (key a).1 (key b).1)

-- all rows with those that came later
abbrev pub with_later : Rows → Later → Rows
with_later rows later = record {
  setup = rows.setup;
  ballots = put_all ballot_before rows.ballots later.ballots;
  stages = put_all stage_before rows.stages later.stages;
  claims = put_all claim_before rows.claims later.claims;
  voids = put_all void_before rows.voids later.voids;
  dones = put_all done_before rows.dones later.dones;
}

-- one more row came
abbrev pub with_one : Later → ChangeRow → Later
with_one later (Ballot row) = record later { ballots = later.ballots ++ row ∷ [] }
with_one later (Stage row) = record later { stages = later.stages ++ row ∷ [] }
with_one later (Claim row) = record later { claims = later.claims ++ row ∷ [] }
with_one later (Void row) = record later { voids = later.voids ++ row ∷ [] }

-- both rows of a change came
abbrev pub with_both : Later → Change → Later
with_both later change = record (with_one later change.row) { dones = later.dones ++ change.done ∷ [] }
