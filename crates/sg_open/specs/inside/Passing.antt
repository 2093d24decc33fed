-- The pass over done rows, at a place.
use Rattle.std.specs.Prelude.{◌≡◌, ℕ, ◌+◌, List, [], String, take, drop}
use Rattle.std.specs.BTreeMap.{BTreeMap}
use Rattle.sg_plan.specs.Limits.{first_bad}
use Rattle.sg_keeper.specs.declared.rows.DoneRow.{DoneRow}
use Rattle.sg_histories.specs.ValidRows.{count_done, count_told, done_keeps}
use Rattle.sg_open.specs.inside.Counts.{left_of}

-- the rows before the place are good, and what they did is taken from the counts
pub record Passes {A : Type 0} (stations : ℕ) (told : List (List ℕ)) (counts : BTreeMap (String A) ℕ) (rows : List DoneRow) (at : ℕ) : Type 0 where
  pub left : (text : List ℕ) → left_of counts text + count_done text (take at rows) ≡ count_told text told
  pub bad : first_bad (done_keeps stations told) (take at rows) (drop at rows) ≡ first_bad (done_keeps stations told) [] rows
