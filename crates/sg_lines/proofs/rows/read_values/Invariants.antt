-- The values so far are those of the front of the word, if all are digits so far; and where all are, they are the only ones.
use Rattle.std.proofs.Common.{◌≡◌, ℕ, List, take}
use Rattle.std.specs.Prelude.{IsTrue}
use Rattle.sg_lines.specs.inside.Rows.{AreValues}
use Rattle.sg_lines.proofs.rows.read_values.Given as goal

abbrev pub invariant-loop-at : goal.invariant-loop-at
invariant-loop-at l = record {
  found : IsTrue l.is_hex → AreValues (take l.at l.word) (take l.at l.values);
  only : (list : List ℕ) → AreValues l.word list → IsTrue l.is_hex × (take l.at l.values ≡ take l.at list);
}
