-- The bytes so far spell the front of the word, if all digits so far are; where the word spells bytes, they are their front.
use Rattle.std.proofs.Common.{◌≡◌, ℕ, ◌*◌, List, ◌++◌, take, drop}
use Rattle.std.specs.Prelude.{IsTrue}
use Rattle.sg_lines.specs.Words.{IsBytes, encode_lower}
use Rattle.sg_lines.proofs.Hex.{IsOnTheWay}
use Rattle.sg_lines.proofs.bytes.read_hex.Given as goal

abbrev pub invariant-loop-at : goal.invariant-loop-at
invariant-loop-at l = record {
  bytes : IsBytes l.out;
  found : IsTrue l.is_hex → encode_lower (take l.at l.out) ++ drop (2 * l.at) l.word ≡ l.word;
  only : (bytes : List ℕ) → IsBytes bytes → l.word ≡ encode_lower bytes → IsTrue l.is_hex × IsOnTheWay l.word l.out l.at bytes;
}
