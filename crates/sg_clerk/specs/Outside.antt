-- What stands outside the program at a moment.
use Rattle.std.specs.Prelude.{ℕ, List, Option, None}
use Rattle.sg_outside.specs.Streams.{Seen}
use Rattle.sg_links.specs.Board.{Board}

-- the bytes that the input still has, the connections, and the bytes that the output took, where they are told; and the four
-- counts of faults
pub record Outside : Type 0 where
  pub left : Option (List ℕ)
  pub board : Option Board
  pub written : Option (List ℕ)
  pub read_faults : ℕ
  pub link_faults : ℕ
  pub write_faults : ℕ
  pub keep_faults : ℕ

-- the input
abbrev pub input_at : Outside → Seen
input_at outside = record { bytes = outside.left; faults = outside.read_faults }

-- the output
abbrev pub output_at : Outside → Seen
output_at outside = record { bytes = outside.written; faults = outside.write_faults }

-- where no connections are taken
abbrev pub unlinked : (left written : Option (List ℕ)) (reads writes keeps : ℕ) → Outside
unlinked left written reads writes keeps = record {
  left = left;
  board = None;
  written = written;
  read_faults = reads;
  link_faults = 0;
  write_faults = writes;
  keep_faults = keeps;
}

-- where no input is read
abbrev pub unread : (board : Option Board) (written : Option (List ℕ)) (links writes keeps : ℕ) → Outside
unread board written links writes keeps = record {
  left = None;
  board = board;
  written = written;
  read_faults = 0;
  link_faults = links;
  write_faults = writes;
  keep_faults = keeps;
}
