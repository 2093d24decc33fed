-- The bytes read so far stand in the buffer from `end` on.
use Rattle.std.proofs.Common.{◌≡◌, ◌≤◌, ◌-◌, true, false, length, max, take}
use Rattle.std.specs.Prelude.{Option}
use Rattle.sg_links.specs.Board.{Board, Taken}
use Rattle.sg_http.proofs.body.read_rest.Given as goal

abbrev pub invariant-loop-at : goal.invariant-loop-at
invariant-loop-at g l = record {
  low : l.fn.end ≤ l.at;
  high : l.at ≤ length l.buf;
  most : l.at ≤ max l.fn.end l.fn.goal;
  same : length l.buf ≡ length l.fn.buf;
  front : take l.fn.end l.buf ≡ take l.fn.end l.fn.buf;
  opened : g.L.Links.is_open l.links ≡ true;
  taken : (first : Option Board) → Taken first (g.L.Links.board l.fn.links) (take l.fn.end l.fn.buf) false
      → Taken first (g.L.Links.board l.links) (take l.at l.buf) false;
  later : g.L.Links.faults l.fn.links ≤ g.L.Links.faults l.links;
}

abbrev pub decreases-loop-at : goal.decreases-loop-at
decreases-loop-at g l = l.fn.goal - l.at
