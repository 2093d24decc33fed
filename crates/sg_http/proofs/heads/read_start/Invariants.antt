-- The bytes read so far stand at the front of the buffer, and no head stands at their front.
use Rattle.std.proofs.Common.{◌≡◌, ◌<◌, ◌≤◌, ◌-◌, true, false, length, take}
use Rattle.sg_http.specs.Leads.{HasNoHead}
use Rattle.sg_links.specs.Board.{Taken}
use Rattle.sg_http.proofs.heads.read_start.Given as goal

abbrev pub invariant-loop-count : goal.invariant-loop-count
invariant-loop-count g l = record {
  high : l.end < 8192;
  same : length l.buf ≡ length l.fn.buf;
  headers : length l.headers ≡ 64;
  opened : g.L.Links.is_open l.links ≡ true;
  none : HasNoHead (take l.end l.buf);
  taken : Taken (g.L.Links.board l.fn.links) (g.L.Links.board l.links) (take l.end l.buf) false;
  later : g.L.Links.faults l.fn.links ≤ g.L.Links.faults l.links;
}

abbrev pub decreases-loop-count : goal.decreases-loop-count
decreases-loop-count g l = 8192 - l.end
