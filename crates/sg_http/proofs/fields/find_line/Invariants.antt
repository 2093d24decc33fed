-- No header line before this one has the name.
use Rattle.std.proofs.Common.{◌≡◌, map, drop}
use Rattle.httparse.specs.Spans.{header_bytes}
use Rattle.sg_http.specs.Lengths.{values_of}
use Rattle.sg_http.proofs.fields.find_line.Given as goal

abbrev pub invariant-loop-at : goal.invariant-loop-at
invariant-loop-at l =
    values_of l.name (map (header_bytes l.buf) (drop l.at l.headers)) ≡ values_of l.name (map (header_bytes l.buf) (drop l.fn.from l.headers))
