-- The number read so far is the one that the digits write, up to one more than the limit.
use Rattle.std.proofs.Common.{◌≡◌, ◌≤◌, drop}
use Rattle.sg_http.proofs.NumeralLemmas.{capped}
use Rattle.sg_http.proofs.fields.read_numeral.Given as goal

abbrev pub invariant-loop-byte : goal.invariant-loop-byte
invariant-loop-byte l = record {
  small : l.number ≤ 65537;
  rest : capped l.number (drop l.byte-index l.value) ≡ capped 0 l.value;
}
