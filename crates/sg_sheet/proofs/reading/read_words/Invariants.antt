-- The codes so far, and those that are still to be read, are all.
use Rattle.std.proofs.Common.{◌≡◌, ◌-◌, ◌++◌}
use Rattle.std.specs.Option.{option_map}
use Rattle.sg_sheet.specs.inside.Words.{codes_in}
use Rattle.sg_sheet.proofs.reading.read_words.Given as goal

abbrev pub invariant-loop-at : goal.invariant-loop-at
invariant-loop-at l = option_map (λ list. l.list ++ list) (codes_in l.version (l.count - l._at) l.rest) ≡ codes_in l.version l.count l.fn.bytes
