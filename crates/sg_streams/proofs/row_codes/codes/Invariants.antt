use Rattle.std.proofs.Common.{◌≡◌, ◌-◌, ◌++◌, replicate}
use Rattle.sg_streams.specs.RowCodes.{row_codes}
use Rattle.sg_streams.proofs.row_codes.codes.Given as goal

abbrev pub invariant-loop-at : goal.invariant-loop-at
invariant-loop-at l = record {
  row : l.row ≡ row_codes l.version l.seed.0 l.stream l.at ++ replicate (16 - l.at) 0;
  words : l.words ≡ record { seed = l.seed.0; stream = l.stream; place = l.at };
}
