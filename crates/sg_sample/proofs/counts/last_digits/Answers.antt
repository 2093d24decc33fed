-- The last line has 64 digits and a line feed behind others.
use Rattle.std.proofs.Common.{arith}
use Rattle.sg_sample.proofs.Ends.{digits_at, long_enough}
use Rattle.sg_sample.proofs.counts.last_digits.Goals as goal

pub overflow_sub-result : goal.overflow_sub-result
overflow_sub-result c = let long = long_enough c.args.text.now c.requires.0 c.requires.1 in omega (arith, long)

pub returns : goal.returns
returns c = λ digest ends. digits_at c.args.text.now digest ends
