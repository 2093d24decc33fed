-- The digits stand for half as many bytes, and these are what is read.
use Rattle.std.proofs.Common.{◌/◌, ◌++◌, length, drop, sym, ap, arith}
use Rattle.std.proofs.lemmas.List.{length-take-le}
use Rattle.sg_forms.proofs.Drawn.{digits_drawn, spelled_are_public}
use Rattle.sg_forms.proofs.draw.draw_bytes.Goals as goal

pub slice_bounds-read_hex-end : goal.slice_bounds-read_hex-end
slice_bounds-read_hex-end c = let drawn = digits_drawn c.args.digits.now c.requires.digits in omega (arith, drawn.count, drawn.few)

pub slice_bounds-read_hex-end-2 : goal.slice_bounds-read_hex-end-2
slice_bounds-read_hex-end-2 c =
    let drawn = digits_drawn c.args.digits.now c.requires.digits in
    sym (length-take-le (length c.args.digits.now / 2) c.args.out.now (omega (arith, drawn.count, drawn.few)))

pub read_hex-is_hex-requires : goal.read_hex-is_hex-requires
read_hex-is_hex-requires c =
    let drawn = digits_drawn c.args.digits.now c.requires.digits in
    omega (arith, drawn.count, drawn.few, length-take-le (length c.args.digits.now / 2) c.args.out.now (omega (arith, drawn.count, drawn.few)))

pub returns-clause-len : goal.returns-clause-len
returns-clause-len c = let drawn = digits_drawn c.args.digits.now c.requires.digits in omega (arith, drawn.count)

pub returns-clause-few : goal.returns-clause-few
returns-clause-few c = let drawn = digits_drawn c.args.digits.now c.requires.digits in (omega (arith, drawn.count, drawn.some), omega (arith, drawn.count, drawn.few))

pub returns-clause-written : goal.returns-clause-written
returns-clause-written c =
    let drawn = digits_drawn c.args.digits.now c.requires.digits in
    let read = c.read_hex-is_hex.ensures.only _ drawn.are drawn.spelled in
    ap (λ l. l ++ drop (length c.args.digits.now / 2) c.args.out.now) read.1

pub returns-clause-spelled : goal.returns-clause-spelled
returns-clause-spelled c = (digits_drawn c.args.digits.now c.requires.digits).spelled

pub returns-clause-only : goal.returns-clause-only
returns-clause-only c = spelled_are_public c.args.digits.now
