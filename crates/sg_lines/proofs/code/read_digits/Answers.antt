-- The three bytes are the digits of the code, each way.
use Rattle.std.proofs.Common.{◌≡◌, ◌/◌, ◌%◌, Some, ap, arith}
use Rattle.sg_lines.proofs.Signs.{HasPlaces-digits, code_word-from_digits}
use Rattle.sg_lines.proofs.code.read_digits.Goals as goal

pub returns-in_default-clause-only : goal.returns-in_default-clause-only
returns-in_default-clause-only c = λ code small is. absurd (omega (arith, (HasPlaces-digits c.args.word.now code is).0))

pub returns-in_default-2-clause-only : goal.returns-in_default-2-clause-only
returns-in_default-2-clause-only c = λ code small is. absurd (omega (arith, (HasPlaces-digits c.args.word.now code is).0))

pub returns-in_err-high-clause-only : goal.returns-in_err-high-clause-only
returns-in_err-high-clause-only c = λ code small is.
    let read = c.in_err-high.ensures.only (code / 10 / 10) (omega arith) (HasPlaces-digits c.args.word.now code is).1 in
    cc read

pub returns-in_err-middle-clause-only : goal.returns-in_err-middle-clause-only
returns-in_err-middle-clause-only c = λ code small is.
    let read = c.in_err-middle.ensures.only (code / 10 % 10) (omega arith) (HasPlaces-digits c.args.word.now code is).2 in
    cc read

pub returns-in_err-low-clause-only : goal.returns-in_err-low-clause-only
returns-in_err-low-clause-only c = λ code small is.
    let read = c.in_err-low.ensures.only (code % 10) (omega arith) (HasPlaces-digits c.args.word.now code is).3 in
    cc read

pub returns-clause-found : goal.returns-clause-found
returns-clause-found c =
    let high = c.in_ok-high.ensures.found in
    let middle = c.in_ok-middle.ensures.found in
    let low = c.in_ok-low.ensures.found in
    (omega arith, code_word-from_digits c.args.word.now _ _ _ (omega arith) high.0 middle.0 low.0 high.1 middle.1 low.1)

pub returns-clause-only : goal.returns-clause-only
returns-clause-only c = λ code small is.
    let places = HasPlaces-digits c.args.word.now code is in
    let high : c.in_ok-high.high ≡ code / 10 / 10 = cc (c.in_ok-high.ensures.only (code / 10 / 10) (omega arith) places.1) in
    let middle : c.in_ok-middle.middle ≡ code / 10 % 10 = cc (c.in_ok-middle.ensures.only (code / 10 % 10) (omega arith) places.2) in
    let low : c.in_ok-low.low ≡ code % 10 = cc (c.in_ok-low.ensures.only (code % 10) (omega arith) places.3) in
    ap Some (omega arith)
