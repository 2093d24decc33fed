-- What is read follows from what `read_hex` ensures.
use Rattle.std.proofs.Common.{◌≡◌, Some, rules, true≢false, sym, ap, ◌∙◌}
use Rattle.sg_lines.proofs.Hex.{hex_of-none, hex_of-some}
use Rattle.sg_lines.proofs.any_bytes.read_into.Goals as goal

pub returns-then-not-read_hex : goal.returns-then-not-read_hex
returns-then-not-read_hex c = hex_of-none c.args.word.now (λ bytes fit is. true≢false (sym (c.read_hex.ensures.only bytes fit is).0 ∙ c.if-not-read_hex.true))

pub returns : goal.returns
returns c =
    let same : c.extend.new.self ≡ c.read_hex.new.out = search rules in
    ap Some same ∙ hex_of-some c.args.word.now c.read_hex.new.out c.read_hex.ensures.bytes (c.read_hex.ensures.found c.if-not-read_hex.false)
