-- Each turn puts the next code of the row behind those before.
use Rattle.std.proofs.Common.{◌≡◌, ◌++◌, replicate, ◌-◌, ◌*◌, ◌/◌, ◌+◌, ◌^◌, take, refl, arith, rules, ap, ◌∙◌}
use Rattle.std.proofs.lemmas.List.{take_at}
use Rattle.sg_streams.specs.Streams.{word_of}
use Rattle.sg_streams.specs.RowCodes.{draw_of, row_codes}
use Rattle.sg_streams.proofs.Counts.{count_below}
use Rattle.sg_streams.proofs.Drawn.{codes_of-many, row_codes-none, row_codes-set, row_codes_law}
use Rattle.sg_streams.proofs.row_codes.codes.Goals as goal

pub loop-at-init : goal.loop-at-init
loop-at-init c = record { row = rw row_codes-none refl; words = search rules }

pub loop-at-preserved : goal.loop-at-preserved
loop-at-preserved c =
    let seed = c.args.seed.now.0 in
    let at = c.loop-at.at in
    let many = codes_of-many c.args.version c.requires.known_version in
    let word : c.next.result ≡ word_of seed c.args.stream at = search rules in
    let draw : c.drawn-draw.result ≡ draw_of c.args.version (word_of seed c.args.stream at) at =
    c.drawn-draw.ensures.value
    ∙ ap (λ w. w * (c.codes_of-number.result - at) / 2 ^ 32) word
    ∙ ap (λ n. word_of seed c.args.stream at * (n - at) / 2 ^ 32) c.codes_of-number.ensures in
    record {
      row = row_codes-set c.args.version seed c.args.stream at c.unused_at.result c.loop-at.row (omega arith) (omega arith)
          c.loop-at.invariant.row c.unused_at.ensures.unused
          (c.unused_at.ensures.place ∙ ap (λ d. d + count_below c.unused_at.result (take at c.loop-at.row)) draw);
      words = search rules;
    }

pub returns-clause-codes : goal.returns-clause-codes
returns-clause-codes c =
    let seed = c.args.seed.now.0 in
    let many = codes_of-many c.args.version c.requires.known_version in
    let law = row_codes_law c.args.version seed c.args.stream c.args.k (omega arith) in
    let done : c.loop-at.at ≡ c.args.k = omega arith in
    let row = c.loop-at.invariant.row ∙ ap (λ n. row_codes c.args.version seed c.args.stream n ++ replicate (16 - n) 0) done in
    rw (row, take_at (row_codes c.args.version seed c.args.stream c.args.k) (replicate (16 - c.args.k) 0) c.args.k law.0.many) law.0
