-- The key is that of the seed, and a seed is given back by its key.
use Rattle.std.proofs.Common.{◌≡◌, ◌<◌, ℕ, length, get_or, rules, ap, ◌∙◌}
use Rattle.rand_chacha.specs.ChaCha.{key_of}
use Rattle.sg_streams.specs.Streams.{key_seed}
use Rattle.sg_streams.proofs.SeedKeys.{key_seed-key_of}
use Rattle.sg_streams.proofs.reading.generator_at.Goals as goal

pub returns-clause-seed : goal.returns-clause-seed
returns-clause-seed c =
    let long : length c.args.seed ≡ 32 = search rules in
    let bytes : (k : ℕ) → get_or c.args.seed k 0 < 256 = search rules in
    let key : c.set_word_pos.new.self.key ≡ key_of c.args.seed = search rules in
    ap key_seed key ∙ key_seed-key_of c.args.seed long bytes
