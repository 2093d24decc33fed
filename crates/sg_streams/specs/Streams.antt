-- The words that an office draws from its seed (this project's rules for the record): the key stream
-- of ChaCha with 20 rounds, which is ten double rounds. The block function is that of RFC 8439, with
-- a 64-bit block counter and a 64-bit stream number in the last four words, each low half first.
use Rattle.std.specs.Prelude.{◌≡◌, ℕ, ◌+◌, ◌*◌, ◌^◌, List}
use Rattle.rand_chacha.specs.ChaCha.{word_at, key_of, seed_of}

-- the number of a stream: what it is for, the race, and an index that the purpose gives a meaning
abbrev pub stream_number : ℕ → ℕ → ℕ → ℕ
stream_number purpose race index = purpose * 2 ^ 48 + race * 2 ^ 32 + index

-- a word of a stream of a seed: word `place mod 16` of the block with the counter `place div 16`
unfoldable pub word_of : List ℕ → ℕ → ℕ → ℕ
word_of seed stream place = word_at 10 (key_of seed) stream place

-- where a reader of words stands: the seed, the stream, and the place of the next word
pub record WordPlace : Type 0 where
  pub seed : List ℕ
  pub stream : ℕ
  pub place : ℕ

-- the seed that a generator's key was made from
unfoldable pub key_seed : List ℕ → List ℕ
key_seed key = seed_of key

-- a generator's key that was made from a seed
abbrev pub IsSeedKey : List ℕ → Type 0
IsSeedKey key = key ≡ key_of (key_seed key)
