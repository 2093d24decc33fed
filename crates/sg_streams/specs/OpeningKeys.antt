-- The keys with which commitments are opened (this project's rules for the record).
use Rattle.std.specs.Prelude.{ℕ, ◌+◌, ◌*◌, List, ◌++◌}
use Rattle.std.specs.Int.{w32, to_be_bytes}
use Rattle.sg_streams.specs.Streams.{word_of}

-- the four words from a place on, each as four bytes with the highest first
abbrev pub four_words : List ℕ → ℕ → ℕ → List ℕ
four_words seed stream place =
    to_be_bytes w32 (word_of seed stream place)
    ++ to_be_bytes w32 (word_of seed stream (place + 1))
    ++ to_be_bytes w32 (word_of seed stream (place + 2))
    ++ to_be_bytes w32 (word_of seed stream (place + 3))

-- the key of an item of a key stream: words 4p to 4p + 3
unfoldable pub item_key : List ℕ → ℕ → ℕ → List ℕ
item_key seed stream item = four_words seed stream (4 * item)

-- where a reader of keys stands: the seed, the stream, and the item of the next key
pub record KeyPlace : Type 0 where
  pub seed : List ℕ
  pub stream : ℕ
  pub item : ℕ
