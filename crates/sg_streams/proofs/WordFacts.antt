-- What other crates may want to know of words, keys and coins without their definitions.
use Rattle.std.proofs.Common.{◌≡◌, ℕ, ◌^◌, ◌<◌, List, length, refl, arith}
use Rattle.std.proofs.lemmas.Nat.{mod_below}
use Rattle.rand_chacha.specs.Block.{block_word}
use Rattle.sg_streams.specs.CoinSides.{coin_of, coin_stream, side_of_word}
use Rattle.sg_streams.specs.OpeningKeys.{item_key}
use Rattle.sg_streams.specs.Streams.{word_of}

-- a word has 32 bits
pub word_of-below : (seed : List ℕ) (stream place : ℕ) → word_of seed stream place < 2 ^ 32
unfolding word_of block_word
word_of-below seed stream place = mod_below _ _ (omega arith)

-- a key has 16 bytes
pub length-item_key : (seed : List ℕ) (stream item : ℕ) → length (item_key seed stream item) ≡ 16
unfolding item_key
length-item_key seed stream item = refl

-- a coin is that of a word, for those who read the words themselves
pub coin_of-word : (seed : List ℕ) (race instance row : ℕ) → coin_of seed race instance row ≡ side_of_word (word_of seed (coin_stream race instance) row)
unfolding coin_of
coin_of-word seed race instance row = refl
