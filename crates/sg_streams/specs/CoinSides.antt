-- The coins that say which side of a row of table R is opened, drawn from the public bytes
-- (this project's rules for the record; SHA-256 is that of FIPS 180-4).
use Rattle.std.specs.Prelude.{ℕ, ◌+◌, ◌*◌, ◌%◌, ◌^◌, ◌==◌, if◌then◌else◌, List, ◌++◌, codes}
use Rattle.sha2.specs.Sha256.{sha256}
use Rattle.sg_plan.specs.declared.plan.Side.{Side}
use Rattle.sg_plan.specs.declared.plan.Side.TheVariants.{Left, Right}
use Rattle.sg_streams.specs.Streams.{word_of}

-- the seven bytes in front of the public ones
abbrev pub coin_mark : List ℕ
coin_mark = codes "SC2COIN"

-- the seed of the coins
unfoldable pub coin_seed : List ℕ → List ℕ
coin_seed public = sha256 (coin_mark ++ public)

-- the side that a word opens: its lowest bit is the coin, 0 for the left side and 1 for the right
abbrev pub side_of_word : ℕ → Side
side_of_word word = (if word % 2 == 0 then Left else Right)

-- the stream of an instance's coins
abbrev pub coin_stream : ℕ → ℕ → ℕ
coin_stream race instance = race * 2 ^ 32 + instance

-- the side of a row that the coin opens
unfoldable pub coin_of : List ℕ → ℕ → ℕ → ℕ → Side
coin_of seed race instance row = side_of_word (word_of seed (coin_stream race instance) row)

-- where a reader of coins stands: the seed, the race, the instance, and the row of the next coin
pub record CoinPlace : Type 0 where
  pub seed : List ℕ
  pub race : ℕ
  pub instance : ℕ
  pub row : ℕ
