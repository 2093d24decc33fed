-- What follows from the definitions of stream numbers, of orders and of codes alone (this project's rules for the record).
use Rattle.std.specs.Prelude.{◌≡◌, ℕ, ◌^◌, ◌<◌, ◌≤◌, ◌↔◌, List}
use Rattle.sg_plan.specs.Codes.{codes_of}
use Rattle.sg_streams.specs.Order.{IsOneToOne, IsOrder, order_of}
use Rattle.sg_streams.specs.RowCodes.{AreCodes, AreDrawn, row_codes}
use Rattle.sg_streams.specs.Streams.{stream_number}

-- there is exactly one order of each stream and n.
abbrev pub OneOrder : Type 0
OneOrder = (seed : List ℕ) (stream n : ℕ) (list : List ℕ) → IsOrder seed stream n list ↔ (list ≡ order_of seed stream n)

-- orders are one to one
abbrev pub OrdersAreOneToOne : Type 0
OrdersAreOneToOne = (seed : List ℕ) (stream n : ℕ) (list : List ℕ) → IsOrder seed stream n list → IsOneToOne n list

-- the codes of a row are codes of the version, all different, and each is drawn as the rule says
abbrev pub RowsAreCodes : Type 0
RowsAreCodes = (version : ℕ) (seed : List ℕ) (stream k : ℕ) → k ≤ codes_of version
    → AreCodes version k (row_codes version seed stream k) × AreDrawn version seed stream (row_codes version seed stream k)

-- two streams of one number are of the same purpose, race and index
abbrev pub StreamNumbersAreOneToOne : Type 0
StreamNumbersAreOneToOne = (purpose other_purpose race other_race index other_index : ℕ)
    → race < 2 ^ 16 → other_race < 2 ^ 16 → index < 2 ^ 32 → other_index < 2 ^ 32
    → stream_number purpose race index ≡ stream_number other_purpose other_race other_index
    → (purpose ≡ other_purpose) × (race ≡ other_race) × (index ≡ other_index)
