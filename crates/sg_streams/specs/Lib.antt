pub mod CoinSides
pub mod Laws
pub mod Numbers
pub mod OpeningKeys
pub mod Order
pub mod RowCodes
pub mod Streams
