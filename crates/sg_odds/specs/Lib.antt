pub mod Answers
pub mod Coins
pub mod Examples
pub mod Odds
pub mod inside
