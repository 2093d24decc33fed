pub mod Ballots
pub mod Codes
pub mod Fates
pub mod Laws
pub mod Limits
pub mod Names
pub mod Runs
pub mod inside
