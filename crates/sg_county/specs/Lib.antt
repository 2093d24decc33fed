pub mod Bound
pub mod County
pub mod Laws
pub mod Tally
pub mod inside
