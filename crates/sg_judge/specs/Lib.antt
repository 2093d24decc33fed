pub mod FirstSeal
pub mod Pass
pub mod inside
