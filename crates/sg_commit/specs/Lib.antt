pub mod Commitments
pub mod Laws
pub mod Seals
