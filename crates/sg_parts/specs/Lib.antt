pub mod Faults
pub mod Given
pub mod Reads
pub mod Laws
pub mod inside
