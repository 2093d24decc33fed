pub mod Faults
pub mod Outcomes
pub mod Streams
pub mod Memory
pub mod TextLines
pub mod Cutting
pub mod inside
