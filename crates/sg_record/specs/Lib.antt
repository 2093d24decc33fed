-- What a reader of records believes, and the laws.
pub mod Tree
pub mod Lines
pub mod Formed
pub mod Laws
pub mod Places
pub mod Typed
pub mod Writing
pub mod Pens
pub mod Taking
pub mod inside
