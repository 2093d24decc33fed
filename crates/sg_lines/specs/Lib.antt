pub mod Parts
pub mod Words
pub mod Laws
pub mod inside
