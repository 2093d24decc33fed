pub mod Spelled
pub mod Numbers
pub mod Hex
pub mod DigitRows
pub mod Signs
pub mod Spaces
pub mod Splitting
