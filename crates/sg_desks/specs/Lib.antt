-- The modules of definitions.
pub mod ActReading
pub mod ActTexts
pub mod Laws
pub mod Papers
pub mod Receipts
pub mod inside
