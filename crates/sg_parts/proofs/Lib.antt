-- The proofs of what is read.
pub mod Accepting
pub mod Cuts
pub mod Finding
pub mod FirstRows
pub mod Halves
pub mod Holding
pub mod Printed
pub mod RowLines
pub mod Sheets
pub mod ShortLines
pub mod Standing
pub mod Takes
pub mod Wholes
