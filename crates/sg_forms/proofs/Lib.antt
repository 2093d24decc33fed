-- The proofs of the forms, of reading and of writing.
pub mod Cutting
pub mod Kept
pub mod Few
pub mod WordKinds
pub mod FormsFound
pub mod FormsRead
pub mod Plain
pub mod Overwriting
pub mod Lengths
pub mod LineLaws
pub mod FormLaws
pub mod Fits
pub mod Written
pub mod Drawn
