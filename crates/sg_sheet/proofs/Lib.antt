-- The proofs of sheets.
pub mod Cutting
pub mod Listing
pub mod Styles
