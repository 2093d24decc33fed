-- The proofs of the law that an honest office is cleared.
pub mod Clear
pub mod Clearing
pub mod Counting
pub mod Handed
pub mod Leading
pub mod Posted
pub mod Rows
pub mod Shapes
pub mod SheetTexts
pub mod Splitting
pub mod Standing
pub mod Telling
pub mod Unaltered
