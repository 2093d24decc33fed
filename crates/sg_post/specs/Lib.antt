pub mod Fits
pub mod Laws
pub mod Marks
pub mod Posted
pub mod Posting
pub mod inside
