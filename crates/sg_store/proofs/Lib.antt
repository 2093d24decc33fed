-- The lemmas, lowest first.
pub mod Meaning
pub mod Creates
pub mod Rows
pub mod Adds
pub mod Refusals
pub mod Makes
pub mod Lists
pub mod Shapes
pub mod Frames
pub mod Commits
pub mod Queries
pub mod Places
pub mod Dones
pub mod Selected
pub mod Rising
