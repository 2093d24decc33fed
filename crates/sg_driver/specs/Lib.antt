-- The modules of definitions.
pub mod Judging
pub mod Says
pub mod Standing
pub mod Taken
pub mod inside
