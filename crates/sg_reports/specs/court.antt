-- The modules of definitions.
pub mod Heard
pub mod Odds
pub mod Recounts
pub mod Says
pub mod Texts
pub mod inside
