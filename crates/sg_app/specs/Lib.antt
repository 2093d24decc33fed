-- The modules of definitions.
pub mod Headline
pub mod Says
pub mod Touches
