-- The modules of definitions.
pub mod Laws
pub mod Tables
pub mod Told
pub mod Why
pub mod inside
