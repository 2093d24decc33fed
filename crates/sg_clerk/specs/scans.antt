-- The modules of definitions.
pub mod DoesScans
pub mod Laws
pub mod ScansAsked
pub mod ScansEnds
pub mod inside
