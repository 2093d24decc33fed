-- The modules of definitions.
pub mod Laws
pub mod SampleRun
pub mod Summary
pub mod inside
