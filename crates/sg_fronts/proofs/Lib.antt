-- The proofs of the laws of fronts.
pub mod Behind
pub mod ByRecords
pub mod Filled
pub mod Fronts
pub mod Heading
pub mod Names
pub mod OfRecord
pub mod PlanFronts
pub mod Promised
pub mod Standing
