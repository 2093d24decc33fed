-- What the verdict means, said by whole records.
pub mod ByRecords
pub mod Fronts
pub mod Promised
