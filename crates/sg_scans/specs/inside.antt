-- Definitions that no public clause cites: how a record is read field by field.
pub mod ByField
