-- The modules of definitions.
pub mod Asked
pub mod FileRecords
pub mod ScanLaws
pub mod ScanLines
pub mod inside
