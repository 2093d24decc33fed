pub mod Findings
pub mod inside
