pub mod Reporting
pub mod Auditing
pub mod Counties
pub mod Courts
