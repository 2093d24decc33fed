-- What no reader needs to believe: the steps by which a posting is made and written.
pub mod Lines
pub mod Making
pub mod Ready
pub mod RowMarks
pub mod Walks
