pub mod Json
pub mod Members
pub mod Asks
pub mod Codes
pub mod ElectionFile
pub mod Replies
pub mod inside
