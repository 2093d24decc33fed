pub mod Talks
pub mod Statuses
pub mod Refusals
mod Plain
mod Posting
mod Writable
mod Turning
pub mod Growing
pub mod Keeping
