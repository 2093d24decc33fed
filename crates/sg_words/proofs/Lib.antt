pub mod Sized
pub mod Having
