pub mod Answers
pub mod Talk
pub mod Laws
pub mod Turns
