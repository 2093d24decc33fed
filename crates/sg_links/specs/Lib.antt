pub mod Board
pub mod Calling
pub mod inside
