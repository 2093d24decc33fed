pub mod Laws
pub mod Posts
pub mod Tables
pub mod inside
