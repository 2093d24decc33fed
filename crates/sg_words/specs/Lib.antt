pub mod Command
pub mod Laws
pub mod Numbers
pub mod Usage
pub mod inside
