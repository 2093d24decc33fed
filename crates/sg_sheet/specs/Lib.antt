pub mod Sheet
pub mod inside
