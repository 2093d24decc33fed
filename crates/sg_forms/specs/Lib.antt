-- What a reader of the forms believes, and the laws.
pub mod Said
pub mod Spelling
pub mod Reading
pub mod Zeros
pub mod inside
pub mod Laws
