-- Lemmas about lists, options, booleans and numbers.
pub mod Any
pub mod Bools
pub mod Counting
pub mod Each
pub mod Finding
pub mod Integers
pub mod Lists
pub mod Numbers
pub mod Options
pub mod Ranges
pub mod Sums
pub mod Tests
