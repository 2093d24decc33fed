pub mod Counts
pub mod Drawn
pub mod NumberLists
pub mod OneOrders
pub mod Ordered
pub mod SeedKeys
mod ShortOrders
mod StreamNumbers
pub mod Unused
pub mod WordFacts
