-- What a reader of the law that unaltered runs are accepted believes.
pub mod Accepted
pub mod Totals
pub mod Unaltered
