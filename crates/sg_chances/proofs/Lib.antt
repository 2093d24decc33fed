-- The proof of the law of unaltered runs and the odds.
pub mod Chances
pub mod Tables
