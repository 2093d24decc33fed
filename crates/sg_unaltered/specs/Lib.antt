-- What a reader of the laws of unaltered histories believes.
pub mod GoingOn
pub mod UnalteredHistories
