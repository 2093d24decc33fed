-- The modules of definitions.
pub mod Answers
pub mod Histories
pub mod HistoryLaws
pub mod KeptRows
pub mod Lawful
pub mod Opens
pub mod Reading
pub mod RowLaws
pub mod Standing
pub mod Stories
pub mod ValidRows
pub mod inside
