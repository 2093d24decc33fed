-- The proofs of the laws of unaltered histories.
pub mod Accepting
pub mod GoingOn
pub mod Numbers
pub mod SomeSetup
pub mod UnalteredStories
