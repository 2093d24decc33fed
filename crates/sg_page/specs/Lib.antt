-- What a reader of the page's exports believes.
pub mod Page
pub mod Shown
pub mod inside
