-- The modules of definitions.
pub mod Asked
pub mod Asking
pub mod Begun
pub mod Does
pub mod Ends
pub mod Laws
pub mod Lines
pub mod Opening
pub mod Outside
pub mod Sheet
pub mod Shown
pub mod Taken
pub mod Talks
pub mod scans
pub mod calls
pub mod inside
