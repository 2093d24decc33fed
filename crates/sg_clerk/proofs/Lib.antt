-- The proofs.
pub mod Beginning
pub mod Follows
pub mod Grown
pub mod Hearing
pub mod Keeping
mod LineAsks
mod Opening
mod Sheets
pub mod Showing
mod Staying
mod Taking
pub mod TalkGoes
pub mod TalkGrows
mod TalkEnds
pub mod Talking
pub mod ScanFiles
pub mod Connections
