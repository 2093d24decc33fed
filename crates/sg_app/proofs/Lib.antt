-- The proofs.
mod Completing
mod Commands
mod Headlines
mod Obeyed
mod Statuses
