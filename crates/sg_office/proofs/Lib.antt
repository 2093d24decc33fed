-- The lemmas, lowest first.
mod Gathered
mod Numbers
mod Blocks
mod Stations
mod Moved
pub mod TakenBack
pub mod NewRows
mod Unequal
mod Pushed
mod Fits
mod NowTold
mod Repeats
mod NewKeys
mod DonesRise
mod Stands
mod Turns
mod NoStore
mod Told
mod NothingKept
