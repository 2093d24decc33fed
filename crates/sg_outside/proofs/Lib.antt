pub mod StreamLemmas
pub mod LineLemmas
mod MemoryLemmas
mod CuttingLemmas
