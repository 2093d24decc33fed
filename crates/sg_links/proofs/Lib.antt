mod KeptLemmas
pub mod TakenLemmas
