-- How the code goes. Only clauses of private functions and proofs cite this.
pub mod Answering
pub mod Finding
pub mod Hearing
