-- How the code goes on and ends. Only clauses of private functions and proofs cite this.
pub mod Hearing
pub mod Stopping
