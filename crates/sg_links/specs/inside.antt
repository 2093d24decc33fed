-- How the code keeps things. Only clauses of private functions, models and proofs cite this.
pub mod Kept
