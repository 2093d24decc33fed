-- How the code goes. Only clauses of private functions and proofs cite this.
pub mod Asking
pub mod Beginning
pub mod Hearing
pub mod LineAsks
pub mod Opening
pub mod Posted
pub mod Printing
