-- What became of one connection. Only clauses of private functions cite this.
pub mod Steps
