-- What the code has read and sent so far. Only clauses of private functions cite this.
pub mod Reading
pub mod Responses
