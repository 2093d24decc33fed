-- What a tally keeps, and how it ends a part. Its public words stand on this, and no promise of a status does.
pub mod Ending
pub mod Going
pub mod Keeping
pub mod Taken
