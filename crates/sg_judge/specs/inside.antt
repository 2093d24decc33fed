-- How a pass takes one more line. Its public words stand on this, and no promise of a status does; nobody need believe it.
pub mod Taking
-- How a pass is fed.
pub mod Feeding
