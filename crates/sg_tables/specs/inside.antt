-- What no reader needs to believe: how the code keeps the tables.
pub mod Kept
