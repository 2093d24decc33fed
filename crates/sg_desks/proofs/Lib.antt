pub mod ActKinds
pub mod ActsAscii
pub mod ActsFound
pub mod ActsRead
pub mod BallotRaces
pub mod Joining
pub mod PaperLists
