pub mod Bounding
mod Closing
mod Falling
mod Going
mod Inner
mod LastEnd
mod Lines
mod Noting
mod One
mod PartLists
mod PartRecords
mod Settling
mod Small
mod SumLists
mod TallyEnd
mod TextRead
