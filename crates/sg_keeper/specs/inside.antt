-- What only private clauses cite. Nobody need believe it.
pub mod Calls
pub mod Later
pub mod PlanLines
pub mod SetupReading
