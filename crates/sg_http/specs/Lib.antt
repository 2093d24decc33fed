pub mod Lengths
pub mod Places
pub mod Leads
pub mod LeadLaws
pub mod Replies
pub mod Visits
pub mod inside
