pub mod Items
pub mod Laws
pub mod Listed
pub mod Tables
pub mod Totals
pub mod inside
