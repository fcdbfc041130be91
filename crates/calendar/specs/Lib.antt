pub mod Dates
pub mod Moving
