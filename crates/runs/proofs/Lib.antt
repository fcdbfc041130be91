pub mod Lines
pub mod Forming
pub mod Turns
pub mod Left
pub mod Reports
pub mod Steps
pub mod Parts
