pub mod Rows
pub mod Tables
