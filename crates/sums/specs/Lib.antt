pub mod Rows
pub mod Sum
pub mod Exact
pub mod Payment
