pub mod Places
pub mod Groups
pub mod Order
pub mod Sums
pub mod Words
pub mod Files
pub mod Zeros
