pub mod Bytes
pub mod Writing
pub mod Decimal
pub mod Pairs
