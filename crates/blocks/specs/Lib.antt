pub mod Block
pub mod Reading
pub mod Words
pub mod Files
