pub mod Forming
pub mod Lines
pub mod Figures
