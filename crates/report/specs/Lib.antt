pub mod Lines
pub mod Forming
pub mod Figures
