pub mod Totals
pub mod Block
pub mod Figures
