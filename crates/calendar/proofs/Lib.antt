pub mod Order
pub mod Moved
pub mod Ages
pub mod YearsAhead
pub mod Figures
