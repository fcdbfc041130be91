pub mod Acceptance
pub mod Falling
pub mod Comparison
pub mod Exact
pub mod Figures
