pub mod Ranges
pub mod Signed
pub mod Carried
pub mod Settled
pub mod Stages
pub mod Past
pub mod Figures
