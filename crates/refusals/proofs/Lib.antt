pub mod Order
pub mod Every
pub mod Naming
