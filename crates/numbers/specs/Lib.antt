pub mod Rounding
pub mod Below
pub mod Lists
