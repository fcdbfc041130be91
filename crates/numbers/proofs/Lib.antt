pub mod Rounding
pub mod Within
pub mod Below
pub mod Threshold
pub mod Tests
pub mod Lists
pub mod Counted
