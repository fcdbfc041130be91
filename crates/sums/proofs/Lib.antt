pub mod Divorce
pub mod Order
pub mod Covered
pub mod Near
pub mod Exact
pub mod Payment
