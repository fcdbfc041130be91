pub mod Entries
pub mod Codes
pub mod RowsOfKinds
pub mod PastCount
pub mod Transfers
pub mod AllBits
pub mod FlagBits
