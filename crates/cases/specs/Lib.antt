pub mod Layout
pub mod Entries
pub mod Flags
pub mod Kinds
pub mod Form
pub mod Bits
