pub mod Entries
pub mod Listing
pub mod Printed
pub mod Members
