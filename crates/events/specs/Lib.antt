pub mod Bits
pub mod Event
pub mod Kind
pub mod Log
pub mod Record
