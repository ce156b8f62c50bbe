pub mod Drafted
pub mod Drafting
pub mod Faults
pub mod Law
pub mod Meaning
pub mod Sense
