pub mod Badge
pub mod Key
pub mod Letters
pub mod Name
pub mod Rooms
