pub mod Answer
pub mod Contents
pub mod Descent
pub mod Faults
pub mod Held
pub mod Judged
pub mod Law
pub mod Meant
