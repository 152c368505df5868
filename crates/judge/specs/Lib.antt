pub mod Faults
pub mod Judged
pub mod Files
pub mod Cases
