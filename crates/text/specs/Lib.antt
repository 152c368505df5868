pub mod Bytes
pub mod Lines
pub mod Tokens
pub mod Findings
pub mod Scans
pub mod Numbers
pub mod Words
pub mod Takes
