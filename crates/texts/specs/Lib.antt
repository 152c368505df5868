pub mod Writing
pub mod Lines
pub mod Outs
pub mod Laws
pub mod Drawings
pub mod Bills
pub mod Objs
