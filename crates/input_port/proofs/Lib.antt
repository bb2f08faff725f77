pub mod Bits
pub mod Places
pub mod Queues
pub mod Rings
