pub mod LineBits
pub mod Printed
pub mod Reading
