pub mod Printed
pub mod Queue
pub mod Saves
