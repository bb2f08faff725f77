pub mod Known
pub mod Laws
pub mod Machine
pub mod Offering
pub mod Printed
pub mod Wanted
