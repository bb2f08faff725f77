pub mod Ends
pub mod Fitting
pub mod Given
pub mod Growing
pub mod Rooms
pub mod Safety
pub mod Turn
pub mod Wording
