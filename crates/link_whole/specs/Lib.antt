pub mod Answered
pub mod Headline
pub mod InputAndSave
pub mod Laws
pub mod Opening
pub mod Printed
pub use Rattle.actor_book.specs.Limits
