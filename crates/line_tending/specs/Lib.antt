pub mod Calling
pub mod Came
pub mod Cares
pub mod Ends
pub mod Giving
pub mod LinkLines
pub mod Lives
pub mod Orders
pub mod Readers
pub mod Rounds
pub mod Sending
pub mod Standing
pub mod Telling
pub mod Tended
pub mod Texts
pub use Rattle.group_changeover.specs.Labels
pub use Rattle.group_changeover.specs.Sharing
pub use Rattle.group_changeover.specs.declared as group_changeover_types
