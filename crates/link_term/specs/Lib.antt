pub mod Hearing
pub mod Inside
pub mod Kept
pub mod Laws
pub mod Opening
pub mod Printed
pub mod Speaking
pub mod Term
pub use Rattle.link_processes.specs.Machine
pub use Rattle.link_processes.specs.Offering
pub use Rattle.link_processes.specs.Printed as WantedText
pub use Rattle.link_processes.specs.Wanted
pub use Rattle.link_processes.specs.declared as link_processes_types
