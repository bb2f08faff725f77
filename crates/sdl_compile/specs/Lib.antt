pub mod Blocks
pub mod Contexts
pub mod Counts
pub mod Drafts
pub mod Entries
pub mod Facts
pub mod Made
pub mod Meaning
pub mod Meant
pub mod PlaceCounts
pub mod Reads
pub mod Routes
pub mod Settings
pub use Rattle.sdl_rules.specs.Expansion
pub use Rattle.sdl_rules.specs.Laws as SynonymLaws
pub use Rattle.sdl_rules.specs.Synonyms
pub use Rattle.sdl_rules.specs.Texts
pub use Rattle.sdl_rules.specs.Views as SynonymViews
