pub mod Heights
pub mod Limits
pub mod Places
pub mod Plain
pub mod Synonymless
pub mod Views
pub use Rattle.sdl_lex.specs.Spelling
