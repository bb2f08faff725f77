pub mod AsWritten
pub mod Loaded
pub mod Meanings
pub mod Printed
pub use Rattle.sdl_compile.specs.Blocks
pub use Rattle.sdl_compile.specs.Meant
